use Rattle.std.proofs.Common.{refl, inl, inr}
use Rattle.segclient.proofs.put.set_first.Goals as goal

pub returns-clause-sets : goal.returns-clause-sets
returns-clause-sets c = (
  c.args.pass.now,
  record { chooses = inl refl; moves = inl refl; stays = λ inside left. refl },
  inr c.set_while_busy.ensures.sets,
)
