use Rattle.std.proofs.Common.{◌≡◌, ◌+◌, ◌<◌, cond, eqb, ap, ◌∙◌, rules}
use Rattle.segcore.specs.Words.{count, packed, raised}
use Rattle.segcore.proofs.Counts.{bump_raised}
use Rattle.segbase.specs.Passes.{number, trace}
use Rattle.segbase.specs.Steps.{freq_part}
use Rattle.segbase.proofs.Moves.{moved_count}
use Rattle.segbase.specs.Spots.{position, home_bucket}
use Rattle.segbase.proofs.Placed.{item_home}
use Rattle.segbase.proofs.board.Board.bump.Goals as goal

pub put-requires : goal.put-requires
put-requires c =
    let z = c.args.self.now.shape in let h = trace c.args.pass.now in let home = home_bucket z h c.args.place in
    let within : home < z.buckets = item_home z h home (position z h c.args.place) c.args.place c.requires.pass.lawful c.requires.chain in search rules

pub returns-clause-raises : goal.returns-clause-raises
returns-clause-raises c =
    let n = number c.args.pass.now in let h = trace c.args.pass.now in let new = c.args.new in let expected = c.pack-expected.result in
    let same : packed new.tag (freq_part expected) new.seg new.row ≡ expected = search rules in
    moved_count c.args.self.now _ c.args.pass.now c.put.new.pass raised c.put.ensures.did.moved
    ∙ (bump_raised n h new.seg new.row new.freq _ ∙ ap (λ w. cond (eqb c.put.result w) 1 0 + count raised n h) same)
