use Rattle.std.proofs.Common.{Some, refl, sym, subst, arith}
use Rattle.segstore.specs.Words.{TakesAtMost}
use Rattle.segstore.proofs.Refills.{idles}
use Rattle.segwrite.specs.Growing.{MakesRoom}
use Rattle.segwrite.specs.Steps.{most_steps_of_room}
use Rattle.segwrite.proofs.grow.make_room.Goals as goal

pub returns-in-Word : goal.returns-in-Word
returns-in-Word c = let b = c.args.board.now in
    record {
      makes = subst (λ found. MakesRoom b c.args.bucket found (Some c.in-Word.target) c.args.pass.now c.args.pass.now) (sym c.in-Word.is) (refl, idles b c.args.pass.now c.requires.pass);
      steps = subst (λ found. TakesAtMost (most_steps_of_room b.shape found (Some c.in-Word.target)) c.args.pass.now c.args.pass.now) (sym c.in-Word.is) (omega arith);
    }
