use Rattle.std.proofs.Common.{arith}
use Rattle.segstore.proofs.Looks.{one_step}
use Rattle.segwrite.proofs.writing.refuse.Goals as goal

pub returns-clause-steps : goal.returns-clause-steps
returns-clause-steps g c = let one = one_step c.args.board.now c.args.pass.now c.release.new.pass _ _ c.release.ensures.step.1 in omega (arith, one)
