use Rattle.segcore.proofs.Whole.{step_sees_all}
use Rattle.segcore.proofs.laws.told_step.Goals as goal

pub returns : goal.returns
returns c = step_sees_all
