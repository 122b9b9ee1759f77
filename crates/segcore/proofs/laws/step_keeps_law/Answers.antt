use Rattle.segcore.proofs.StepKinds.{keeps}
use Rattle.segcore.proofs.laws.step_keeps_law.Goals as goal

pub returns : goal.returns
returns c = keeps
