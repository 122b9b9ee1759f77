use Rattle.segbase.proofs.Runs.{running}
use Rattle.segbase.proofs.running.running_step.Goals as goal

pub returns : goal.returns
returns c = running
