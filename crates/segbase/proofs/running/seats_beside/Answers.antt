use Rattle.segbase.proofs.Runs.{beside}
use Rattle.segbase.proofs.running.seats_beside.Goals as goal

pub returns : goal.returns
returns c = beside
