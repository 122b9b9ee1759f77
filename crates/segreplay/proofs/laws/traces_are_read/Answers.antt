use Rattle.segreplay.proofs.Written.{faulted, headed, whole, written}
use Rattle.segreplay.proofs.laws.traces_are_read.Goals as goal

pub returns : goal.returns
returns c = record { written = written; headed = headed; whole = whole; faulted = faulted }
