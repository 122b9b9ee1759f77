use Rattle.segindex.proofs.Linear.{linearizable}
use Rattle.segindex.proofs.laws.calls_are_linearizable.Goals as goal

pub returns : goal.returns
returns c = linearizable
