use Rattle.segindex.proofs.Commands.{none_kept}
use Rattle.segindex.proofs.laws.keep_of_all.Goals as goal

pub returns : goal.returns
returns c = none_kept
