use Rattle.segscript.proofs.Reported.{explained}
use Rattle.segscript.proofs.laws.explained_is_reported.Goals as goal

pub returns : goal.returns
returns c = explained
