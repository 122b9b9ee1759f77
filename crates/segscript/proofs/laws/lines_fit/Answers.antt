use Rattle.segscript.proofs.Lines.{lines_fit}
use Rattle.segscript.proofs.laws.lines_fit.Goals as goal

pub returns : goal.returns
returns c = lines_fit
