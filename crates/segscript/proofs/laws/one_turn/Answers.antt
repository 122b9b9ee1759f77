use Rattle.segscript.proofs.Lines.{one_spelling}
use Rattle.segscript.proofs.laws.one_turn.Goals as goal

pub returns : goal.returns
returns c = one_spelling
