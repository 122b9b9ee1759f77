use Rattle.segmodel.proofs.Moves.{moves_are_unread}
use Rattle.segmodel.proofs.laws.moves_are_unread.Goals as goal

pub returns : goal.returns
returns c = moves_are_unread
