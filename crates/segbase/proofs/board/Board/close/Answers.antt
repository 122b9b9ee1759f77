use Rattle.std.proofs.Common.{refl}
use Rattle.segbase.proofs.Closed.{closes}
use Rattle.segbase.proofs.board.Board.close.Goals as goal

pub returns : goal.returns
returns c = closes c.args.self c.args.pass _ _ c.requires refl c.close_with.ensures.values.2
