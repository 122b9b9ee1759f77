use Rattle.segbase.proofs.Stepping.{in_table}
use Rattle.segbase.proofs.board.Board.store_at.Goals as goal

pub index-index-requires : goal.index-index-requires
index-index-requires g c = in_table c.args.self.now c.args.pass.now g.step c.args.spot _ c.requires
