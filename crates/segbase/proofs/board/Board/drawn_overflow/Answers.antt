use Rattle.std.proofs.Common.{◌≤◌, arith}
use Rattle.segbase.proofs.Exchanging.{counted_few}
use Rattle.segbase.proofs.board.Board.drawn_overflow.Goals as goal

pub overflow_cast-result : goal.overflow_cast-result
overflow_cast-result c = let e : c.load_at.result ≤ 65536 = counted_few c.args.self.now c.args.pass.now _ _ c.requires.pass c.load_at.ensures in omega arith
