use Rattle.segbase.proofs.Taking.{takes}
use Rattle.segbase.proofs.board.Board.take.Goals as goal

pub returns-clause-takes : goal.returns-clause-takes
returns-clause-takes c = takes c.args.self.now c.args.bucket c.or_at.result c.args.pass.now _ c.or_at.ensures
