use Rattle.segbase.specs.Passes.{trace}
use Rattle.segbase.proofs.Moves.{moved_on}
use Rattle.segbase.proofs.Carried.{are_one}
use Rattle.segbase.proofs.board.Board.meet.Goals as goal

pub returns-clause-one : goal.returns-clause-one
returns-clause-one c = are_one (trace c.args.first.now) (trace c.args.second.now) _ (moved_on c.args.self.now _ c.args.first.now _ c.tell.ensures.pass.0) c.tell.ensures.met
