use Rattle.std.proofs.Common.{refl}
use Rattle.segbase.proofs.Allowed.{step_of}
use Rattle.segbase.proofs.Stepping.{stepped}
use Rattle.segbase.proofs.board.Board.load_index.Goals as goal

pub load-requires : goal.load-requires
load-requires g c = let r = c.requires in step_of c.args.self.now c.args.pass.now g.step c.args.spot _ _ r.0 r.1.0 r.1.1

pub returns : goal.returns
returns g c = stepped c.args.self.now g.step c.args.spot _ c.load.result c.args.pass.now _ c.requires.0 c.load.ensures.0 c.load.ensures.2 refl
