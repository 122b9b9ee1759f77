use Rattle.std.proofs.Common.{refl}
use Rattle.segbase.proofs.Allowed.{store_of}
use Rattle.segbase.proofs.Stepping.{stepped}
use Rattle.segbase.proofs.board.Board.store_index.Goals as goal

pub store-requires : goal.store-requires
store-requires g c = let r = c.requires in store_of c.args.self.now c.args.pass.now g.step c.args.spot _ _ r.0 r.1.0 r.1.1

pub returns : goal.returns
returns g c = let then = c.store.ensures.2 in (then.0.0, stepped c.args.self.now g.step c.args.spot _ then.0.0 c.args.pass.now _ c.requires.0 c.store.ensures.0 (then.0.1, then.1) refl)
