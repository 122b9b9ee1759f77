use Rattle.std.proofs.Common.{refl}
use Rattle.segbase.proofs.Allowed.{step_of}
use Rattle.segbase.proofs.Stepping.{in_table, stepped}
use Rattle.segbase.proofs.board.Board.add_at.Goals as goal

pub index-index-requires : goal.index-index-requires
index-index-requires g c = in_table c.args.self.now c.args.pass.now g.step c.args.spot _ c.requires

pub fetch_add-requires : goal.fetch_add-requires
fetch_add-requires g c = step_of c.args.self.now c.args.pass.now g.step c.args.spot _ _ c.requires c.index-index.ensures.place c.index-index.ensures.within

pub returns : goal.returns
returns g c = stepped c.args.self.now g.step c.args.spot _ c.fetch_add.result c.args.pass.now _ c.requires c.fetch_add.ensures.0 c.fetch_add.ensures.2 refl
