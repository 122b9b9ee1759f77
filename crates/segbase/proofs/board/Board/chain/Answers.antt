use Rattle.std.proofs.Common.{◌<◌, rules, refl}
use Rattle.segbase.specs.Passes.{trace}
use Rattle.segbase.specs.Spots.{cell_at, home_bucket}
use Rattle.segbase.proofs.Exchanging.{missed, last_at}
use Rattle.segbase.proofs.Placed.{spare_in}
use Rattle.segbase.proofs.board.Board.chain.Goals as goal

pub put_chain-found-requires : goal.put_chain-found-requires
put_chain-found-requires c =
    let z = c.args.self.now.shape in let h = trace c.args.pass.now in let home = home_bucket z h c.args.place in
    let few : c.args.overflow < 65536 = spare_in z h home c.args.overflow c.requires.pass.valid c.requires.pass.lawful c.requires.may.0.suits.0 in search rules

pub returns-else-found-old-clause-missed : goal.returns-else-found-old-clause-missed
returns-else-found-old-clause-missed c =
    let z = c.args.self.now.shape in let h = trace c.args.pass.now in let home = home_bucket z h c.args.place in
    let may = c.requires.may in let named = may.0.suits.1 in
    missed c.args.self.now c.args.pass.now _ _ _ c.args.place c.put_chain-found.result c.args.old home _ named.0
    c.requires.pass may.0.guarded refl (last_at z h home (cell_at z c.args.place) may.1) named.2 refl
    c.if-found-old.false c.put_chain-found.ensures
