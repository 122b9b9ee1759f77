use Rattle.std.proofs.Common.{refl}
use Rattle.segmodel.specs.Words.{bucket_of}
use Rattle.segbase.proofs.Exchanging.{missed}
use Rattle.segbase.proofs.board.Board.clear.Goals as goal

pub returns-else-found-old-clause-missed : goal.returns-else-found-old-clause-missed
returns-else-found-old-clause-missed g c = let may = c.requires.1 in let leaves = may.0.suits in
    missed c.args.self.now c.args.pass.now _ _ _ c.args.place c.exchange_at-found.result c.args.old
    (bucket_of c.args.self.now.shape g.left.0) _ leaves.0 c.requires.0 may.0.guarded refl may.1 leaves.1 refl
    c.if-found-old.false c.exchange_at-found.ensures
