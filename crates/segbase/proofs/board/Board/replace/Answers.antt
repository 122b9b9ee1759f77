use Rattle.std.proofs.Common.{refl}
use Rattle.segmodel.specs.Words.{bucket_of, key_of}
use Rattle.segbase.proofs.Exchanging.{missed}
use Rattle.segbase.proofs.board.Board.replace.Goals as goal

pub returns-else-found-old-clause-missed : goal.returns-else-found-old-clause-missed
returns-else-found-old-clause-missed g c = let may = c.requires.1.1.0.0 in let present = c.requires.1.1.1 in
    missed c.args.self.now c.args.pass.now _ _ _ c.args.place c.put-found.result c.args.old
    (bucket_of c.args.self.now.shape (key_of g.request)) _ present.0 c.requires.0 may.0.guarded refl may.1
    present.1 refl c.if-found-old.false c.put-found.ensures
