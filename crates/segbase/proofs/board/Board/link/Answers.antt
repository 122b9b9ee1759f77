use Rattle.std.proofs.Common.{refl}
use Rattle.segmodel.specs.Words.{bucket_of, key_of}
use Rattle.segbase.proofs.Exchanging.{hit, finds_nothing}
use Rattle.segbase.proofs.board.Board.link.Goals as goal

pub returns-clause-did : goal.returns-clause-did
returns-clause-did g c = let may = c.requires.1.1.0.0 in
    hit c.args.self.now c.args.pass.now _ _ _ c.put.result 0 refl
    (finds_nothing c.args.self.now c.args.pass.now _ _ c.put.result (bucket_of c.args.self.now.shape (key_of g.request)) _ may.0.guarded may.1 c.requires.1.1.1 c.put.ensures) c.put.ensures
