use Rattle.segindex.proofs.Noting.{learns_note}
use Rattle.segindex.proofs.index.Index.learn.Goals as goal

pub returns : goal.returns
returns c =
    let m = c.learn.ensures in
    record { learns = learns_note c.args.self.now.board c.args.note c.args.pass.now c.learn.new.pass c.requires.quiet m.pass.0 m.pass.1 m.pass.2 m.learns }
