use Rattle.segindex.proofs.Noting.{makes_note}
use Rattle.segindex.proofs.index.Index.note.Goals as goal

pub returns : goal.returns
returns c =
    let made = c.note.ensures in
    record { notes = makes_note c.args.self.now.board c.note.result c.args.pass.now c.note.new.pass c.requires.quiet made.pass.0 made.pass.1 made.pass.2 made.note made.noted }
