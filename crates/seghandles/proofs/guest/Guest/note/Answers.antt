use Rattle.segindex.specs.Words.{shape_of}
use Rattle.seghandles.proofs.Rows.{row_stays}
use Rattle.seghandles.proofs.guest.Guest.note.Goals as goal

pub invariant_of-self-clause-row : goal.invariant_of-self-clause-row
invariant_of-self-clause-row c =
    let self = c.args.self.now in
    row_stays (shape_of self.share.index.value) self.member.pass c.note.new.self.pass self.share.held (c.note.ensures.notes.notes.only.keeps.memo) self.row
