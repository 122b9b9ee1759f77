use Rattle.std.proofs.Common.{ap}
use Rattle.segindex.specs.Words.{shape_of}
use Rattle.segstore.specs.Words.{memo}
use Rattle.seghandles.proofs.Rows.{row_stays}
use Rattle.seghandles.proofs.guest.Guest.set_time_to_live.Goals as goal

pub invariant_of-self-clause-row : goal.invariant_of-self-clause-row
invariant_of-self-clause-row c =
    let self = c.args.self.now in
    row_stays (shape_of self.share.index.value) self.member.pass c.set_time_to_live.new.self.pass self.share.held (ap memo c.set_time_to_live.ensures.sets.rest.pass) self.row
