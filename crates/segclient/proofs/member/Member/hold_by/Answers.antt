use Rattle.segindex.specs.Words.{board_of}
use Rattle.segclient.proofs.Cleared.{hold_stays, member_goes}
use Rattle.segclient.proofs.member.Member.hold_by.Goals as goal

pub returns-clause-member : goal.returns-clause-member
returns-clause-member c =
    let b = board_of c.args.share.now.index.value in
    let old = c.args.self.now in
    let call = c.hold in
    member_goes c.args.share.now.index.value old call.new.pass c.requires.member call.ensures.holds.holds.on
    (hold_stays b old.pass call.new.pass c.requires.member.0 _ _ call.ensures.holds.answer
    call.ensures.holds.holds)
