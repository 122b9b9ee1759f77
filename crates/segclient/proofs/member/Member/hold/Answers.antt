use Rattle.segindex.specs.Words.{board_of}
use Rattle.segclient.proofs.Cleared.{hold_stays, member_goes}
use Rattle.segclient.proofs.member.Member.hold.Goals as goal

pub returns-clause-member : goal.returns-clause-member
returns-clause-member c =
    let b = board_of c.args.index.now in
    let old = c.args.self.now in
    let call = c.hold in
    member_goes c.args.index.now old call.new.pass c.requires.member call.ensures.holds.on (hold_stays b old.pass call.new.pass c.requires.member.0 _ _ call.result call.ensures.holds)
