use Rattle.segindex.specs.Words.{board_of}
use Rattle.segclient.proofs.Cleared.{member_goes, nothing_stays}
use Rattle.segclient.proofs.member.Member.held_into.Goals as goal

pub returns-clause-member : goal.returns-clause-member
returns-clause-member c =
    let b = board_of c.args.index.now in
    let old = c.args.self.now in
    let call = c.held_into in
    member_goes c.args.index.now old call.new.pass c.requires.member call.ensures.reads.reads.on
    (nothing_stays b old.pass call.new.pass c.requires.member.0 call.ensures.reads.reads.on
    call.ensures.reads.reads.keeps.entries)
