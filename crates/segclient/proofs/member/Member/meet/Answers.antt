use Rattle.segindex.specs.Words.{board_of}
use Rattle.segclient.proofs.Cleared.{member_goes, nothing_stays}
use Rattle.segclient.proofs.member.Member.meet.Goals as goal

pub returns-clause-member : goal.returns-clause-member
returns-clause-member c =
    let b = board_of c.args.index.now in
    let old = c.args.self.now in
    let first = c.meet.ensures.meets.first in
    member_goes c.args.index.now old c.meet.new.first c.requires.member first.on (nothing_stays b old.pass c.meet.new.first c.requires.member.0 first.on first.keeps.entries)

pub returns-clause-other : goal.returns-clause-other
returns-clause-other c =
    let b = board_of c.args.index.now in
    let other = c.args.other.now in
    let second = c.meet.ensures.meets.second in
    member_goes c.args.index.now other c.meet.new.second c.requires.other second.on (nothing_stays b other.pass c.meet.new.second c.requires.other.0 second.on second.keeps.entries)
