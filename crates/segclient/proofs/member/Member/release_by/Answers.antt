use Rattle.segindex.specs.Words.{board_of}
use Rattle.segclient.proofs.Cleared.{kept_ended, member_kept}
use Rattle.segclient.proofs.member.Member.release_by.Goals as goal

pub returns-clause-member : goal.returns-clause-member
returns-clause-member c =
    let b = board_of c.args.share.now.index.value in
    let old = c.args.self.now in
    let call = c.release in
    member_kept c.args.share.now.index.value old call.new.pass c.requires.member (kept_ended b old.pass call.new.pass c.requires.member.0 c.args.share.now.held call.ensures.releases)
