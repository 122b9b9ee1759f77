use Rattle.segindex.specs.Words.{board_of}
use Rattle.segclient.proofs.Cleared.{kept_read, member_kept}
use Rattle.segclient.proofs.Copied.{kept_copied}
use Rattle.segclient.proofs.member.Member.value_into_by.Goals as goal

pub returns-clause-member : goal.returns-clause-member
returns-clause-member c =
    let b = board_of c.args.share.now.index.value in
    let old = c.args.self.now in
    let call = c.held_into in
    let kept = c.args.share.now.held in
    let read = kept_copied b kept call.result _ _ old.pass call.new.pass call.ensures.reads in
    member_kept c.args.share.now.index.value old call.new.pass c.requires.member (kept_read b old.pass call.new.pass c.requires.member.0 kept read.0 read.1)
