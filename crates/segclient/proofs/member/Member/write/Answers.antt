use Rattle.std.proofs.Common.{subst}
use Rattle.segwrite.specs.Words.{request_of}
use Rattle.segindex.specs.Words.{board_of}
use Rattle.segclient.specs.Made.{BeginsWrite}
use Rattle.segclient.proofs.Cleared.{member_goes, write_stays}
use Rattle.segclient.proofs.Written.{made_write, refused_write}
use Rattle.segclient.proofs.member.Member.write.Goals as goal

pub returns-then-not-begin_write-clause-writes : goal.returns-then-not-begin_write-clause-writes
returns-then-not-begin_write-clause-writes c =
    let b = board_of c.args.index.now in
    let old = c.args.self.now in
    let start = c.begin_write in
    let end = c.refuse_write in
    let begins = subst (λ made. BeginsWrite made b old start.new.self) c.if-not-begin_write.true start.ensures.begins in
    refused_write b (request_of c.args.condition c.args.key.now c.args.value.now) old start.new.self end.new.self c.requires.member.0 end.result end.ensures.refuses start.ensures.member.0 begins
    end.ensures.ends

pub end_write-requires : goal.end_write-requires
end_write-requires c =
    let b = board_of c.args.index.now in
    let start = c.begin_write in
    let begun = start.new.self in
    let call = c.write-told in
    record {
      member = member_goes c.args.index.now begun call.new.pass start.ensures.member call.ensures.writes.on
          (write_stays b begun.pass call.new.pass start.ensures.member.0 _ call.result.0 call.ensures.writes);
    }

pub returns-clause-writes : goal.returns-clause-writes
returns-clause-writes c =
    let b = board_of c.args.index.now in
    let old = c.args.self.now in
    let start = c.begin_write in
    let call = c.write-told in
    let end = c.end_write in
    let begins = subst (λ made. BeginsWrite made b old start.new.self) c.if-not-begin_write.false start.ensures.begins in
    made_write b (request_of c.args.condition c.args.key.now c.args.value.now) old start.new.self end.new.self c.requires.member.0 call.result.0 call.new.pass start.ensures.member.0 begins
    call.ensures.writes end.ensures.ends
