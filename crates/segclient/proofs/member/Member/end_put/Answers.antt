use Rattle.std.proofs.Common.{subst}
use Rattle.segindex.specs.Words.{board_of}
use Rattle.segclient.specs.Made.{EndsWrite}
use Rattle.segclient.specs.PutParts.{with_effort}
use Rattle.segclient.proofs.member.Member.end_put.Goals as goal

pub returns-clause-ends : goal.returns-clause-ends
returns-clause-ends c =
    let b = board_of c.args.index.now in
    let old = c.args.self.now in
    let new = c.end_write.new.self in
    subst (λ told. EndsWrite told b (record old { stats = with_effort c.args.effort old.stats }) new) c.as_write.ensures
    (subst (λ stats. EndsWrite c.as_write.result b (record old { stats = stats }) new) c.count_effort.ensures c.end_write.ensures.ends)
