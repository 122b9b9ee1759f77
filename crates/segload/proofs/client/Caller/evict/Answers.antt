use Rattle.std.proofs.Common.{◌+◌, refl, ap, ◌∙◌}
use Rattle.segload.proofs.Recycling.{evict_recycles}
use Rattle.segload.proofs.client.Caller.evict.Goals as goal

pub returns-clause-counts : goal.returns-clause-counts
returns-clause-counts c =
    let old = c.args.self.now in
    evict_recycles c.args.index.now.board.shape c.args.segment c.evict-answer.result old.pass c.evict-answer.new.pass old.recycled _ c.evict-answer.ensures.evicts.answer
    (ap (λ n. old.recycled.evictions + n) (c.from.ensures ∙ c.evicted_by.ensures)) refl c.requires.counts
