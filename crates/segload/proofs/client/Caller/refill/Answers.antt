use Rattle.std.proofs.Common.{◌+◌, refl, ap}
use Rattle.segload.specs.Making.{load_deadline}
use Rattle.segload.proofs.Recycling.{refill_recycles}
use Rattle.segload.proofs.client.Caller.refill.Goals as goal

pub returns-clause-counts : goal.returns-clause-counts
returns-clause-counts c =
    let old = c.args.self.now in
    refill_recycles c.args.segment load_deadline c.refill-answer.result old.pass c.refill-answer.new.pass old.recycled _ c.refill-answer.ensures.refills.answer
    refl (ap (λ n. old.recycled.refillings + n) c.refilled_by.ensures.value) c.requires.counts
