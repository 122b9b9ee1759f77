use Rattle.std.proofs.Common.{refl}
use Rattle.segshards.proofs.Budgeted.{alone_or, planned}
use Rattle.segshards.proofs.plan.ShardPlan.for_bytes.Goals as goal

pub returns-in-Some-clause-plan : goal.returns-in-Some-clause-plan
returns-in-Some-clause-plan c =
    let counted = c.shards_within.ensures in
    planned c.args.bytes c.args.threads c.shards_within.result counted.some counted.few counted.enough c.in-Some.plan c.in-Some.ensures.plan

pub returns-clause-plan : goal.returns-clause-plan
returns-clause-plan c =
    let counted = c.shards_within.ensures in
    alone_or c.args.bytes c.args.threads c.shards_within.result counted.some counted.few counted.enough counted.needed
    (c.in_default.ensures.none refl) _ c.ok_or.result c.ok_or.ensures.ok_part c.largest_plan-2.ensures.plan
