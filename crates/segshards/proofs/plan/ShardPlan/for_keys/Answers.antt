use Rattle.std.proofs.Common.{◌≤◌, arith}
use Rattle.std.proofs.lemmas.Grind.{div_ceil_times}
use Rattle.segshards.proofs.Planned.{few_each, only_threads, plan_needed, spread_each}
use Rattle.segshards.proofs.plan.ShardPlan.for_keys.Goals as goal

pub returns-in-Err-clause-fault : goal.returns-in-Err-clause-fault
returns-in-Err-clause-fault c =
    let least = c.max-least.ensures in
    let times = c.div_ceil.ensures in
    let over = c.shards_for-count.ensures.least in
    let few = few_each c.args.keys c.shards_for-count.result c.div_ceil-3.result (omega (arith, least, over)) (omega (arith, least, times, over)) c.div_ceil-3.ensures in
    only_threads _ _ few _ c.in-Err.ensures.err

pub returns-in-Ok-clause-plan : goal.returns-in-Ok-clause-plan
returns-in-Ok-clause-plan c =
    let keys = c.args.keys in
    let count = c.shards_for-count.result in
    let each = c.div_ceil-3.result in
    let least = c.max-least.ensures in
    let over = c.shards_for-count.ensures.least in
    let some : 1 ≤ count = omega (arith, least, over) in
    let times = div_ceil_times keys count some in
    record {
      valid = c.in-Ok.ensures.ok.0;
      passes = c.in-Ok.ensures.ok.1;
      each = each;
      enough = rw c.div_ceil-3.ensures times.0;
      no_more = rw c.div_ceil-3.ensures times.1;
      room = c.in-Ok.ensures.ok.2;
      some = some;
      few = c.shards_for-count.ensures.most;
      needed = plan_needed keys count _ _ _ _ least c.div_ceil.ensures c.from.ensures c.div_ceil-2.ensures
          c.shards_for-count.ensures.needed;
      spread = spread_each keys count each _ _ some c.div_ceil-3.ensures c.from.ensures c.div_ceil-2.ensures
          c.shards_for-count.ensures.wanted;
    }
