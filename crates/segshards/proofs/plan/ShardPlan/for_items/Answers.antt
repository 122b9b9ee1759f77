use Rattle.std.proofs.Common.{rules, arith, ◌≡◌, ◌*◌, ◌<◌, max, subst}
use Rattle.std.specs.Int.{div_ceil}
use Rattle.segshards.specs.declared.plan.ShardPlan.{ShardPlan}
use Rattle.segshards.specs.Items.{IsPlanForItems}
use Rattle.segshards.specs.Writers.{AreWriters}
use Rattle.segshards.proofs.Writers.{as_needed, counted, each_fits, each_times, some, spread, too_many}
use Rattle.segshards.proofs.plan.ShardPlan.for_items.Goals as goal

pub returns-then-least-clause-fault : goal.returns-then-least-clause-fault
returns-then-least-clause-fault c =
    let items = c.args.items in let rows = c.rows_of_mean-rows_each.result in
    let few = c.rows_of_mean-rows_each.ensures.few in
    let are : AreWriters rows 1 = (few, (omega arith, few.0)) in
    let is_least : c.max-least.result ≡ max (div_ceil (items * rows) (262144 * 1)) 1 =
    counted items rows 1 _ _ _ _ _ c.max-least.ensures c.div_ceil.ensures c.from.ensures
    c.from-2.ensures c.from-3.ensures in
    let many = too_many items rows 1 c.max-least.result are is_least (omega (arith, c.if-least.true)) in
    (search rules, subst (λ r. 4294967296 < items * r) c.rows_of_mean-rows_each.ensures.rows (omega (arith, many)))

pub shape_for_items-shape-requires-clause-few : goal.shape_for_items-shape-requires-clause-few
shape_for_items-shape-requires-clause-few c =
    let items = c.args.items in let rows = c.rows_of_mean-rows_each.result in
    let few = c.rows_of_mean-rows_each.ensures.few in
    let are : AreWriters rows 1 = (few, (omega arith, few.0)) in
    let is_least : c.max-least.result ≡ max (div_ceil (items * rows) (262144 * 1)) 1 =
    counted items rows 1 _ _ _ _ _ c.max-least.ensures c.div_ceil.ensures c.from.ensures
    c.from-2.ensures c.from-3.ensures in
    let fits = each_fits items rows 1 c.max-least.result c.shards_for-count.result c.div_ceil-2.result
    are is_least c.shards_for-count.ensures.least c.div_ceil-2.ensures in
    omega (arith, fits, few.1)

pub returns-clause-plan : goal.returns-clause-plan
returns-clause-plan c =
    let items = c.args.items in let rows = c.rows_of_mean-rows_each.result in
    let few = c.rows_of_mean-rows_each.ensures.few in
    let count = c.shards_for-count.result in
    let over = c.shards_for-count.ensures.least in
    let each = c.div_ceil-2.result in
    let is_each = c.div_ceil-2.ensures in
    let are : AreWriters rows 1 = (few, (omega arith, few.0)) in
    let is_least : c.max-least.result ≡ max (div_ceil (items * rows) (262144 * 1)) 1 =
    counted items rows 1 _ _ _ _ _ c.max-least.ensures c.div_ceil.ensures c.from.ensures
    c.from-2.ensures c.from-3.ensures in
    let times = each_times items rows 1 c.max-least.result count each are is_least over is_each in
    let plan : ShardPlan = record { shape = c.shape_for_items-shape.result; count = count } in
    subst (λ r. IsPlanForItems items r c.args.threads plan) c.rows_of_mean-rows_each.ensures.rows
    record {
      each = each;
      shape = c.shape_for_items-shape.ensures.shape;
      enough = times.0;
      no_more = times.1;
      some = some items rows 1 c.max-least.result count each are is_least over is_each;
      few = c.shards_for-count.ensures.most;
      needed = as_needed items rows 1 _ _ _ count c.max-least.result _ are is_least
          c.shards_for-count.ensures.needed c.div_ceil-wanted.ensures c.from.ensures c.from-2.ensures
          c.from-4.ensures;
      spread = spread items rows 1 c.max-least.result count each are is_least over is_each
          _ _ _ _ c.div_ceil-wanted.ensures c.from.ensures c.from-2.ensures c.from-4.ensures
          c.shards_for-count.ensures.wanted;
    }
