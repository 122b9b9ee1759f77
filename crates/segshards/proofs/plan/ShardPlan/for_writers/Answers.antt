use Rattle.std.proofs.Common.{rules, arith, ◌≡◌, ◌*◌, max}
use Rattle.std.specs.Int.{div_ceil}
use Rattle.segshards.specs.Writers.{AreWriters}
use Rattle.segshards.proofs.Writers.{as_needed, counted, each_times, few_keys, no_fault, room, some, spread, too_many, valid, wide_fits}
use Rattle.segshards.proofs.plan.ShardPlan.for_writers.Goals as goal

pub returns-then-least-clause-fault : goal.returns-then-least-clause-fault
returns-then-least-clause-fault c =
    let keys = c.args.keys in let threads = c.args.threads in let writers = c.args.writers in
    let are : AreWriters threads writers = (search rules, search rules) in
    let is_least : c.max-least.result ≡ max (div_ceil (keys * threads) (262144 * writers)) 1 =
    counted keys threads writers _ _ _ _ _ c.max-least.ensures c.div_ceil.ensures c.from.ensures
    c.from-2.ensures c.from-3.ensures in
    (are, too_many keys threads writers c.max-least.result are is_least (omega (arith, c.if-least.true)))

pub returns-in_err-chains-clause-fault : goal.returns-in_err-chains-clause-fault
returns-in_err-chains-clause-fault c =
    let keys = c.args.keys in let threads = c.args.threads in let writers = c.args.writers in
    let each = c.div_ceil-keys_each.result in
    let are : AreWriters threads writers = (search rules, search rules) in
    let is_least : c.max-least.result ≡ max (div_ceil (keys * threads) (262144 * writers)) 1 =
    counted keys threads writers _ _ _ _ _ c.max-least.ensures c.div_ceil.ensures c.from.ensures
    c.from-2.ensures c.from-3.ensures in
    let few = few_keys keys threads writers c.max-least.result c.shards_for-count.result each are is_least c.shards_for-count.ensures.least c.div_ceil-keys_each.ensures in
    absurd (no_fault each threads _ are.0 few c.in_err-chains.ensures.err)

pub returns-in_err-rows-clause-fault : goal.returns-in_err-rows-clause-fault
returns-in_err-rows-clause-fault c =
    let keys = c.args.keys in let threads = c.args.threads in let writers = c.args.writers in
    let each = c.div_ceil-keys_each.result in
    let wide = c.div_ceil-2.result in
    let are : AreWriters threads writers = (search rules, search rules) in
    let is_least : c.max-least.result ≡ max (div_ceil (keys * threads) (262144 * writers)) 1 =
    counted keys threads writers _ _ _ _ _ c.max-least.ensures c.div_ceil.ensures c.from.ensures
    c.from-2.ensures c.from-3.ensures in
    let few = wide_fits keys threads writers c.max-least.result c.shards_for-count.result each are is_least c.shards_for-count.ensures.least c.div_ceil-keys_each.ensures wide c.div_ceil-2.ensures in
    absurd (no_fault wide threads _ are.0 few c.in_err-rows.ensures.err)

pub returns-clause-plan : goal.returns-clause-plan
returns-clause-plan c =
    let keys = c.args.keys in let threads = c.args.threads in let writers = c.args.writers in
    let count = c.shards_for-count.result in
    let over = c.shards_for-count.ensures.least in
    let each = c.div_ceil-keys_each.result in
    let wide = c.div_ceil-2.result in
    let chains = c.in_ok-chains.chains in
    let rows = c.in_ok-rows.rows in
    let are : AreWriters threads writers = (search rules, search rules) in
    let is_least : c.max-least.result ≡ max (div_ceil (keys * threads) (262144 * writers)) 1 =
    counted keys threads writers _ _ _ _ _ c.max-least.ensures c.div_ceil.ensures c.from.ensures
    c.from-2.ensures c.from-3.ensures in
    record {
      valid = valid keys threads writers c.max-least.result count each are is_least over
          c.div_ceil-keys_each.ensures wide c.div_ceil-2.ensures chains rows c.in_ok-chains.ensures.ok
          c.in_ok-rows.ensures.ok;
      passes = c.in_ok-rows.ensures.ok.1;
      each = each;
      enough = (each_times keys threads writers c.max-least.result count each are is_least over c.div_ceil-keys_each.ensures).0;
      no_more = (each_times keys threads writers c.max-least.result count each are is_least over c.div_ceil-keys_each.ensures).1;
      needed = as_needed keys threads writers _ _ _ count c.max-least.result _ are is_least
          c.shards_for-count.ensures.needed c.div_ceil-wanted.ensures c.from.ensures c.from-2.ensures
          c.from-4.ensures;
      spread = spread keys threads writers c.max-least.result count each are is_least over c.div_ceil-keys_each.ensures
          _ _ _ _ c.div_ceil-wanted.ensures c.from.ensures c.from-2.ensures c.from-4.ensures
          c.shards_for-count.ensures.wanted;
      room = room keys threads writers c.max-least.result count each are is_least over c.div_ceil-keys_each.ensures
          wide c.div_ceil-2.ensures chains rows c.in_ok-chains.ensures.ok c.in_ok-rows.ensures.ok;
      some = some keys threads writers c.max-least.result count each are is_least over c.div_ceil-keys_each.ensures;
      few = c.shards_for-count.ensures.most;
    }
