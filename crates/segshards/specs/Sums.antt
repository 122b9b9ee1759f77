-- What is counted in all shards: the sum of each number, or the largest one that fits.
use Rattle.std.specs.Prelude.{◌≡◌, ◌+◌, ◌-◌, ◌^◌, min, List, fold}
use Rattle.segindex.specs.declared.table_stats.IndexStats.{IndexStats}
use Rattle.segclient.specs.declared.client.Client as one
use Rattle.segclient.specs.declared.stats.Stats.{Stats}
use Rattle.segclient.specs.Counting.{no_stats, with_more}
use Rattle.segclient.specs.Made.{ReturnsTable}
use Rattle.segshards.specs.declared.client.Client.{Client}
use Rattle.segshards.specs.Each.{EachAnswers}

abbrev pub stats_sum : Stats → Stats → Stats
stats_sum sum more = record {
  hits = with_more sum.hits more.hits;
  misses = with_more sum.misses more.misses;
  stored = with_more sum.stored more.stored;
  not_stored = with_more sum.not_stored more.not_stored;
  exists = with_more sum.exists more.exists;
  not_found = with_more sum.not_found more.not_found;
  deleted = with_more sum.deleted more.deleted;
  no_room = with_more sum.no_room more.no_room;
  bucket_full = with_more sum.bucket_full more.bucket_full;
  busy = with_more sum.busy more.busy;
  segments_refilled = with_more sum.segments_refilled more.segments_refilled;
  items_kept = with_more sum.items_kept more.items_kept;
  keys_evicted = with_more sum.keys_evicted more.keys_evicted;
}

-- what the clients of all shards counted
abbrev pub stats_of : List one.Client → Stats
stats_of = fold (λ sum client. stats_sum sum client.member.stats) no_stats

abbrev pub table_sum : IndexStats → IndexStats → IndexStats
table_sum sum more = record {
  overflow_buckets = min (sum.overflow_buckets + more.overflow_buckets) (2 ^ 32 - 1);
  used_rows = min (sum.used_rows + more.used_rows) (2 ^ 32 - 1);
  named_rows = min (sum.named_rows + more.named_rows) (2 ^ 32 - 1);
}

abbrev pub table_of : List IndexStats → IndexStats
table_of = fold table_sum (record { overflow_buckets = 0; used_rows = 0; named_rows = 0 })

-- what the client of each shard sees of its table was counted, and these are the sums
pub record ReturnsTables (told : IndexStats) (old new : Client) : Type 0 where
  pub each : List IndexStats
  pub reads : EachAnswers ReturnsTable each old new
  pub sums : told ≡ table_of each
