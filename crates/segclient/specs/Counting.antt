-- What a client counts: its calls, each by what it came to, and what its puts gave up and kept.
use Rattle.std.specs.Prelude.{ℕ, ◌+◌, ◌-◌, ◌^◌, min, List, sum_by}
use Rattle.segtally.specs.declared.tally.Tally.{Tally}
use Rattle.segtally.specs.declared.tally.Tally.TheVariants as tally
use Rattle.segclient.specs.declared.stats.Stats.{Stats}
use Rattle.segclient.specs.Clearing.{came_to_step, Step}
use Rattle.segclient.specs.PutCalls.{PutCall, came_to, evicted_keys, kept_items, refilled_segments}

abbrev pub no_stats : Stats
no_stats = record {
  hits = 0;
  misses = 0;
  stored = 0;
  not_stored = 0;
  exists = 0;
  not_found = 0;
  deleted = 0;
  no_room = 0;
  bucket_full = 0;
  busy = 0;
  segments_refilled = 0;
  items_kept = 0;
  keys_evicted = 0;
}

-- a number with so many more, or the largest one of 64 bits
abbrev pub with_more : ℕ → ℕ → ℕ
with_more number more = min (number + more) (2 ^ 64 - 1)

-- one call more is counted
abbrev pub counted : Tally → Stats → Stats
counted tally.Hit stats = record stats { hits = with_more stats.hits 1 }
counted tally.Miss stats = record stats { misses = with_more stats.misses 1 }
counted tally.Stored stats = record stats { stored = with_more stats.stored 1 }
counted tally.NotStored stats = record stats { not_stored = with_more stats.not_stored 1 }
counted tally.Exists stats = record stats { exists = with_more stats.exists 1 }
counted tally.NotFound stats = record stats { not_found = with_more stats.not_found 1 }
counted tally.Deleted stats = record stats { deleted = with_more stats.deleted 1 }
counted tally.NoRoom stats = record stats { no_room = with_more stats.no_room 1 }
counted tally.BucketFull stats = record stats { bucket_full = with_more stats.bucket_full 1 }
counted tally.Busy stats = record stats { busy = with_more stats.busy 1 }

-- what calls of a put came to is counted too
abbrev pub given_up_too : List PutCall → Stats → Stats
given_up_too calls stats = record stats {
  segments_refilled = with_more stats.segments_refilled (sum_by (came_to refilled_segments) calls);
  items_kept = with_more stats.items_kept (sum_by (came_to kept_items) calls);
  keys_evicted = with_more stats.keys_evicted (sum_by (came_to evicted_keys) calls);
}

-- so is what steps came to that clear a segment
abbrev pub cleared_too : List Step → Stats → Stats
cleared_too steps stats = record stats {
  segments_refilled = with_more stats.segments_refilled
      (sum_by (came_to_step refilled_segments) steps);
  items_kept = with_more stats.items_kept (sum_by (came_to_step kept_items) steps);
  keys_evicted = with_more stats.keys_evicted (sum_by (came_to_step evicted_keys) steps);
}
