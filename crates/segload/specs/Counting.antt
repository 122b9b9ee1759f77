-- How the commands of a pass are counted, and which entries of a history are counted so.
use Rattle.std.specs.Prelude.{◌≡◌, ℕ, ◌+◌, ◌-◌, ◌*◌, ◌^◌, ◌<◌, ◌≤◌, Bool, true, false, List, count_by}
use Rattle.segmodel.specs.Words.{Entry, Reply}
use Rattle.segmodel.specs.declared.request.Reply.TheVariants as reply
use Rattle.segmodel.specs.declared.entry.Entry.TheVariants.{Wrote}
use Rattle.segtally.specs.declared.tally.Tally.{Tally}
use Rattle.segtally.specs.declared.tally.Tally.TheVariants as tally
use Rattle.segtally.specs.Recycling.{is_eviction, is_refilling}
use Rattle.segload.specs.declared.totals.Recycled.{Recycled}
use Rattle.segload.specs.declared.totals.Tallies.{Tallies}

abbrev pub no_tallies : Tallies
no_tallies = record {
  hit = 0;
  miss = 0;
  stored = 0;
  not_stored = 0;
  exists = 0;
  not_found = 0;
  deleted = 0;
  no_room = 0;
  bucket_full = 0;
  busy = 0;
}

-- the tallies, with one more command counted as this tally
abbrev pub with_one_more : Tally → Tallies → Tallies
with_one_more tally.Hit tallies = record tallies { hit = tallies.hit + 1 }
with_one_more tally.Miss tallies = record tallies { miss = tallies.miss + 1 }
with_one_more tally.Stored tallies = record tallies { stored = tallies.stored + 1 }
with_one_more tally.NotStored tallies = record tallies { not_stored = tallies.not_stored + 1 }
with_one_more tally.Exists tallies = record tallies { exists = tallies.exists + 1 }
with_one_more tally.NotFound tallies = record tallies { not_found = tallies.not_found + 1 }
with_one_more tally.Deleted tallies = record tallies { deleted = tallies.deleted + 1 }
with_one_more tally.NoRoom tallies = record tallies { no_room = tallies.no_room + 1 }
with_one_more tally.BucketFull tallies = record tallies { bucket_full = tallies.bucket_full + 1 }
with_one_more tally.Busy tallies = record tallies { busy = tallies.busy + 1 }

-- how many commands are counted in all
abbrev pub all_of : Tallies → ℕ
all_of tallies =
    tallies.hit
    + tallies.miss
    + tallies.stored
    + tallies.not_stored
    + tallies.exists
    + tallies.not_found
    + tallies.deleted
    + tallies.no_room
    + tallies.bucket_full
    + tallies.busy

-- how many commands are counted with a reply
abbrev pub count_of_reply : Reply → Tallies → ℕ
count_of_reply reply.Stored tallies = tallies.stored
count_of_reply reply.NotStored tallies = tallies.not_stored
count_of_reply reply.Exists tallies = tallies.exists
count_of_reply reply.NotFound tallies = tallies.not_found
count_of_reply reply.Deleted tallies = tallies.deleted

-- whether an entry is a write replied so
abbrev pub tells : Reply → Entry → Bool
tells reply.Stored (Wrote pass request reply.Stored segment) = true
tells reply.NotStored (Wrote pass request reply.NotStored segment) = true
tells reply.Exists (Wrote pass request reply.Exists segment) = true
tells reply.NotFound (Wrote pass request reply.NotFound segment) = true
tells reply.Deleted (Wrote pass request reply.Deleted segment) = true
tells _ _ = false

-- how many entries of a history are writes replied so
abbrev pub replies : Reply → List Entry → ℕ
replies told history = count_by (tells told) history

-- The five tallies of replies count the writes of these entries.
abbrev pub CountsReplies : Tallies → List Entry → Type 0
CountsReplies tallies entries = (told : Reply) → count_of_reply told tallies ≡ replies told entries

-- ---- evictions and refillings

abbrev pub none_recycled : Recycled
none_recycled = record { evictions = 0; refillings = 0 }

-- The counts are those of the evictions and of the refillings among these entries.
pub record CountsRecycled (recycled : Recycled) (entries : List Entry) : Type 0 where
  pub evictions : recycled.evictions ≡ count_by is_eviction entries
  pub refillings : recycled.refillings ≡ count_by is_refilling entries

-- what so many commands may recycle at most: each evicts one segment, and refills it
pub record IsFew (made : ℕ) (recycled : Recycled) : Type 0 where
  pub evictions : recycled.evictions ≤ made * (2 ^ 32 - 1)
  pub refillings : recycled.refillings ≤ made

-- The counts have space for what one command more recycles.
pub record CanCountMore (recycled : Recycled) : Type 0 where
  pub evictions : recycled.evictions + 2 ^ 32 ≤ 2 ^ 64
  pub refillings : recycled.refillings + 1 < 2 ^ 32

-- what one command recycled
pub record RecyclesFew (old new : Recycled) : Type 0 where
  pub evictions : new.evictions < old.evictions + 2 ^ 32
  pub refillings : new.refillings ≤ old.refillings + 1
