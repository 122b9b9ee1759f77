-- What the exports that set, make room and count do.
use Rattle.std.specs.Prelude.{◌≡◌, ◌==◌, ℕ, min, if◌then◌else◌, Bool, true, false}
use Rattle.std.specs.Prelude.{Option, Some, None}
use Rattle.segindex.specs.declared.table_stats.IndexStats.{IndexStats}
use Rattle.segclient.specs.declared.stats.Stats.{Stats}
use Rattle.segclient.specs.Member.{SetsCutoff, SetsTimeToLive}
use Rattle.seghandles.specs.declared.kept.Kept.{Kept}
use Rattle.seghandles.specs.declared.settings.ClientStats.{ClientStats}
use Rattle.seghandles.specs.declared.settings.TableStats.{TableStats}
use Rattle.seghandles.specs.declared.status.Status.{Status}
use Rattle.seghandles.specs.declared.status.Status.TheVariants as status
use Rattle.seghandles.specs.All.{EachMakes, ReturnsTables, stats_of}
use Rattle.seghandles.specs.Room.{MakesRoom}
use Rattle.seghandles.specs.Exports.{ByClient, Returns}

abbrev pub SetTimeToLive : ℕ → Option Kept → Option Kept → Status → Type 0
SetTimeToLive seconds before after returned =
    ByClient (Returns returned)
    (λ old new. (returned ≡ status.Ok) × EachMakes (λ b. SetsTimeToLive seconds) old new) before after

-- a number of C's as a cutoff: 0 keeps nothing, and what has no 8 bits counts as 255
abbrev pub cutoff_of : ℕ → Option ℕ
cutoff_of number = if number == 0 then None else Some (min number 255)

abbrev pub KeptFrom : ℕ → Option Kept → Option Kept → Status → Type 0
KeptFrom number before after returned =
    ByClient (Returns returned)
    (λ old new. (returned ≡ status.Ok) × EachMakes (λ b. SetsCutoff (cutoff_of number)) old new)
    before after

abbrev pub room_status : Bool → Status
room_status true = status.Ok
room_status false = status.NoRoom

abbrev pub MadeRoom : ℕ → Option Kept → Option Kept → Status → Type 0
MadeRoom now before after returned =
    ByClient (Returns returned)
    (λ old new. (made : Bool) × MakesRoom now made old new
    × (returned ≡ room_status made)) before after

-- the counts as C has them
abbrev pub counts_of : Stats → ClientStats
counts_of stats = record {
  hits = stats.hits;
  misses = stats.misses;
  stored = stats.stored;
  not_stored = stats.not_stored;
  exists = stats.exists;
  not_found = stats.not_found;
  deleted = stats.deleted;
  no_room = stats.no_room;
  bucket_full = stats.bucket_full;
  busy = stats.busy;
  segments_refilled = stats.segments_refilled;
  items_kept = stats.items_kept;
  keys_evicted = stats.keys_evicted;
}

abbrev pub Counted : Option Kept → Option Kept → ClientStats → ClientStats → Status → Type 0
Counted before after counts next returned =
    ByClient (λ why. Returns returned why × (next ≡ counts))
    (λ old new. (next ≡ counts_of (stats_of old.guests.items)) × (new ≡ old) × (returned ≡ status.Ok))
    before after

abbrev pub table_of : IndexStats → TableStats
table_of stats = record {
  overflow_buckets = stats.overflow_buckets;
  used_rows = stats.used_rows;
  named_rows = stats.named_rows;
}

abbrev pub CountedTable : Option Kept → Option Kept → TableStats → TableStats → Status → Type 0
CountedTable before after counts next returned =
    ByClient (λ why. Returns returned why × (next ≡ counts))
    (λ old new. (stats : IndexStats) × ReturnsTables stats old new
    × (next ≡ table_of stats) × (returned ≡ status.Ok)) before after
