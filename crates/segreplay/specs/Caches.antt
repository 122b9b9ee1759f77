-- The caches that a trace is sent through, and their clients before the first command.
use Rattle.std.specs.Prelude.{◌≡◌, ◌+◌, ◌*◌, ◌/◌, ⊤, ℕ, zero, suc, max, List, [], ◌∷◌, ◌++◌, map, Some, None, if◌then◌else◌, ◌==◌}
use Rattle.std.specs.Int.{div_ceil}
use Rattle.std.specs.List.{AllZip, Contains, flat_map}
use Rattle.segword.specs.Words.{IsValid, Shape, word_count}
use Rattle.segbase.specs.Words.{IsMakeFault, number, Pass}
use Rattle.segindex.specs.Words.{Index, IsNew}
use Rattle.segclient.specs.declared.client.Client.{Client}
use Rattle.segclient.specs.Client.{MakesCall, Starts}
use Rattle.segclient.specs.Member.{SetsCutoff}
use Rattle.segreplay.specs.declared.cache.CacheConfig.{CacheConfig}
use Rattle.segreplay.specs.declared.cache.Dealt.{Dealt}
use Rattle.segtraces.specs.declared.retention.Retention.{Retention}
use Rattle.segtraces.specs.declared.retention.Retention.TheVariants as policy
use Rattle.segreplay.specs.declared.counts.Counts.{Counts}
use Rattle.segreplay.specs.declared.fault.ReplayFault.{ReplayFault}
use Rattle.segreplay.specs.declared.fault.ReplayFault.TheVariants as fault
use Rattle.segreplay.specs.declared.player.Player.{Player}
use Rattle.segreplay.specs.Counting.{no_counts, together}

-- half of the buckets and of the rows
abbrev pub half_of : Shape → Shape
half_of shape = record shape {
  buckets = max (shape.buckets / 2) 1;
  overflow = shape.overflow / 2;
  rows = max (shape.rows / 2) 1;
}

-- so many caches, each half of the one before
abbrev pub sizes_of : Retention → Shape → ℕ → List CacheConfig
sizes_of p shape zero = []
sizes_of p shape (suc sizes) =
    record { policy = p; shape = shape } ∷ sizes_of p (half_of shape) sizes

-- so many for each policy
abbrev pub caches_of : List Retention → Shape → ℕ → List CacheConfig
caches_of policies shape sizes = flat_map (λ p. sizes_of p shape sizes) policies

-- the client keeps by this policy from now on
abbrev pub SetsPolicy : Retention → Client → Client → Type 0
SetsPolicy policy.Default old new = new ≡ old
SetsPolicy policy.Nothing old new = MakesCall (λ board. SetsCutoff None) old new
SetsPolicy (policy.Cutoff least) old new = MakesCall (λ board. SetsCutoff (Some least)) old new

-- how many bytes the queues of clients have: for each segment 44, 3 for each of its rows,
-- and one for each eight rows
abbrev pub queue_bytes : Retention → Shape → ℕ
queue_bytes policy.Default shape =
    shape.passes * shape.segments_each * (44 + 3 * shape.rows + div_ceil shape.rows 8)
queue_bytes _ shape = 0

-- how many bytes a cache has: those of its table and of its clients' queues
abbrev pub bytes_of : CacheConfig → ℕ
bytes_of cache = 8 * word_count cache.shape + queue_bytes cache.policy cache.shape

-- an index can have the shape of the cache
abbrev pub HasValidShape : CacheConfig → Type 0
HasValidShape cache = IsValid cache.shape

-- One of the caches couldn't be made, for the first fault of its shape or for memory, and then
-- `Unread` is so. Or there was no memory for a list.
abbrev pub IsReplayFault : List CacheConfig → Type 0 → ReplayFault → Type 0
IsReplayFault caches Unread (fault.Make why) =
    Unread × ((cache : CacheConfig) × Contains caches cache × IsMakeFault cache.shape why)
IsReplayFault caches Unread fault.OutOfMemory = ⊤

-- a new index of the cache's shape, and all its passes
abbrev pub IsDealt : Index → Dealt → Type 0
IsDealt index dealt = IsNew dealt.cache.shape index dealt.passes.items

-- the caches that these are dealt for
abbrev pub caches_in : List Dealt → List CacheConfig
caches_in dealt = map (λ each. each.cache) dealt

-- A player of the cache at this place, with the number of this pass of the index.
-- It puts this value, and has counted nothing.
-- Its client is a new one of the pass, which was then let keep by this policy.
pub record IsFresh (place : ℕ) (value : List ℕ) (kept : Retention) (index : Index) (pass : Pass)
    (p : Player) : Type 0 where
  pub cache : p.cache ≡ place
  pub number : p.number ≡ number pass
  pub puts : p.value ≡ value
  pub none : p.counts ≡ no_counts
  pub first : Client
  pub starts : Starts index (Some 0) pass first
  pub keeps : SetsPolicy kept first p.client

-- The players of the cache at this place: one for each pass of a new index of its shape,
-- in the order of their numbers.
abbrev pub ArePlayersOf : ℕ → List ℕ → CacheConfig → List Player → Type 0
ArePlayersOf place value cache players =
    (index : Index) × (passes : List Pass)
    × IsNew cache.shape index passes
    × AllZip (IsFresh place value cache.policy index) passes players

-- the players of these caches, the first of which is at this place: first those of the first
abbrev pub AreFresh : ℕ → List ℕ → List CacheConfig → List Player → Type 0
AreFresh place value [] players = players ≡ []
AreFresh place value (cache ∷ caches) players =
    (first : List Player) × (rest : List Player)
    × ArePlayersOf place value cache first
    × AreFresh (place + 1) value caches rest
    × (players ≡ first ++ rest)

-- the counts of a cache's players together, after these counts
abbrev pub counts_after : Counts → ℕ → List Player → Counts
counts_after counts cache [] = counts
counts_after counts cache (p ∷ players) =
    counts_after (if p.cache == cache then together counts p.counts else counts) cache players
