-- What is told on standard error of a replay that shows less than it may seem.
use Rattle.std.specs.Prelude.{◌*◌, ◌+◌, ◌-◌, ◌==◌, ◌&&◌, ℕ, Bool, List, [], ◌∷◌, ◌++◌, codes, if◌then◌else◌, nat_lt}
use Rattle.segreplay.specs.declared.counts.Counts.{Counts}
use Rattle.segreplay.specs.declared.totals.CacheTotals.{CacheTotals}
use Rattle.segtasks.specs.declared.asked.Replay.{Replay}
use Rattle.segcli.specs.Replayed.{rows_of}

-- a cache has few rows if no option asks for more
abbrev pub small_hint : ℕ → List ℕ
small_hint rows =
    if nat_lt rows 9
    then codes "the cache has at most 8 rows: --for-keys N makes room for N keys\n" else []

-- at most so many counted gets missed a key that was put before and had not expired
abbrev pub taken_away : Counts → ℕ
taken_away c = c.evicted + c.deletes + c.refused + c.busy

-- most misses have another reason, if the counts are those of the whole trace
abbrev pub are_mostly_first : ℕ → Counts → Bool
are_mostly_first warm c = warm == 0 && nat_lt (2 * taken_away c) (c.gets - c.hits)

abbrev pub first_hint : Bool → List ℕ
first_hint are_first =
    if are_first
    then codes "most misses are first requests of their keys, or came after a time to live\n"
    else []

-- what is told of the first cache, which is the largest
abbrev pub miss_hint : ℕ → List CacheTotals → List ℕ
miss_hint warm [] = []
miss_hint warm (t ∷ totals) = first_hint (are_mostly_first warm t.counts)

-- each time to live takes segments of its own: about four of a client's
abbrev pub are_many_lives : ℕ → ℕ → Bool
are_many_lives lives segments = nat_lt 1 lives && nat_lt segments (4 * lives)

abbrev pub lives_hint : Bool → List ℕ
lives_hint are_many =
    if are_many
    then codes "the trace has many times to live for so few segments: items can be evicted early\n"
    else []

-- each of the totals has what is known of the trace
abbrev pub trace_hint : ℕ → List CacheTotals → List ℕ
trace_hint segments [] = []
trace_hint segments (t ∷ totals) = lives_hint (are_many_lives t.lives segments)

abbrev pub hints_text : Replay → List CacheTotals → List ℕ
hints_text asked totals =
    small_hint (rows_of asked.shape) ++ miss_hint asked.warm totals
    ++ trace_hint asked.shape.segments_each totals
