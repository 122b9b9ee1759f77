-- The content of an index at its end: the pairs of the cache after some history.
-- If one pass closes the index, the history goes on from what this pass has seen.
-- If all passes close it, the history is what one of them has seen.
use Rattle.std.specs.Prelude.{◌≡◌, ℕ, ◌+◌, ◌*◌, ◌<◌, ◌≤◌, ◌⊎◌, List, [], map, Option, None, Some, Vec, slice_get}
use Rattle.std.specs.Vec.{vec_capacity, vec_len}
use Rattle.std.specs.List.{IsDistinct}
use Rattle.std.specs.Ordering.{eq_by_cmp}
use Rattle.std.specs.Map.{lookup, keys_of}
use Rattle.std.specs.BTreeMap.{is_at}
use Rattle.segword.specs.Words.{Shape}
use Rattle.segmodel.specs.Words.{after, Begins, bucket_of, Cache, Cached, Entry, IsLegal, key_cmp}
use Rattle.segmodel.specs.Words.{value_under}
use Rattle.segmodel.specs.History as history
use Rattle.segcore.specs.Event as event
use Rattle.segcore.specs.Words.{Event, IsItemAt, KeyAt}
use Rattle.segbase.specs.declared.closing.Words.{Words}
use Rattle.segbase.specs.Words.{Board, cell_at, HasEach, IsPlace, mine, number, Pass, Place, seen}
use Rattle.segbase.specs.Closing as closing
use Rattle.segstore.specs.Words.{IsQuiet}
use Rattle.segread.specs.Words.{place_of}

-- ---- the content

abbrev pub Pairs : Type 0
Pairs = List (List ℕ × List ℕ)

abbrev pub pair_of : List ℕ × Cached → List ℕ × List ℕ
pair_of entry = (entry.0, entry.1.value)

-- the keys that stand, in their order, and the value of each
abbrev pub pairs_of : Cache → Pairs
pairs_of cache = map pair_of cache.items

-- The history is legal, and goes on from what the pass has seen by entries of other passes.
pub record IsEnd (shape : Shape) (p : Pass) (last : List Entry) : Type 0 where
  pub legal : IsLegal shape last
  pub goes_on : Begins (seen p) last
  pub mine : history.mine (number p) last ≡ mine p

-- These are the pairs of the cache after such a history.
abbrev pub IsContent : Shape → Pass → Pairs → Type 0
IsContent shape p content =
    (last : List Entry) × IsEnd shape p last × (content ≡ pairs_of (after shape last))

-- These are the pairs of the cache after what the pass has seen.
abbrev pub IsContentSeen : Shape → Pass → Pairs → Type 0
IsContentSeen shape p content = content ≡ pairs_of (after shape (seen p))

-- Some key stands after the history.
abbrev pub HasContent : Shape → List Entry → Type 0
HasContent shape last =
    (key : List ℕ) × (value : List ℕ) × (value_under (after shape last) key ≡ Some value)

-- Some key stands after such a history.
-- If the index has one pass, the history is what the pass has seen.
pub record WantsMemory (shape : Shape) (p : Pass) : Type 0 where
  pub end : List Entry
  pub is_end : IsEnd shape p end
  pub alone : shape.passes ≡ 1 → end ≡ seen p
  pub content : HasContent shape end

-- ---- with all passes

-- These are all the passes of the board, and each is between two calls.
pub record AreAllQuiet (b : Board) (passes : List Pass) : Type 0 where
  pub quiet : (place : ℕ) (p : Pass) → slice_get passes place ≡ Some p → IsQuiet b p
  pub all : HasEach b.shape.passes passes

-- The history is what one of the passes has seen.
-- From what each pass has seen it goes on by entries of other passes.
-- It has no entry of a pass whose number the index doesn't have.
pub record IsEndOfAll (shape : Shape) (passes : List Pass) (last : List Entry) : Type 0 where
  pub place : ℕ
  pub pass : Pass
  pub there : slice_get passes place ≡ Some pass
  pub has_seen : seen pass ≡ last
  pub each : (at : ℕ) (p : Pass) → slice_get passes at ≡ Some p → IsEnd shape p last
  pub among : (n : ℕ) → shape.passes ≤ n → history.mine n last ≡ []

-- These are the pairs of the cache after that history.
abbrev pub IsContentOfAll : Shape → List Pass → Pairs → Type 0
IsContentOfAll shape passes content =
    (last : List Entry) × IsEndOfAll shape passes last × (content ≡ pairs_of (after shape last))

-- Some key stands after that history.
abbrev pub WantsMemoryOfAll : Shape → List Pass → Type 0
WantsMemoryOfAll shape passes =
    (last : List Entry) × IsEndOfAll shape passes last × HasContent shape last

-- ---- on the way

-- These are the pairs that stand, whichever events made the words what they are.
abbrev pub IsPairsAtRest : Words → Pairs → Type 0
IsPairsAtRest words pairs = (trace : List Event)
    → closing.IsAtRest words trace
    → pairs ≡ pairs_of (after (closing.shape_of words) (event.seen trace))

-- Some key stands, whichever events made the words what they are.
abbrev pub HasPairs : Words → Type 0
HasPairs words = (trace : List Event)
    → closing.IsAtRest words trace
    → HasContent (closing.shape_of words) (event.seen trace)

-- the value that is listed under a key
abbrev pub listed : Pairs → List ℕ → Option (List ℕ)
listed pairs key = lookup (is_at (key_cmp key)) pairs

-- These are the pairs that stand after the events of the trace,
-- of just the keys of which `Of` is so, each key once.
pub record Lists (shape : Shape) (trace : List Event) (Of : List ℕ → Type 0) (pairs : Pairs)
    : Type 0 where
  pub distinct : IsDistinct (eq_by_cmp key_cmp) (keys_of pairs)
  pub only : (key value : List ℕ)
      → listed pairs key ≡ Some value
      → Of key × (value_under (after shape (event.seen trace)) key ≡ Some value)
  pub all : (key value : List ℕ)
      → Of key
      → value_under (after shape (event.seen trace)) key ≡ Some value
      → listed pairs key ≡ Some value

-- The list has room for at most twice the pairs that are in it, and seven more.
abbrev pub IsCompact : {X Z : Type 0} → Vec X Z → Type 0
IsCompact pairs = vec_capacity pairs ≤ 2 * vec_len pairs + 7

-- The key's bucket is before this one,
-- or it is this one and the key's item is at a lower position of its chain.
abbrev pub IsBefore : Shape → List Event → ℕ → ℕ → List ℕ → Type 0
IsBefore shape trace bucket position key =
    (bucket_of shape key < bucket)
    ⊎ ((bucket_of shape key ≡ bucket) × ((at : ℕ) × (at < position) × KeyAt shape key trace at))

-- The chains of the buckets before this one are listed,
-- and of its own chain the words before this position.
abbrev pub IsListed : Words → List Event → ℕ → ℕ → Pairs → Type 0
IsListed words trace bucket position pairs =
    Lists (closing.shape_of words) trace
    (IsBefore (closing.shape_of words) trace bucket position) pairs

-- The place is the word at a position of the chain of a bucket.
abbrev pub IsWordIn : Words → List Event → ℕ → ℕ → Place → Type 0
IsWordIn words trace home at place =
    IsPlace (closing.shape_of words) place
    × IsItemAt (closing.shape_of words) trace home at (cell_at (closing.shape_of words) place)

-- The bucket is the one at this depth of the chain that begins with the bucket `home`.
abbrev pub IsBucketIn : Words → List Event → ℕ → ℕ → ℕ → Type 0
IsBucketIn words trace home depth bucket = (word : ℕ)
    → 0 < word
    → word < 8
    → IsWordIn words trace home (8 * depth + word) (place_of bucket word)

-- the key whose item is at a position of the chain, with its value, if there is one
abbrev pub IsPairAt : Shape → List Event → ℕ → ℕ → Option (List ℕ × List ℕ) → Type 0
IsPairAt shape trace home at None =
    (key : List ℕ) → bucket_of shape key ≡ home → ¬ (KeyAt shape key trace at)
IsPairAt shape trace home at (Some pair) =
    (bucket_of shape pair.0 ≡ home)
    × KeyAt shape pair.0 trace at
    × (value_under (after shape (event.seen trace)) pair.0 ≡ Some pair.1)
