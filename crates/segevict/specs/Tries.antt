-- For which keys a walk over the rows of a segment tried for bits, and which bucket was in its way.
use Rattle.std.specs.Prelude.{◌≡◌, ◌⊎◌, ℕ, ◌+◌, ◌*◌, ◌≤◌, ◌==◌, List, length, Some, All, count_by}
use Rattle.segword.specs.Words.{Shape}
use Rattle.segmodel.specs.Words.{after, bucket_of, Entry, IsBetween, StandsIn}
use Rattle.segcore.specs.Words.{bounced, linked_in, taken}
use Rattle.segcore.specs.Event as event
use Rattle.segbase.specs.Words.{count, locked_of, marked, Pass, seen, SinceFirst}

-- The pass tried for bits for at most `most` keys, of each of which this is so.
-- For each key it took at most one bit,
-- and found the bit of the key's bucket set at most 64 times.
pub record TriesFor (shape : Shape) (IsSo : List ℕ → Type 0) (most : ℕ) (p q : Pass) : Type 0 where
  pub keys : List (List ℕ)
  pub few : length keys ≤ most
  pub stood : All IsSo keys
  pub taken : count taken q ≤ count taken p + length keys
  pub bounced : (bucket : ℕ)
      → count (bounced bucket) q ≤ count (bounced bucket) p
      + 64 * count_by (λ key. bucket_of shape key == bucket) keys

-- There is a key of which this is so. The pass itself has the key's bucket locked,
-- or found the bit of that bucket set by another 64 times or more.
abbrev pub IsInTheWay : Shape → (List ℕ → Type 0) → Pass → Pass → Type 0
IsInTheWay shape IsSo p q =
    (key : List ℕ)
    × IsSo key
    × ((locked_of p ≡ Some (bucket_of shape key))
    ⊎ (count (bounced (bucket_of shape key)) p + 64 ≤ count (bounced (bucket_of shape key)) q))

-- ---- of an eviction

-- the key stood in the segment at some moment between these two
abbrev pub StoodBetween : Shape → ℕ → List ℕ → List Entry → List Entry → Type 0
StoodBetween shape segment key old new =
    (history : List Entry) × IsBetween old new history × StandsIn (after shape history) key segment

-- the key stood in the segment at some moment after the first step of the call
abbrev pub StoodIn : Shape → ℕ → List ℕ → Pass → Pass → Type 0
StoodIn shape segment key p q =
    SinceFirst p q (λ start. StoodBetween shape segment key (event.seen start) (seen q))

-- the key stood so, and it is the one that was stored in this row, or moved there
abbrev pub StoodAtRow : Shape → ℕ → ℕ → Pass → Pass → List ℕ → Type 0
StoodAtRow shape segment row p q key =
    StoodIn shape segment key p q
    × (linked_in (marked p) segment row ≡ Some key)
