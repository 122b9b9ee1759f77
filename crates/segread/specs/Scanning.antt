-- A reader's way along the chain of a key, without the bucket's bit: what its looks found,
-- how many tries it counted, and how often it came into segments.
use Rattle.std.specs.Prelude.{◌≡◌, ℕ, ◌+◌, ◌*◌, ◌-◌, ◌/◌, ◌<◌, ◌≤◌, List}
use Rattle.segword.specs.Words.{Item, item_word, Shape}
use Rattle.segmodel.specs.Words.{after, Begins, bucket_of, entries_of}
use Rattle.segcore.specs.Words.{entered, Event, KeyAhead, KeyGone, seen, WasGone}
use Rattle.segbase.specs.Words.{Board, count, home_bucket, Pass, Place, position, trace}
use Rattle.segstore.specs.Words.{FoundKey, IsChained, IsKeyed, IsReader, IsReaderIn, SawWord}
use Rattle.segstore.specs.Words.{step_count}
use Rattle.segstore.specs.declared.read.Keyed.{Keyed}
use Rattle.segstore.specs.declared.read.Keyed.TheVariants as keyed
use Rattle.segread.specs.declared.scan.Hit.{Hit}
use Rattle.segread.specs.declared.scan.Scan.{Scan}
use Rattle.segread.specs.declared.scan.Scan.TheVariants as scan
use Rattle.segread.specs.Hits.{OnlyScans, TriesFew}
use Rattle.segread.specs.Loads.{try_steps}

-- ---- chains

abbrev pub place_of : ℕ → ℕ → Place
place_of bucket word = record { bucket = bucket; word = word }

-- the place is an item word of the key's chain
abbrev pub IsPlaceOf : Shape → List Event → List ℕ → Place → Type 0
IsPlaceOf shape trace key place =
    IsChained shape trace place × (home_bucket shape trace place ≡ bucket_of shape key)

-- how many item words of a chain come before a position: seven of each bucket;
-- every chain ends before position 32
abbrev pub words_below : ℕ → ℕ
words_below at = at - 1 - (at - 1) / 8

-- ---- readers

-- after a try the pass is in the item's segment if the item is the key's
abbrev pub IsTrial : Board → Keyed → Pass → Pass → Type 0
IsTrial b (keyed.Same item header) p q = IsReaderIn b p q item.seg
IsTrial b (keyed.Other item) p q = IsReader b p q
IsTrial b (keyed.Changed word) p q = IsReader b p q

abbrev pub IsScanner : Board → Scan → Pass → Pass → Type 0
IsScanner b (scan.Found hit) p q = IsReaderIn b p q hit.item.seg
IsScanner b (scan.Passed word tries) p q = IsReader b p q
IsScanner b scan.Busy p q = IsReader b p q

-- ---- deadlines

-- at the end of this trace the segment has this deadline
abbrev pub HasDeadline : Shape → ℕ → ℕ → List Event → Type 0
HasDeadline shape segment deadline trace = (after shape (seen trace)).deadline segment ≡ deadline

-- if the item is the key's, the deadline is that of its segment
abbrev pub ReturnsDeadline : Shape → Keyed → ℕ → List Event → Type 0
ReturnsDeadline shape (keyed.Same item header) deadline trace =
    HasDeadline shape item.seg deadline trace
ReturnsDeadline shape (keyed.Other item) deadline trace = Unit {0}
ReturnsDeadline shape (keyed.Changed word) deadline trace = Unit {0}

-- ---- tries

-- the pass came into a segment once, and did nothing beside
abbrev pub IsTry : Pass → Pass → Type 0
IsTry p q = (count entered q ≡ count entered p + 1) × OnlyScans p q

-- A try at an item that stood at this place: what the second look found, and the deadline.
pub record TriesItem (b : Board) (place : Place) (item : Item) (key : List ℕ) (told : Keyed)
    (until : ℕ) (p q : Pass) : Type 0 where
  pub reads : IsTrial b told p q
  pub once : IsTry p q
  pub keyed : IsKeyed b.shape place (item_word item) key told (trace p) (trace q)
  pub deadline : ReturnsDeadline b.shape told until (trace q)

-- The pass came into segments at most once for each try that was counted, from `some` to `more`,
-- and once for each word from one position up to another.
abbrev pub ComesIn : ℕ → ℕ → ℕ → ℕ → Pass → Pass → Type 0
ComesIn from to some more p q =
    count entered q + words_below from + some ≤ count entered p + words_below to + more

-- the pass came in no more often than that, and did nothing beside;
-- words and tries together are no fewer than before
pub record Tries (from to some more : ℕ) (p q : Pass) : Type 0 where
  pub comes_in : ComesIn from to some more p q
  pub onward : words_below from + some ≤ words_below to + more
  pub only_scans : OnlyScans p q

-- ---- steps

-- The step that is left after a try and after a scan:
-- a pass that found the key's item still has to leave its segment.
abbrev pub left_of_try : Keyed → ℕ
left_of_try (keyed.Same item header) = 1
left_of_try (keyed.Other item) = 0
left_of_try (keyed.Changed word) = 0

abbrev pub left_of_scan : Scan → ℕ
left_of_scan (scan.Found hit) = 1
left_of_scan (scan.Passed word tries) = 0
left_of_scan scan.Busy = 0

-- a try takes so many steps, seven for a key of three words, of which the last may be left
abbrev pub TriesInSeven : Keyed → Pass → Pass → Type 0
TriesInSeven told p q = step_count q + left_of_try told ≤ step_count p + try_steps

-- where a scan ended: behind the item that it found, or else at a position
abbrev pub end_of_scan : Shape → ℕ → Scan → Pass → ℕ
end_of_scan shape to (scan.Found hit) q = position shape (trace q) hit.place + 1
end_of_scan shape to (scan.Passed word tries) q = to
end_of_scan shape to scan.Busy q = 32

-- From one position to another the pass took at most a step for each word,
-- and those of a try for each time that it came into a segment. It came in, if a step is left.
pub record Paces (from to left : ℕ) (p q : Pass) : Type 0 where
  pub most : step_count q + left + words_below from + try_steps * count entered p
      ≤ step_count p + words_below to + try_steps * count entered q
  pub came_in : count entered p + left ≤ count entered q

-- the same from a place to where a scan ended
abbrev pub PacesTo : Board → Place → ℕ → Scan → Pass → Pass → Type 0
PacesTo b from to told p q =
    Paces (position b.shape (trace p) from) (end_of_scan b.shape to told q) (left_of_scan told) p q

-- ---- what was found

-- The tries that were counted, from `some` to `more`,
-- are at most as many as entries of the key's bucket came in.
abbrev pub CountsTries : Shape → List ℕ → ℕ → ℕ → List Event → List Event → Type 0
CountsTries shape key some more old new =
    entries_of shape (bucket_of shape key) (seen old) + more
    ≤ entries_of shape (bucket_of shape key) (seen new) + some

-- A search for the key goes on from one position of the chain to another.
-- If the key was gone, or stands at the one or later, then it was gone,
-- or stands at the other or later.
abbrev pub AdvancesSearch : Shape → List ℕ → ℕ → ℕ → List Event → List Event → Type 0
AdvancesSearch shape key from to old new = (start : List Event)
    → Begins start old
    → KeyAhead shape key from start old
    → KeyAhead shape key to start new

-- The pass looked at the words from one position up to another, and none was the key's.
-- The last of them, at this place, was this word.
pub record HasPassed (shape : Shape) (key : List ℕ) (from to : ℕ) (place : Place) (word : ℕ)
    (old new : List Event) : Type 0 where
  pub last : SawWord shape place word old new
  pub brings : AdvancesSearch shape key from to old last.at

-- ---- what looks along the key's chain found, from a position on, after some tries were counted

-- The key's item was found, and the deadline of its segment.
-- The tries were counted before it stood there.
-- A search for the key may go on from the item's place.
pub record IsHit (shape : Shape) (key : List ℕ) (from tries : ℕ) (hit : Hit) (p q : Pass)
    : Type 0 where
  pub found : FoundKey shape hit.place hit.item hit.header key (trace p) (trace q)
  pub deadline : HasDeadline shape hit.item.seg hit.deadline (trace q)
  pub few : hit.tries < 64
  pub up : tries ≤ hit.tries
  pub counted : CountsTries shape key tries hit.tries (trace p) found.found.saw.at
  pub tried : Tries from (position shape (trace q) hit.place) tries (hit.tries + 1) p q
  pub onward : words_below from + tries
      ≤ words_below (position shape (trace q) hit.place) + hit.tries
  pub brings : AdvancesSearch shape key from (position shape (trace q) hit.place) (trace p)
      (trace q)

-- none of the words up to a position was the key's; the last of them is at this place
pub record IsPast (shape : Shape) (key : List ℕ) (from to tries counted : ℕ) (last : Place)
    (word : ℕ) (p q : Pass) : Type 0 where
  pub few : counted < 64
  pub up : tries ≤ counted
  pub counts : CountsTries shape key tries counted (trace p) (trace q)
  pub tried : Tries from to tries counted p q
  pub passed : HasPassed shape key from to last word (trace p) (trace q)

-- 64 tries were counted
pub record GivesUp (shape : Shape) (key : List ℕ) (from tries : ℕ) (p q : Pass) : Type 0 where
  pub counts : CountsTries shape key tries 64 (trace p) (trace q)
  pub tried : Tries from 32 tries 63 p q

-- The chain ended.
-- If a search still had the key ahead, the key was gone at some moment since the search began.
pub record IsEnded (shape : Shape) (key : List ℕ) (from tries : ℕ) (p q : Pass) : Type 0 where
  pub gone : (start : List Event) → Begins start (trace p) → KeyAhead shape key from start (trace p)
      → WasGone (KeyGone shape key) start (trace q)
  pub tried : Tries from 32 tries 63 p q

-- looks from one position up to another
abbrev pub IsWay : Shape → List ℕ → ℕ → ℕ → Place → ℕ → Scan → Pass → Pass → Type 0
IsWay shape key from to last tries (scan.Found hit) p q = IsHit shape key from tries hit p q
IsWay shape key from to last tries (scan.Passed word counted) p q =
    IsPast shape key from to tries counted last word p q
IsWay shape key from to last tries scan.Busy p q = GivesUp shape key from tries p q

-- looks up to the chain's end
abbrev pub IsScanFrom : Shape → List ℕ → ℕ → ℕ → Scan → Pass → Pass → Type 0
IsScanFrom shape key from tries (scan.Found hit) p q = IsHit shape key from tries hit p q
IsScanFrom shape key from tries (scan.Passed word counted) p q = IsEnded shape key from tries p q
IsScanFrom shape key from tries scan.Busy p q = GivesUp shape key from tries p q

-- a scan of the whole chain
abbrev pub IsScanAnswer : Shape → List ℕ → Scan → List Event → List Event → Type 0
IsScanAnswer shape key (scan.Found hit) old new =
    FoundKey shape hit.place hit.item hit.header key old new
    × HasDeadline shape hit.item.seg hit.deadline new
IsScanAnswer shape key (scan.Passed word counted) old new = WasGone (KeyGone shape key) old new
IsScanAnswer shape key scan.Busy old new = CountsTries shape key 0 64 old new

-- ---- from one pass to another

-- looks from one place up to another
abbrev pub GoesAlong : Board → List ℕ → Place → Place → ℕ → Scan → Pass → Pass → Type 0
GoesAlong b key from last tries told p q =
    IsScanner b told p q
    × IsWay b.shape key (position b.shape (trace p) from) (position b.shape (trace p) last + 1) last
    tries told p q

-- looks from a place up to the chain's end
abbrev pub ScansOn : Board → List ℕ → Place → ℕ → Scan → Pass → Pass → Type 0
ScansOn b key from tries told p q =
    IsScanner b told p q
    × IsScanFrom b.shape key (position b.shape (trace p) from) tries told p q

-- a scan of the whole chain
pub record ScansChain (b : Board) (key : List ℕ) (told : Scan) (p q : Pass) : Type 0 where
  pub reads : IsScanner b told p q
  pub tries : TriesFew p q
  pub only_scans : OnlyScans p q
  pub answer : IsScanAnswer b.shape key told (trace p) (trace q)
