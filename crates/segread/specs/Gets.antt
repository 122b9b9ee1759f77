-- What a gets answers: a value and a version of one moment. What each of its scans finds:
-- if a scan was disturbed, the next one goes on where that one stopped.
use Rattle.std.specs.Prelude.{◌≡◌, ◌≢◌, ◌⊎◌, true, false, ℕ, ◌+◌, ◌*◌, ◌-◌, ◌<◌, ◌≤◌, List, Option, Some, None}
use Rattle.segword.specs.Words.{Info, IsSameItem, item_word, Shape, tag_part, value_width}
use Rattle.segmodel.specs.declared.answer.GetsAnswer.TheVariants as gets
use Rattle.segmodel.specs.Words.{after, Begins, bucket_of, entries_of, Entry, GetsAnswer, IsBetween}
use Rattle.segmodel.specs.Words.{reads_version, stirred}
use Rattle.segcore.specs.Event as event
use Rattle.segcore.specs.Words.{entered, Event, glanced, HasBit, IsSegment, KeyAhead}
use Rattle.segbase.specs.Words.{Board, count, locked_of, number, Pass, Place, position, seen}
use Rattle.segbase.specs.Words.{SinceFirst, trace}
use Rattle.segstore.specs.Words.{ChangesNothing, FoundKey, GoesOn, IsReader, IsReaderIn}
use Rattle.segstore.specs.Words.{RaisesNothing, step_count, word_of_place}
use Rattle.segread.specs.Loads.{look_steps}
use Rattle.segread.specs.declared.scan.Hit.{Hit}
use Rattle.segread.specs.declared.version.VersionLook.{VersionLook}
use Rattle.segread.specs.declared.version.VersionLook.TheVariants as look
use Rattle.segread.specs.declared.version.Attempt.{Attempt}
use Rattle.segread.specs.declared.version.Attempt.TheVariants as attempt
use Rattle.segread.specs.declared.version.Versioned.{Versioned}
use Rattle.segread.specs.declared.version.Versioned.TheVariants as versioned
use Rattle.segread.specs.Costs.{CostsOfGets}
use Rattle.segread.specs.Reads.{ReadsBetween}
use Rattle.segread.specs.Hits.{GlancesFew, GlancesNothing, GlancesOnce, PaysForGlances, TriesFew}
use Rattle.segread.specs.Scanning.{IsPlaceOf, words_below, ComesIn, CountsTries, AdvancesSearch, GivesUp}

-- ---- the answer

-- at some moment from one history to a longer one, a gets of the key reads this value and version,
-- or nothing
abbrev pub ReadsVersionBetween : Shape → List ℕ → ℕ → List Entry → List Entry → Option (List ℕ × ℕ)
    → Type 0
ReadsVersionBetween shape key now old new read =
    (history : List Entry)
    × IsBetween old new history
    × (reads_version shape (after shape history) now key ≡ read)

-- How often the pass was disturbed at the key's bucket: by entries of the bucket that came in since
-- a history, and by looks of the pass that found the bucket's bit set by another.
abbrev pub disturbed : Shape → List ℕ → List Entry → Pass → Pass → ℕ
disturbed shape key old p q =
    stirred shape key old (seen q)
    + (count (glanced (bucket_of shape key)) q - count (glanced (bucket_of shape key)) p)

-- the key was present at some moment from one history to a longer one
abbrev pub PresentBetween : Shape → List ℕ → ℕ → List Entry → List Entry → Type 0
PresentBetween shape key now old new =
    (value : List ℕ) × ReadsBetween shape key now old new (Some value)

-- 64 entries of the key's bucket came in; or the key was present,
-- and with the looks that found the bit they are 64
abbrev pub IsDisturbed : Shape → List ℕ → ℕ → List Entry → Pass → Pass → Type 0
IsDisturbed shape key now old p q =
    (64 ≤ stirred shape key old (seen q))
    ⊎ ((64 ≤ disturbed shape key old p q) × PresentBetween shape key now old (seen q))

-- the key was present, and its bucket is locked by the pass itself
abbrev pub PresentLocked : Shape → List ℕ → ℕ → List Entry → Pass → Pass → Type 0
PresentLocked shape key now old p q =
    (locked_of p ≡ Some (bucket_of shape key)) × PresentBetween shape key now old (seen q)

-- A gets answers as a cache of one thread does at some moment from this history on.
-- It is Busy only if the pass was disturbed
-- 64 times, or if the key was present and the pass itself has its bucket locked.
abbrev pub IsGetsAnswer : Shape → List ℕ → ℕ → GetsAnswer → List Entry → Pass → Pass → Type 0
IsGetsAnswer shape key now (gets.Found value version) old p q =
    ReadsVersionBetween shape key now old (seen q) (Some (value, version))
IsGetsAnswer shape key now gets.Miss old p q = ReadsBetween shape key now old (seen q) None
IsGetsAnswer shape key now gets.Busy old p q =
    IsDisturbed shape key now old p q ⊎ PresentLocked shape key now old p q

-- A gets of a key has this answer, and changes nothing.
-- All that the answer says of moments and entries is so after the call's first step.
-- It finds nothing in a bucket that the pass itself has locked.
pub record ReadsVersion (b : Board) (key : List ℕ) (draw now : ℕ) (told : GetsAnswer) (p q : Pass)
    : Type 0 where
  pub on : GoesOn b p q
  pub keeps : ChangesNothing p q
  pub answer : SinceFirst p q (λ start. IsGetsAnswer b.shape key now told (event.seen start) p q)
  pub unlocked : (value : List ℕ) (version : ℕ) → told ≡ gets.Found value version
      → locked_of p ≢ Some (bucket_of b.shape key)
  pub costs : CostsOfGets b.shape key draw told p q

-- ---- on the way

-- the pass itself doesn't have the bit of the key's bucket
abbrev pub HasNoBit : Shape → List ℕ → Pass → Type 0
HasNoBit shape key p = ¬ (HasBit shape (trace p) (number p) (bucket_of shape key))

-- The tries that were counted, from `some` to `more`,
-- are at most as many as the disturbances at the key's bucket.
-- They are at most as many as its entries, unless the key was present at some moment between.
abbrev pub Disturbs : Shape → List ℕ → ℕ → ℕ → ℕ → Pass → Pass → Type 0
Disturbs shape key now some more p q =
    let bucket = bucket_of shape key in
    Begins (seen p) (seen q)
    × (entries_of shape bucket (seen p) + count (glanced bucket) p + more
    ≤ entries_of shape bucket (seen q) + count (glanced bucket) q + some)
    × (CountsTries shape key some more (trace p) (trace q)
    ⊎ PresentBetween shape key now (seen p) (seen q))

-- The pass came into segments no more often than that, and raised no frequency.
-- Words and tries together are no fewer than before. Beside that it may have found a bit set.
pub record Attempts (from to some more : ℕ) (p q : Pass) : Type 0 where
  pub comes_in : ComesIn from to some more p q
  pub onward : words_below from + some ≤ words_below to + more
  pub raises_nothing : RaisesNothing p q

-- A search that still had the key ahead ended: at some moment since it began, the key read nothing.
pub record IsMissed (shape : Shape) (key : List ℕ) (now from tries : ℕ) (p q : Pass) : Type 0 where
  pub missed : (start : List Event)
      → Begins start (trace p)
      → KeyAhead shape key from start (trace p)
      → ReadsBetween shape key now (event.seen start) (seen q) None
  pub tried : Attempts from 32 tries 63 p q
  pub glances : GlancesOnce p q

-- ---- steps

-- From one position to another the pass took at most a step for each word,
-- and those of a coming for each time that it came into a segment, fourteen for a key of three
-- words and a value of four. So many of them are left to take.
pub record Strides (from to left : ℕ) (p q : Pass) : Type 0 where
  pub most : step_count q + left + words_below from + look_steps * count entered p
      ≤ step_count p + words_below to + look_steps * count entered q
  pub visits : PaysForGlances p q

-- The steps that are left where the key's item was found: the loads of its value, and to leave its
-- segment. At the end there is one exchange more, for the frequency.
abbrev pub left_of_version : Versioned → ℕ
left_of_version (versioned.Found hit version) = 2 + value_width
left_of_version versioned.Miss = 0
left_of_version versioned.Busy = 0

-- where one scan stopped, and the steps that are left without that exchange
abbrev pub end_of_sight : Shape → VersionLook → Pass → ℕ
end_of_sight shape (look.Found hit info word) q = position shape (trace q) hit.place
end_of_sight shape look.Absent q = 32
end_of_sight shape look.Busy q = 32

abbrev pub left_of_sight : VersionLook → ℕ
left_of_sight (look.Found hit info word) = 1 + value_width
left_of_sight look.Absent = 0
left_of_sight look.Busy = 0

abbrev pub StridesToSight : Board → Place → VersionLook → Pass → Pass → Type 0
StridesToSight b from told p q =
    Strides (position b.shape (trace p) from) (end_of_sight b.shape told q) (left_of_sight told) p q

abbrev pub end_of_attempt : Shape → Attempt → Pass → ℕ
end_of_attempt shape (attempt.Answered told) q = 32
end_of_attempt shape (attempt.GoesOn place tries) q = position shape (trace q) place

abbrev pub left_of_attempt : Attempt → ℕ
left_of_attempt (attempt.Answered told) = left_of_version told
left_of_attempt (attempt.GoesOn place tries) = 0

abbrev pub StridesTo : Board → Place → Attempt → Pass → Pass → Type 0
StridesTo b from told p q =
    Strides (position b.shape (trace p) from) (end_of_attempt b.shape told q)
    (left_of_attempt told) p q

-- ---- the key's item with its version

-- The key's item was found, and its value with this version was read by a gets at one moment.
-- No frequency was raised yet.
pub record HasVersion (b : Board) (key : List ℕ) (now : ℕ) (hit : Hit) (version : ℕ) (p q : Pass)
    : Type 0 where
  pub found : FoundKey b.shape hit.place hit.item hit.header key (trace p) (trace q)
  pub told : ReadsVersionBetween b.shape key now (seen p) (seen q) (Some (found.value, version))
  pub raises_nothing : RaisesNothing p q

-- the pass is in the segment of the item that was found
abbrev pub StaysAtVersion : Board → Versioned → Pass → Pass → Type 0
StaysAtVersion b (versioned.Found hit version) p q = IsReaderIn b p q hit.item.seg
StaysAtVersion b versioned.Miss p q = IsReader b p q
StaysAtVersion b versioned.Busy p q = IsReader b p q

-- ---- one scan for the key and its version, from a position on, after some tries were counted

-- The key's item was found, and the pass is still in the item's segment.
-- The pass looked at the bucket's information, and after that at the word in the item's place.
pub record IsSeen (b : Board) (key : List ℕ) (now from tries : ℕ) (hit : Hit) (info : Info)
    (word : ℕ) (p q : Pass) : Type 0 where
  pub reads : IsReaderIn b p q hit.item.seg
  pub in_table : IsSegment b.shape hit.item.seg
  pub few : hit.tries < 64
  pub up : tries ≤ hit.tries
  pub glances : GlancesOnce p q
  pub unset : info.held ≡ false → GlancesNothing p q
  pub place : IsPlaceOf b.shape (trace q) key hit.place
  pub tried : Attempts from (position b.shape (trace q) hit.place) tries (hit.tries + 1) p q
  pub onward : words_below from + tries
      ≤ words_below (position b.shape (trace q) hit.place) + hit.tries
  pub brings : AdvancesSearch b.shape key from (position b.shape (trace q) hit.place) (trace p)
      (trace q)
  pub counted : CountsTries b.shape key tries hit.tries (trace p) (trace q)
  pub stood : PresentBetween b.shape key now (seen p) (seen q)
  pub stands : word ≡ word_of_place b.shape (trace q) hit.place
  -- the bit was set
  pub glanced : info.held ≡ true
      → count (glanced (bucket_of b.shape key)) p + 1 ≤ count (glanced (bucket_of b.shape key)) q
  -- another item stood there
  pub changed : ¬ (IsSameItem (item_word hit.item) word) → 1 ≤ tag_part word
      → CountsTries b.shape key tries (hit.tries + 1) (trace p) (trace q)
  -- the bit was clear
  pub found : info.held ≡ false
      → FoundKey b.shape hit.place hit.item hit.header key (trace p) (trace q)
  -- and the item stood there still
  pub version : (clear : info.held ≡ false) → IsSameItem (item_word hit.item) word
      → ReadsVersionBetween b.shape key now (seen p) (seen q)
      (Some ((found clear).value, info.version))

abbrev pub IsVersionSight : Board → List ℕ → ℕ → ℕ → ℕ → VersionLook → Pass → Pass → Type 0
IsVersionSight b key now from tries (look.Found hit info word) p q =
    IsSeen b key now from tries hit info word p q
IsVersionSight b key now from tries look.Absent p q =
    IsReader b p q × IsMissed b.shape key now from tries p q
IsVersionSight b key now from tries look.Busy p q =
    IsReader b p q × GivesUp b.shape key from tries p q

-- The next scan goes on from this place, with this count of tries.
-- The words that were passed and the tries that were counted are together more than before.
pub record MovesOn (shape : Shape) (key : List ℕ) (now from tries : ℕ) (next : Place) (counted : ℕ)
    (p q : Pass) : Type 0 where
  pub few : counted ≤ 64
  pub place : IsPlaceOf shape (trace q) key next
  pub disturbs : Disturbs shape key now tries counted p q
  pub tried : Attempts from (position shape (trace q) next) tries counted p q
  pub glances : (bucket : ℕ) → count (glanced bucket) q + tries ≤ count (glanced bucket) p + counted
  pub brings : AdvancesSearch shape key from (position shape (trace q) next) (trace p) (trace q)
  pub onward : words_below from + tries < words_below (position shape (trace q) next) + counted

-- one scan gives an answer, or the place from which the next one goes on
abbrev pub IsAttempt : Board → List ℕ → ℕ → ℕ → ℕ → Attempt → Pass → Pass → Type 0
IsAttempt b key now from tries (attempt.Answered (versioned.Found hit version)) p q =
    IsReaderIn b p q hit.item.seg × HasVersion b key now hit version p q
    × ComesIn from 32 tries 63 p q × GlancesOnce p q
IsAttempt b key now from tries (attempt.Answered versioned.Miss) p q =
    IsReader b p q × IsMissed b.shape key now from tries p q
IsAttempt b key now from tries (attempt.Answered versioned.Busy) p q =
    IsReader b p q × Disturbs b.shape key now tries 64 p q × Attempts from 32 tries 63 p q
    × GlancesOnce p q
IsAttempt b key now from tries (attempt.GoesOn place counted) p q =
    IsReader b p q × MovesOn b.shape key now from tries place counted p q

-- one scan from a place on
abbrev pub Attempted : Board → List ℕ → ℕ → Place → ℕ → Attempt → Pass → Pass → Type 0
Attempted b key now from tries told p q =
    IsAttempt b key now (position b.shape (trace p) from) tries told p q

-- what one scan from a place on saw
abbrev pub Sees : Board → List ℕ → ℕ → Place → ℕ → VersionLook → Pass → Pass → Type 0
Sees b key now from tries told p q =
    IsVersionSight b key now (position b.shape (trace p) from) tries told p q

-- ---- all scans

-- what was found for a key, or the answer that a gets has without it
abbrev pub IsVersionAnswer : Board → List ℕ → ℕ → Versioned → Pass → Pass → Type 0
IsVersionAnswer b key now (versioned.Found hit version) p q = HasVersion b key now hit version p q
IsVersionAnswer b key now versioned.Miss p q =
    IsGetsAnswer b.shape key now gets.Miss (seen p) p q × RaisesNothing p q
IsVersionAnswer b key now versioned.Busy p q =
    IsGetsAnswer b.shape key now gets.Busy (seen p) p q × RaisesNothing p q

-- scans for a key and its version, from the first word of the chain on
pub record FindsVersion (b : Board) (key : List ℕ) (now : ℕ) (told : Versioned) (p q : Pass)
    : Type 0 where
  pub reads : StaysAtVersion b told p q
  pub tries : TriesFew p q
  pub glances : GlancesFew p q
  pub answer : IsVersionAnswer b key now told p q
