-- What readers do beside their answers: how often they come into segments,
-- and which frequency a hit raises.
use Rattle.std.specs.Prelude.{◌≡◌, ◌<◌, ◌⊎◌, ℕ, ◌+◌, ◌≤◌, true, false, List, ◌∷◌, Some}
use Rattle.segword.specs.Words.{Item, item_word, Shape}
use Rattle.segmodel.specs.declared.answer.GetAnswer.TheVariants as get
use Rattle.segmodel.specs.declared.answer.GetsAnswer.TheVariants as gets
use Rattle.segmodel.specs.Words.{after, Begins, GetAnswer, GetsAnswer, standing}
use Rattle.segcore.specs.declared.event.Event.TheVariants.{Bumped}
use Rattle.segcore.specs.Mark.{place}
use Rattle.segcore.specs.Words.{cached, entered, Event, frequency_in, glanced, inside, last_at}
use Rattle.segcore.specs.Words.{marked, raised, seen, slot}
use Rattle.segpolicy.specs.Words.{draw_raises}
use Rattle.segbase.specs.Words.{Board, count, number, Pass, Place, SinceFirst, trace}
use Rattle.segstore.specs.Words.{FoundItem, RaisesNothing}

-- The pass came into segments at most as often as a scan of a chain may try:
-- for 63 tries that are counted, and once more at each of 28 words.
abbrev pub TriesFew : Pass → Pass → Type 0
TriesFew p q = count entered q ≤ count entered p + 63 + 28

-- no look of the pass without a bit found a bucket's bit set
abbrev pub GlancesNothing : Pass → Pass → Type 0
GlancesNothing p q = (bucket : ℕ) → count (glanced bucket) q ≡ count (glanced bucket) p

-- at most one such look, or at most 64, found a bucket's bit set
abbrev pub GlancesOnce : Pass → Pass → Type 0
GlancesOnce p q = (bucket : ℕ) → count (glanced bucket) q ≤ count (glanced bucket) p + 1

abbrev pub GlancesFew : Pass → Pass → Type 0
GlancesFew p q = (bucket : ℕ) → count (glanced bucket) q ≤ count (glanced bucket) p + 64

-- for each look that found a bucket's bit set, the pass came into a segment
abbrev pub PaysForGlances : Pass → Pass → Type 0
PaysForGlances p q = (bucket : ℕ)
    → count (glanced bucket) q + count entered p ≤ count (glanced bucket) p + count entered q

-- how often the pass raised a frequency, and found a bucket's bit set by a look without it
abbrev pub beside_scans : Pass → ℕ × (ℕ → ℕ)
beside_scans p = (count raised p, λ bucket. count (glanced bucket) p)

-- the pass raised no frequency, and no such look found a bit set
abbrev pub OnlyScans : Pass → Pass → Type 0
OnlyScans p q = beside_scans q ≡ beside_scans p

-- at a moment the key's item stands, in this segment and row, with this frequency
pub record HasFrequency (shape : Shape) (key value : List ℕ) (segment row frequency : ℕ)
    (at : List Event) : Type 0 where
  pub stands : standing (after shape (seen at)) key ≡ Some (cached value segment)
  pub last : last_at (marked at) key ≡ Some (slot key segment row)
  pub had : frequency_in (marked at) segment row ≡ frequency

-- At a moment between two traces the key's item had a frequency at which this draw counts.
-- The pass raised that frequency by one.
pub record CountsHit (shape : Shape) (key value : List ℕ) (draw pass : ℕ) (old new : List Event)
    : Type 0 where
  pub at : List Event
  pub segment : ℕ
  pub row : ℕ
  pub frequency : ℕ
  pub since : Begins old at
  pub had : HasFrequency shape key value segment row frequency at
  pub counted : draw_raises frequency draw ≡ true
  pub raise : Begins (Bumped pass segment row (frequency + 1) ∷ at) new

-- at a moment between two traces the key's item had a frequency at which this draw doesn't count
pub record PassesHit (shape : Shape) (key value : List ℕ) (draw : ℕ) (old new : List Event)
    : Type 0 where
  pub at : List Event
  pub segment : ℕ
  pub row : ℕ
  pub frequency : ℕ
  pub since : Begins old at
  pub until : Begins at new
  pub had : HasFrequency shape key value segment row frequency at
  pub uncounted : draw_raises frequency draw ≡ false

-- at a moment the key's item stands at this position of its chain, with this frequency
abbrev pub IsItemAtPosition : Shape → List ℕ → List ℕ → ℕ → ℕ → ℕ → ℕ → List Event → Type 0
IsItemAtPosition shape key value segment row frequency position at =
    HasFrequency shape key value segment row frequency at
    × (place shape (marked at) key ≡ Some position)

-- between two traces the key's item stood so, and later it didn't
pub record IsOvertaken (shape : Shape) (key value : List ℕ) (old new : List Event) : Type 0 where
  pub at : List Event
  pub later : List Event
  pub segment : ℕ
  pub row : ℕ
  pub frequency : ℕ
  pub position : ℕ
  pub since : Begins old at
  pub then : Begins at later
  pub until : Begins later new
  pub stood : IsItemAtPosition shape key value segment row frequency position at
  pub other : ¬ (IsItemAtPosition shape key value segment row frequency position later)

-- From this trace on the pass raised the frequency of the key's item by one, and the draw counts.
-- Or it raised nothing: the draw doesn't count,
-- or there are several passes and the item changed first.
abbrev pub RaisesFrom : Shape → List ℕ → List ℕ → ℕ → List Event → Pass → Pass → Type 0
RaisesFrom shape key value draw before p q =
    ((count raised q ≡ count raised p + 1)
    × CountsHit shape key value draw (number p) before (trace q))
    ⊎ (RaisesNothing p q
    × (PassesHit shape key value draw before (trace q)
    ⊎ ((1 < shape.passes) × IsOvertaken shape key value before (trace q))))

-- the same from what the first step of a call saw
abbrev pub RaisesOne : Shape → List ℕ → List ℕ → ℕ → Pass → Pass → Type 0
RaisesOne shape key value draw p q =
    SinceFirst p q (λ start. RaisesFrom shape key value draw start p q)

-- The pass does so with the item at a place,
-- from a moment on at which the item was found for a key.
-- This is so if the pass is in the item's segment.
abbrev pub RaisesFound : Board → Place → Item → ℕ → Pass → Pass → Type 0
RaisesFound b place item draw p q = (key value : List ℕ) (before : List Event)
    → 0 < inside (trace p) (number p) item.seg
    → FoundItem b.shape place (item_word item) key value before (trace p)
    → RaisesFrom b.shape key value draw before p q

-- a get that hits raises a frequency so, and any other get raises none
abbrev pub GetRaises : Shape → List ℕ → ℕ → GetAnswer → Pass → Pass → Type 0
GetRaises shape key draw (get.Found value) p q = RaisesOne shape key value draw p q
GetRaises shape key draw _ p q = RaisesNothing p q

-- and so does a gets
abbrev pub GetsRaises : Shape → List ℕ → ℕ → GetsAnswer → Pass → Pass → Type 0
GetsRaises shape key draw (gets.Found value version) p q = RaisesOne shape key value draw p q
GetsRaises shape key draw _ p q = RaisesNothing p q
