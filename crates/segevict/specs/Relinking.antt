-- The exchange that lets the item of a key's word name another row, under the bit of its bucket.
use Rattle.std.specs.Prelude.{◌≡◌, ℕ, ◌<◌, [], ◌∷◌, Result, Ok, Err}
use Rattle.segmodel.specs.Words.{bucket_of}
use Rattle.segcore.specs.declared.event.Event.TheVariants.{Relinked}
use Rattle.segcore.specs.Words.{Event, Fits, HasBit, Slot}
use Rattle.segbase.specs.Words.{AddsAtOnce, Board, Missed, number, Pass, Place, position_at, trace}
use Rattle.segstore.specs.Words.{memo}
use Rattle.segwrite.specs.Words.{IsEarlier, IsInChain}

-- the item of the slot names this row from then on
abbrev pub relinked : Slot → ℕ → ℕ → ℕ → ℕ → Event
relinked named into to position pass =
    Relinked pass named.key named.segment named.row into to position

-- the item may name the row from now on, and the word is one that the item had
pub record Relinks (b : Board) (named : Slot) (into to : ℕ) (place : Place) (word : ℕ) (p : Pass)
    : Type 0 where
  pub bit : HasBit b.shape (trace p) (number p) (bucket_of b.shape named.key)
  pub fits : Fits b.shape (trace p) (relinked named into to (position_at b place p) (number p))
  pub chain : IsInChain b (bucket_of b.shape named.key) place p
  pub earlier : IsEarlier b place word p

-- by one step the item came to name the row, and nothing that the pass keeps was changed
pub record HasRelinked (b : Board) (named : Slot) (into to : ℕ) (place : Place) (p q : Pass)
    : Type 0 where
  pub did : AddsAtOnce b (relinked named into to (position_at b place p) (number p) ∷ []) p q
  pub plain : q.plain ≡ p.plain
  pub memo : memo q ≡ memo p

-- one try: the item came to name the row; or the item has a higher frequency than the word
abbrev pub TriesToRelink : Board → Slot → ℕ → ℕ → Place → ℕ → Result (Unit {0}) ℕ → Pass → Pass
    → Type 0
TriesToRelink b named into to place word (Ok done) p q = HasRelinked b named into to place p q
TriesToRelink b named into to place word (Err found) p q =
    Missed b place word found p q × (word < found) × (q.plain ≡ p.plain) × (memo q ≡ memo p)
