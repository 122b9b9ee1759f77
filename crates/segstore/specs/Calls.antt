-- What calls do to the pass that makes them.
use Rattle.std.specs.Prelude.{◌≡◌, ◌≢◌, ◌⊎◌, ℕ, ◌+◌, ◌<◌, ◌≤◌, ◌∷◌, length, Some}
use Rattle.segmodel.specs.Words.{Begins, Entry}
use Rattle.segcore.specs.Words.{bounced, drew, entered, glanced, raised, taken}
use Rattle.segbase.specs.Words.{Board, count, locked_of, looks, marked, Memo, mine, number, Pass}
use Rattle.segbase.specs.Words.{seen, sight, TakesSteps}
use Rattle.segstore.specs.Quiet.{IsQuiet}

-- the pass is the same one, quiet again, and what it has seen only grew, by its steps
pub record GoesOn (b : Board) (p q : Pass) : Type 0 where
  pub quiet : IsQuiet b q
  pub same : number q ≡ number p
  pub marked : Begins (marked p) (marked q)
  pub seen : Begins (seen p) (seen q)
  pub steps : TakesSteps p q

-- how many steps the pass has taken
abbrev pub step_count : Pass → ℕ
step_count p = length (looks p)

-- the pass took at most so many steps
abbrev pub TakesAtMost : ℕ → Pass → Pass → Type 0
TakesAtMost most p q = step_count q ≤ step_count p + most

abbrev pub memo : Pass → Memo
memo p = (sight p).memo

-- the pass added no entry, and its segments, its hold and its lock are as they were
pub record ChangesNothing (p q : Pass) : Type 0 where
  pub entries : mine q ≡ mine p
  pub plain : q.plain ≡ p.plain
  pub memo : memo q ≡ memo p

-- the pass took no bit, and no try of it for one found another's
pub record TakesNoBit (p q : Pass) : Type 0 where
  pub taken : count taken q ≡ count taken p
  pub bounced : (bucket : ℕ) → count (bounced bucket) q ≡ count (bounced bucket) p

-- The pass took one bit, after at most 63 tries that found the bit of this bucket set by another.
-- It found the bit of no other bucket set by a try.
-- A try for a bit that the pass itself has is no event.
pub record TakesOneBit (bucket : ℕ) (p q : Pass) : Type 0 where
  pub taken : count taken q ≡ count taken p + 1
  pub tries : count (bounced bucket) q < count (bounced bucket) p + 64
  pub others : (other : ℕ) → other ≢ bucket → count (bounced other) q ≡ count (bounced other) p

-- the pass took no bit: 64 tries found the bit of this bucket set by another,
-- and none that of another bucket
pub record TriesInVain (bucket : ℕ) (p q : Pass) : Type 0 where
  pub taken : count taken q ≡ count taken p
  pub tries : count (bounced bucket) q ≡ count (bounced bucket) p + 64
  pub others : (other : ℕ) → other ≢ bucket → count (bounced other) q ≡ count (bounced other) p

-- the pass drew no overflow bucket
abbrev pub DrawsNothing : Pass → Pass → Type 0
DrawsNothing p q = (bucket : ℕ) → count (drew bucket) q ≡ count (drew bucket) p

-- the pass raised the frequency of no item
abbrev pub RaisesNothing : Pass → Pass → Type 0
RaisesNothing p q = count raised q ≡ count raised p

-- how often the pass raised a frequency, came into a segment,
-- and found a bucket's bit set by a look without it
abbrev pub readings : Pass → ℕ × ℕ × (ℕ → ℕ)
readings p = (count raised p, count entered p, λ bucket. count (glanced bucket) p)

-- the pass did nothing of what readers do
abbrev pub ReadsNothing : Pass → Pass → Type 0
ReadsNothing p q = readings q ≡ readings p

-- how often the pass took a bit, found a bucket's bit set by a take,
-- and drew an overflow bucket for a bucket
abbrev pub writings : Pass → ℕ × (ℕ → ℕ) × (ℕ → ℕ)
writings p = (count taken p, (λ bucket. count (bounced bucket) p), λ bucket. count (drew bucket) p)

-- all that a call may cost: what the pass does as writers do, and as readers do
abbrev pub efforts : Pass → (ℕ × (ℕ → ℕ) × (ℕ → ℕ)) × (ℕ × ℕ × (ℕ → ℕ))
efforts p = (writings p, readings p)

-- the call cost nothing of this
abbrev pub CostsNothing : Pass → Pass → Type 0
CostsNothing p q = efforts q ≡ efforts p

-- the pass added one entry of its own
abbrev pub AddsEntry : Entry → Pass → Pass → Type 0
AddsEntry entry p q = mine q ≡ entry ∷ mine p

-- The pass itself has the bucket locked, took no bit and found none of another's.
-- Or it found the bucket's bit set by another 64 times.
abbrev pub IsBusy : ℕ → Pass → Pass → Type 0
IsBusy bucket p q = ((locked_of p ≡ Some bucket) × TakesNoBit p q) ⊎ TriesInVain bucket p q
