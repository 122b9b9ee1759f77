-- Worked examples: when a bucket was full for a key. A bucket without overflow buckets has seven words.
use Rattle.std.proofs.Common.{◌≡◌, ℕ, ◌∷◌, [], ◌++◌, Bool, true, false, List, Option, Some, None, length, refl, ap, ◌∙◌, subst, ◌⊎◌, inl, inr, arith}
use Rattle.std.proofs.lemmas.Bool.{false≢true}
use Rattle.std.proofs.lemmas.List.{length-append}
use Rattle.segword.specs.Words.{Shape}
use Rattle.segmodel.specs.declared.request.Request.TheVariants.{Set}
use Rattle.segmodel.specs.declared.request.Reply.TheVariants.{Stored}
use Rattle.segmodel.specs.declared.entry.Entry.TheVariants as entry
use Rattle.segmodel.specs.Example.{shape, one}
use Rattle.segmodel.specs.Words.{Cached, IsBetween}
use Rattle.segcore.specs.Mark as mark
use Rattle.segcore.specs.Words.{Mark}
use Rattle.segwrite.specs.Full.{CanGrow, IsFull, WasFull}

-- ---- marked histories

abbrev set_of : ℕ → Mark
set_of key = mark.enters (entry.Wrote 0 (Set (key ∷ []) one 0) Stored (Some 0))

-- six keys are set, and then a seventh
abbrev six : List Mark
six = set_of 102 ∷ set_of 101 ∷ set_of 100 ∷ set_of 99 ∷ set_of 98 ∷ set_of 97 ∷ mark.enters (entry.Refilled 0 0 9) ∷ []

abbrev seven : List Mark
seven = set_of 103 ∷ six

-- an overflow bucket is drawn and joins the chain
abbrev grown : List Mark
grown = mark.chained 0 ∷ mark.drawn 0 ∷ seven

-- the same index with an overflow bucket
abbrev roomy : Shape
roomy = record shape { overflow = 1 }

-- ---- growing

-- no overflow bucket is left
no_bucket_is_left : ¬ (CanGrow shape seven (104 ∷ []))
no_bucket_is_left can = absurd (omega (arith, can.left))

-- ---- the only moment from one to itself

pub only_moment : {A : Type 0} (old h : List A) → IsBetween old old h → h ≡ old
only_moment {A} old h b = by b.0.0 b.0.1
  where
    by : (more : List A) → h ≡ more ++ old → h ≡ old
    by [] up = up
    by (x ∷ more) up =
        let longer = ap length up ∙ length-append (x ∷ more) old in let shorter = ap length b.1.1 ∙ length-append b.1.0 h in
        absurd (omega (arith, longer, shorter))

full_then : (z : Shape) (key : List ℕ) (old : List Mark) → WasFull z key old old → IsFull z old key
full_then z key old was = subst (λ h. IsFull z h key) (only_moment old was.0 was.1) was.2

abbrev is_none : Option Cached → Bool
is_none None = true
is_none _ = false

-- ---- full or not

-- once seven keys stand, it was full for an eighth one
full_of_seven : WasFull shape (104 ∷ []) six seven
full_of_seven = (seven, ((_ ∷ [], refl), ([], refl)), record { no_word = record { new = refl; full = refl }; last = inr refl })

-- with six it has a word left
not_full_of_six : ¬ (WasFull shape (104 ∷ []) six six)
not_full_of_six was = let same : 6 ≡ 7 = (full_then shape (104 ∷ []) six was).no_word.full in absurd (omega (arith, same))

-- a key that stands has its word
not_full_for_a_standing_key : ¬ (WasFull shape (97 ∷ []) seven seven)
not_full_for_a_standing_key was = false≢true (ap is_none (full_then shape (97 ∷ []) seven was).no_word.new)

-- the chain can grow while an overflow bucket is left
not_full_while_one_is_left : ¬ (WasFull roomy (104 ∷ []) seven seven)
not_full_while_one_is_left was = by (full_then roomy (104 ∷ []) seven was).last
  where
    by : (◌≡◌ {A = ℕ} 1 4) ⊎ (◌≡◌ {A = ℕ} 0 1) → ⊥
    by (inl wide) = absurd (omega (arith, wide))
    by (inr drawn) = absurd (omega (arith, drawn))

-- and once it has grown it has words again
not_full_once_grown : ¬ (WasFull roomy (104 ∷ []) grown grown)
not_full_once_grown was = let same : 7 ≡ 13 = (full_then roomy (104 ∷ []) grown was).no_word.full in absurd (omega (arith, same))
