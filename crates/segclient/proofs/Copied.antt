-- How a get and a gets are counted whose value went into a buffer, and what was read of what is held.
use Rattle.std.proofs.Common.{◌≡◌, List, ℕ, length, Option, Some, None, Result, refl, ap, inl, inr, arith}
use Rattle.std.proofs.lemmas.Bool.{cases_lt}
use Rattle.segmodel.specs.Words.{GetAnswer, GetsAnswer}
use Rattle.segmodel.specs.declared.answer.GetAnswer.TheVariants as get
use Rattle.segmodel.specs.declared.answer.GetsAnswer.TheVariants as gets
use Rattle.segbase.specs.Words.{Board, Pass}
use Rattle.segread.specs.Words.{CopiesGet, CopiesGets, GetsIntoAnswer, HeldRow, IntoAnswer}
use Rattle.segindex.specs.Words.{ReadsKept, ReadsKeptInto}
use Rattle.segtally.specs.Tallies.{get_tally, gets_into_tally, gets_tally, into_tally}

pub tally_told : (answer : GetAnswer) (told : IntoAnswer) (old new : List ℕ) → CopiesGet answer told old new → into_tally told ≡ get_tally answer
tally_told (get.Found value) told old new x = elim (cases_lt (length old) (length value)) [
  | inl p ↦ ap into_tally (x.short (λ le. absurd (omega (arith, p, le)))).0
  | inr p ↦ ap into_tally (x.fits (omega (arith, p))).0
]
tally_told get.Miss told old new x = ap into_tally x.0
tally_told get.Busy told old new x = ap into_tally x.0

pub gets_tally_told : (answer : GetsAnswer) (told : GetsIntoAnswer) (old new : List ℕ) → CopiesGets answer told old new → gets_into_tally told ≡ gets_tally answer
gets_tally_told (gets.Found value version) told old new x = elim (cases_lt (length old) (length value)) [
  | inl p ↦ ap gets_into_tally (x.short (λ le. absurd (omega (arith, p, le)))).0
  | inr p ↦ ap gets_into_tally (x.fits (omega (arith, p))).0
]
gets_tally_told gets.Miss told old new x = ap gets_into_tally x.0
gets_tally_told gets.Busy told old new x = ap gets_into_tally x.0

-- what is kept was read, if there is something
pub kept_copied : (b : Board) (kept : Option HeldRow) (told : Option (Result ℕ ℕ)) (old new : List ℕ) (p q : Pass)
    → ReadsKeptInto b kept told old new p q → (value : Option (List ℕ)) × ReadsKept b kept value p q
kept_copied b (Some row) (Some copied) old new p q x = (Some x.value, x.reads)
kept_copied b (Some row) None old new p q x = absurd x
kept_copied b None told old new p q x = (None, (refl, x.2))
