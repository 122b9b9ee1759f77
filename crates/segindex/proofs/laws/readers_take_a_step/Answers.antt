use Rattle.std.proofs.Common.{◌≡◌, ◌≢◌, ℕ, List, ◌∷◌, length, length-append, refl, sym, ap, ◌∙◌, arith}
use Rattle.segcore.specs.Words.{Event}
use Rattle.segbase.specs.Words.{Board, looks, Pass, SinceFirst}
use Rattle.segread.specs.declared.held.HoldAnswer.TheVariants as hold_answer
use Rattle.segread.specs.Words.{HoldAnswer, HoldsItem}
use Rattle.segindex.proofs.laws.readers_take_a_step.Goals as goal

has_looked : (p q : Pass) (Is : List Event → Type 0) → SinceFirst p q Is → looks q ≡ looks p → ⊥
has_looked p q Is s same =
    let long = ap (λ (l : List (List Event)). length l) (sym same ∙ s.1.looked) ∙ length-append s.1.later (s.0 ∷ looks p) in
    omega (arith, long)

held : (b : Board) (key : List ℕ) (now : ℕ) (told : HoldAnswer) (p q : Pass) → HoldsItem b key now told p q → told ≢ hold_answer.AlreadyHolding → looks q ≡ looks p → ⊥
held b key now (hold_answer.Holding hold) p q holds other same = has_looked p q _ holds.answer.between same
held b key now hold_answer.Miss p q holds other same = has_looked p q _ holds.answer.1 same
held b key now hold_answer.Busy p q holds other same = has_looked p q _ holds.answer.1 same
held b key now hold_answer.AlreadyHolding p q holds other same = absurd (other refl)

pub returns : goal.returns
returns c = record {
  get = λ b key draw now told p q reads. has_looked p q _ reads.answer;
  gets = λ b key draw now told p q reads. has_looked p q _ reads.answer;
  hold = held;
}
