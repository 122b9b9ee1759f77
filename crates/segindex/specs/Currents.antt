-- What a call answers that makes another segment the current one.
use Rattle.std.specs.Prelude.{◌≡◌, ◌↔◌, ℕ, Some, None}
use Rattle.segmodel.specs.declared.answer.SegState.TheVariants.{InUse}
use Rattle.segbase.specs.Words.{Board, Pass, state_of, with_current}
use Rattle.segstore.specs.Words.{CostsNothing, GoesOn}
use Rattle.segindex.specs.declared.current.CurrentAnswer.{CurrentAnswer}
use Rattle.segindex.specs.declared.current.CurrentAnswer.TheVariants as current_answer

-- The pass stores into the segment. All else of it is as it was: its steps too.
abbrev pub storing_into : ℕ → Pass → Pass
storing_into segment p = record p { plain = with_current (Some segment) p.plain }

-- the segment is current, or nothing was changed
abbrev pub IsCurrentAnswer : ℕ → CurrentAnswer → Pass → Pass → Type 0
IsCurrentAnswer segment current_answer.Current p q = q ≡ storing_into segment p
IsCurrentAnswer segment current_answer.NotYours p q = q ≡ p
IsCurrentAnswer segment current_answer.NotInUse p q = q ≡ p

-- The call is answered so: Current exactly if the segment is one of the pass's own in use,
-- and NotYours exactly if it isn't one of the pass's own.
pub record MakesCurrent (b : Board) (segment : ℕ) (told : CurrentAnswer) (p q : Pass)
    : Type 0 where
  pub on : GoesOn b p q
  pub answer : IsCurrentAnswer segment told p q
  pub current : (told ≡ current_answer.Current) ↔ (state_of p segment ≡ Some InUse)
  pub not_yours : (told ≡ current_answer.NotYours) ↔ (state_of p segment ≡ None)
  pub costs_nothing : CostsNothing p q
