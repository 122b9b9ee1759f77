-- What a client holds stays held, whatever call it makes.
use Rattle.std.proofs.Common.{◌≡◌, ℕ, List, Option, Some, None, ap, ◌∙◌}
use Rattle.segword.specs.Words.{Shape}
use Rattle.segmodel.specs.Words.{DeleteAnswer}
use Rattle.segmodel.specs.declared.answer.DeleteAnswer.TheVariants as delete
use Rattle.segbase.specs.Words.{Board, Memo, Pass}
use Rattle.segstore.specs.Words.{memo}
use Rattle.segread.specs.Words.{HeldRow, IsKept}
use Rattle.segread.proofs.HoldCalls.{stays}
use Rattle.segwrite.specs.Words.{Deletes, IsDeleteAnswer}

-- ---- which calls keep what is held

abbrev Keeps : Pass → Pass → Type 0
Keeps p q = memo q ≡ memo p

delete_keeps : (shape : Shape) (key : List ℕ) (now : ℕ) (returned : DeleteAnswer) (p q : Pass) → IsDeleteAnswer shape key now returned p q → Keeps p q
delete_keeps shape key now delete.Deleted p q is = is.2
delete_keeps shape key now delete.NotFound p q is = is.2
delete_keeps shape key now delete.Busy p q is = is.0.memo

pub deletes_keep : (b : Board) (key : List ℕ) (now : ℕ) (returned : DeleteAnswer) (p q : Pass) → Deletes b key now returned p q → memo q ≡ memo p
deletes_keep b key now returned p q deletes = delete_keeps b.shape key now returned p q deletes.answer

-- ---- the row

-- a row stays that of what is held
pub row_stays : (shape : Shape) (p q : Pass) (row : Option HeldRow) → memo q ≡ memo p → IsKept shape p row → IsKept shape q row
row_stays shape p q None same is = ap (λ (m : Memo). m.holding) same ∙ is
row_stays shape p q (Some row) same is = stays shape row p q is (ap (λ (m : Memo). m.holding) same)
