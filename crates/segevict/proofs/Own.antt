-- An item of the pass's own that is taken out first: which of two it is, and over a look.
use Rattle.std.proofs.Common.{◌≡◌, ◌⊎◌, IfSome, Option, Some, is_some, sym, ap, subst, inl, inr}
use Rattle.segmodel.specs.declared.answer.SegState.TheVariants.{InUse}
use Rattle.segmodel.specs.Words.{owner}
use Rattle.segbase.specs.declared.pass.PlainPart.{PlainPart}
use Rattle.segbase.specs.Words.{Board, number, Pass, state_of}
use Rattle.segbase.proofs.Owned.{owns_state}
use Rattle.segstore.specs.Words.{Idles, IsQuiet, TakesAtMost}
use Rattle.segstore.proofs.Idling.{goes_nowhere}
use Rattle.segstore.specs.declared.row.RowRef.{RowRef}
use Rattle.segevict.specs.declared.crowded.OwnItem.{OwnItem}
use Rattle.segevict.specs.Crowded.{FindsOwn}
use Rattle.segevict.specs.Steps.{most_looks}

-- the segment of the item is one of the pass's own, and in use
abbrev pub IsOwnIn : Pass → OwnItem → Type 0
IsOwnIn p item = state_of p item.row.segment ≡ Some InUse

pub own_still : (p q : Pass) (item : Option OwnItem) → q.plain ≡ p.plain → IfSome item (IsOwnIn p) → IfSome item (IsOwnIn q)
own_still p q item same own = subst (λ (x : PlainPart). IfSome item (IsOwnIn (record q { plain = x }))) (sym same) own

pub own_either : (p : Pass) (result one other : Option OwnItem) → (result ≡ one) ⊎ (result ≡ other)
    → IfSome one (IsOwnIn p) → IfSome other (IsOwnIn p) → IfSome result (IsOwnIn p)
own_either p result one other (inl same) first next = subst (λ o. IfSome o (IsOwnIn p)) (sym same) first
own_either p result one other (inr same) first next = subst (λ o. IfSome o (IsOwnIn p)) (sym same) next

-- what was found after looks alone
pub finds_own : (b : Board) (found : Option RowRef) (p q : Pass) → IsQuiet b p → Idles b p q → TakesAtMost most_looks p q
    → IfSome found (λ row. owner b.shape row.segment ≡ number p) → FindsOwn b found p q
finds_own b found p q quiet idles steps own = record {
  on = goes_nowhere b p q quiet idles.moved idles.plain idles.memo;
  idles = idles;
  steps = steps;
  own = own;
}

pub own_row : (b : Board) (p q : Pass) (item : OwnItem) → IsQuiet b p → Idles b p q → IsOwnIn q item → owner b.shape item.row.segment ≡ number p
own_row b p q item quiet idles own =
    owns_state b p item.row.segment quiet.pass (ap is_some (subst (λ (x : PlainPart). IsOwnIn (record p { plain = x }) item) idles.plain own))
