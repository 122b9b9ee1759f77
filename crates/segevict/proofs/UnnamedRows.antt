-- Rows that no item names any more: none will before their segment is refilled, and one more by an evict or a keep of the next row.
use Rattle.std.proofs.Common.{◌≡◌, ℕ, ◌+◌, ◌<◌, ◌++◌, true, is_some, List, Option, Some, None, refl, sym, ap, ◌∙◌, subst, ⊎_elim, arith}
use Rattle.std.proofs.lemmas.Bool.{cases_eq, false≢true, ltb-true}
use Rattle.segmodel.specs.Words.{owner}
use Rattle.segcore.specs.Words.{Event, IsLawful, NoneRefills, row_after, RowGone}
use Rattle.segcore.proofs.Segments.{row_since}
use Rattle.segbase.specs.Words.{Board, marked, number, own_segment, Pass, trace, used_of}
use Rattle.segbase.proofs.Owned.{state_owned, state_there, used_there}
use Rattle.segstore.specs.Words.{GoesOn, IsQuiet}
use Rattle.segevict.specs.Naming.{AreUnnamed, IsNamed}
use Rattle.segevict.specs.Rows.{IsUsedRow}
use Rattle.segevict.proofs.Naming.{gone_unless_named, unnamed}
use Rattle.segevict.proofs.StoredRows.{of_row}
use Rattle.segevict.proofs.Unnamed.{gone_since}

some_used : (o : Option ℕ) → is_some o ≡ true → (used : ℕ) × (o ≡ Some used)
some_used None t = absurd (false≢true t)
some_used (Some used) t = (used, refl)

-- a row of the pass's own that is linked is a used one
used_if_linked : (b : Board) (segment row : ℕ) (key : List ℕ) (q : Pass) → IsQuiet b q
    → owner b.shape segment ≡ number q → row < b.shape.rows → (row_after (trace q) segment row).linked ≡ Some key
    → IsUsedRow segment row q
used_if_linked b segment row key q quiet own within linked =
    let s = own_segment q.plain segment in
    let used = some_used (used_of q segment) (used_there s ∙ (sym (state_there s) ∙ state_owned b q segment quiet.pass own)) in (
      used.0,
      used.1,
      ltb-true row used.0 (sym (quiet.segments.rows segment used.0 row used.1 within) ∙ ap is_some linked),
    )

-- the segment isn't refilled meanwhile
pub unnamed_last : (b : Board) (segment from : ℕ) (p q : Pass) (more : List Event) → IsQuiet b p → GoesOn b p q
    → trace q ≡ more ++ trace p → (owner b.shape segment ≡ number p → NoneRefills segment more)
    → AreUnnamed b.shape segment from p → AreUnnamed b.shape segment from q
unnamed_last b segment from p q more quiet on now none are row lt =
    let was = are row lt in let of = of_row b segment row p quiet was.0 in
    let lawful : IsLawful b.shape (more ++ trace p) = subst (IsLawful b.shape) now on.quiet.pass.lawful in
    let linked = ap (λ h. (row_after h segment row).linked) now ∙ (ap (λ u. u.linked) (row_since b.shape more (trace p) segment row of.key lawful (none of.own) of.linked) ∙ of.linked) in
    let gone = gone_since b.shape more (trace p) segment row of.key lawful (none of.own) of.linked (gone_unless_named b.shape (trace p) segment row quiet.pass.lawful was.1) in (
      used_if_linked b segment row of.key q on.quiet (of.own ∙ sym on.same) of.readable.1 linked,
      unnamed b.shape (trace q) segment row on.quiet.pass.lawful (subst (λ h. RowGone b.shape segment row h) (sym now) gone),
    )

-- the next row was a used one, and no item names it now
pub one_more_unnamed : (b : Board) (segment row : ℕ) (p q : Pass) (more : List Event) → IsQuiet b p → GoesOn b p q
    → trace q ≡ more ++ trace p → (owner b.shape segment ≡ number p → NoneRefills segment more)
    → IsUsedRow segment row q → ¬ (IsNamed b.shape segment row (marked q)) → AreUnnamed b.shape segment row p → AreUnnamed b.shape segment (row + 1) q
one_more_unnamed b segment row p q more quiet on now none used free are n lt = ⊎_elim
    (λ same. subst (λ m. IsUsedRow segment m q × ¬ (IsNamed b.shape segment m (marked q))) (sym same) (used, free))
    (λ other. unnamed_last b segment row p q more quiet on now none are n (omega (arith, lt, other)))
    (cases_eq n row)
