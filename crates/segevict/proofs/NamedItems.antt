-- How many rows of a segment are those of named items, from item to item.
use Rattle.std.proofs.Common.{◌≡◌, ℕ, zero, suc, ◌+◌, ◌<◌, ◌≤◌, true, false, [], Some, refl, sym, ap, ◌∙◌, subst, inl, inr, ⊎_elim, arith}
use Rattle.std.proofs.lemmas.Bool.{cases_lt}
use Rattle.std.proofs.lemmas.Option.{same_Some}
use Rattle.segcore.specs.Words.{row_after, RowGone, span_in}
use Rattle.segbase.specs.Words.{Board, HasStep, Pass, trace, used_of}
use Rattle.segstore.specs.Words.{HoldsPair, Idles, IsQuiet}
use Rattle.segstore.proofs.Keeping.{owns_used, same_used}
use Rattle.segwrite.proofs.Places.{idles_then}
use Rattle.segevict.specs.Naming.{FindsNamed, ReturnsNamed, Tallies}
use Rattle.segevict.specs.Spans.{IsFirstRow}
use Rattle.segevict.proofs.Items.{first_stays, IsItem, item_at, item_behind, item_linked, item_pair}
use Rattle.segevict.proofs.Naming.{Counting, counting_first, finds_after, named_in, quiet_still, taken_by}
use Rattle.segevict.proofs.RowsOut.{calm_keeps_gone}

-- ---- so many rows more

tallies_more : (IsSo IsNot : ℕ → Type 0) (row count rows : ℕ) → ((i : ℕ) → row ≤ i → i < row + rows → IsSo i) → Tallies IsSo IsNot row count → Tallies IsSo IsNot (row + rows) (count + rows)
tallies_more IsSo IsNot row count zero so is =
    let same : row ≡ row + zero = omega arith in let all : count ≡ count + zero = omega arith in
    subst (λ n. Tallies IsSo IsNot n (count + zero)) same (subst (Tallies IsSo IsNot row) all is)
tallies_more IsSo IsNot row count (suc rows) so is =
    let next : suc (row + rows) ≡ row + suc rows = omega arith in
    subst (λ n. Tallies IsSo IsNot n (count + suc rows)) next
    (inl (count + rows, omega arith, tallies_more IsSo IsNot row count rows (λ i low high. so i low (omega (arith, high))) is, so (row + rows) (omega arith) (omega arith)))

tallies_none : (IsSo IsNot : ℕ → Type 0) (row count rows : ℕ) → ((i : ℕ) → row ≤ i → i < row + rows → IsNot i) → Tallies IsSo IsNot row count → Tallies IsSo IsNot (row + rows) count
tallies_none IsSo IsNot row count zero other is = let same : row ≡ row + zero = omega arith in subst (λ n. Tallies IsSo IsNot n count) same is
tallies_none IsSo IsNot row count (suc rows) other is =
    let next : suc (row + rows) ≡ row + suc rows = omega arith in
    subst (λ n. Tallies IsSo IsNot n count) next
    (inr (tallies_none IsSo IsNot row count rows (λ i low high. other i low (omega (arith, high))) is, other (row + rows) (omega arith) (omega arith)))

-- ---- from item to item

pub record CountingItems (b : Board) (segment row count : ℕ) (p q : Pass) : Type 0 where
  pub counting : Counting b segment row count p q
  pub within : (used : ℕ) → used_of p segment ≡ Some used → row ≤ used
  pub first : IsFirstRow (trace q) segment row

pub items_counted_first : (b : Board) (segment : ℕ) (p : Pass) → IsQuiet b p → CountingItems b segment 0 0 p p
items_counted_first b segment p quiet = record { counting = counting_first b segment p quiet.pass; within = λ used is. omega arith; first = (0, refl) }

-- the pass looks how many rows the next item takes, and then whether a word names it
module _ (b : Board) (segment row count used rows : ℕ) (p q f : Pass) (quiet : IsQuiet b p) (is : used_of p segment ≡ Some used) (lt : row < used)
    (c : CountingItems b segment row count p q) (i : Idles b q f) (span : rows ≡ span_in (trace f) segment row) where
  looked : Idles b p f
  looked = idles_then b p q f c.counting.idles i

  first_at : (r : Pass) → Idles b q r → IsFirstRow (trace r) segment row
  first_at r j =
      let q_quiet = quiet_still b p q quiet c.counting.idles in let q_used = same_used p q segment c.counting.idles.plain ∙ is in
      first_stays b segment row used q r q_quiet (calm_keeps_gone b segment [] q r j.moved tt (owns_used b q segment used q_quiet.pass q_used)) q_used (omega (arith, lt)) c.first

  item_now : (r : Pass) → Idles b q r → IsItem b.shape (trace r) segment row used
  item_now r j =
      let all = idles_then b p q r c.counting.idles j in
      item_at b segment row used r (quiet_still b p r quiet all) (same_used p r segment all.plain ∙ is) lt (first_at r j)

  pub has_pair : HoldsPair (row_after (trace f) segment row)
  has_pair = item_pair b.shape (trace f) segment looked.moved.pass.lawful row used (item_now f i)

  pub counted_ends : row + rows ≤ used
  counted_ends = let ends = (item_now f i).ends in omega (arith, span, ends)

  module _ (r : Pass) (j : Idles b f r) where
    both : Idles b q r
    both = idles_then b q f r i j

    all : Idles b p r
    all = idles_then b p q r c.counting.idles both

    span_now : rows ≡ span_in (trace r) segment row
    span_now =
        let f_quiet = quiet_still b p f quiet looked in let f_used = same_used p f segment looked.plain ∙ is in
        let own = owns_used b f segment used f_quiet.pass f_used in
        span ∙ sym ((calm_keeps_gone b segment [] f r j.moved tt own).spans row (item_linked b.shape (trace f) segment looked.moved.pass.lawful row used (item_now f i)))

    found : FindsNamed b.shape segment row count p r
    found =
        let q_quiet = quiet_still b p q quiet c.counting.idles in let q_used = same_used p q segment c.counting.idles.plain ∙ is in
        finds_after b segment row count p q r q_quiet (owns_used b q segment used q_quiet.pass q_used) both c.counting.named

    on_to : (more : ℕ) → count + more ≤ row + rows → FindsNamed b.shape segment (row + rows) (count + more) p r → CountingItems b segment (row + rows) (count + more) p r
    on_to more few named =
        let first = first_at r both in let ends = counted_ends in record {
          counting = record { idles = all; few = few; named = named };
          within = λ other there. subst (λ n. row + rows ≤ n) (same_Some used other (sym is ∙ there)) ends;
          first = (suc first.0, ap (λ m. m + span_in (trace r) segment m) first.1 ∙ ap (λ m. row + m) (sym span_now));
        }

    pub items_counted : HasStep f r → ReturnsNamed b.shape segment row true r → CountingItems b segment (row + rows) (count + rows) p r
    items_counted step named =
        let few = c.counting.few in
        on_to rows (omega arith) (tallies_more _ _ row count rows
        (λ n low high. taken_by b segment row n used p r (same_used p r segment all.plain ∙ is) lt low (omega (arith, high, span_now)) (named_in b segment row p f r looked step named)) found)

    pub items_passed : ReturnsNamed b.shape segment row false r → CountingItems b segment (row + rows) count p r
    items_passed gone =
        let few = c.counting.few in let same : count + 0 ≡ count = omega arith in
        subst (λ n. CountingItems b segment (row + rows) n p r) same (on_to 0 (omega arith) (subst (λ n. FindsNamed b.shape segment (row + rows) n p r) (sym same) (tallies_none _ _ row count rows
        (λ n low high. ⊎_elim
        (λ past. item_behind b.shape (trace r) segment all.moved.pass.lawful row used (item_now r both) n past (omega (arith, high, span_now)))
        (λ le. let one : row ≡ n = omega (arith, low, le) in subst (λ m. RowGone b.shape segment m (trace r)) one gone)
        (cases_lt row n)) found)))
