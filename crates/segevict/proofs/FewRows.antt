-- What is linked is within the table's limits, so its item takes no more rows than these allow.
use Rattle.std.proofs.Common.{ℕ, ◌+◌, ◌*◌, ◌≤◌, sym, subst, arith}
use Rattle.std.proofs.Math.Nat.{add-mul}
use Rattle.segword.specs.Words.{most_rows}
use Rattle.segmodel.specs.Words.{bucket_of}
use Rattle.segcore.specs.Words.{cached, row_after, Slot, slot, span_in}
use Rattle.segcore.proofs.Coherent.{IsStanding}
use Rattle.segcore.proofs.Spans.{header_span}
use Rattle.segcore.proofs.Standing.{coherent}
use Rattle.segcore.proofs.Within.{stands_within}
use Rattle.segbase.specs.Words.{Board, IsPassOf, Pass, seen, trace}
use Rattle.segevict.specs.Moving.{SeesRow}
use Rattle.segword.proofs.Longest.{spans_few}

-- ---- what stands, and what a pass saw of a row

pub standing_few : (b : Board) (bucket at : ℕ) (a : Slot) (f : Pass) → IsPassOf b f → IsStanding b.shape (trace f) bucket at a
    → span_in (trace f) a.segment a.row ≤ most_rows b.limits
standing_few b bucket at a f is st =
    let within = stands_within b.shape b.limits (seen f) a.key is.within (cached st.value a.segment) st.stands in
    subst (λ n. n ≤ most_rows b.limits) (sym (header_span (row_after (trace f) a.segment a.row) a.key st.value st.valid.0 st.valid.1 st.holds))
    (spans_few b.limits a.key st.value within)

pub seen_few : (b : Board) (segment row : ℕ) (IsSo : ℕ → Type 0) (p f : Pass) → SeesRow b segment row IsSo p f
    → span_in (trace f) segment row ≤ most_rows b.limits
seen_few b segment row IsSo p f s = let is = s.idles.moved.pass in
    standing_few b (bucket_of b.shape s.key) s.position (slot s.key segment row) f is
    ((coherent b.shape (trace f) is.lawful).items (bucket_of b.shape s.key) s.position (slot s.key segment row) s.named)

-- ---- rows of a number of items: at least one for each, and at most this number

pub record AreSome (count most rows : ℕ) : Type 0 where
  pub some : count ≤ rows
  pub few : rows ≤ count * most

pub none_yet : (most : ℕ) → AreSome 0 most 0
none_yet most = record { some = omega arith; few = omega arith }

pub one_more : (count most rows more : ℕ) → 1 ≤ more → more ≤ most → AreSome count most rows → AreSome (count + 1) most (rows + more)
one_more count most rows more some few are = let least = are.some in let greatest = are.few in let sum = add-mul count 1 most in record {
  some = omega (arith, least, some);
  few = omega (arith, greatest, few, sum);
}
