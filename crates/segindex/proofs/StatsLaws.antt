-- What a count of the table comes to: by one test of rows, at least so many are named, or at most.
use Rattle.std.proofs.Common.{◌≡◌, ◌≤◌, ℕ, zero, suc, Bool, true, false, if◌then◌else◌, List, [], ◌∷◌, ◌++◌, refl, ap, inl, inr, subst, arith}
use Rattle.std.proofs.lemmas.Bool.{cases_Bool}
use Rattle.segword.specs.Words.{most_rows, Shape}
use Rattle.segmodel.specs.Words.{Begins}
use Rattle.segcore.specs.Words.{all_drawn, drawn, Mark}
use Rattle.segcore.specs.Mark as mark
use Rattle.segcore.proofs.Moments.{begins_on, marked_begins}
use Rattle.segbase.specs.Words.{Board, marked, Pass, trace}
use Rattle.segstore.specs.Words.{IsQuiet}
use Rattle.segbase.proofs.Starting.{start_grew}
use Rattle.segevict.specs.Naming.{AreNamed, own_at, sum_below, SumsUp, Tallies, used_at, WasNamedIn, WasTaken}
use Rattle.segevict.specs.Words.{IsNamed}
use Rattle.segindex.specs.declared.table_stats.IndexStats.{IndexStats}
use Rattle.segindex.specs.Stats.{ReturnsStats}
use Rattle.segindex.proofs.FirstRows.{only_row}
use Rattle.segindex.specs.StatsLaws.{rows_passing, StatsCountDrawn, StatsCountNamed, StatsCountNoMore, StatsCountUsed, StatsOnlyLook}

-- ---- overflow buckets

drawn_more : (more old : List Mark) → all_drawn old ≤ all_drawn (more ++ old)
drawn_more [] old = omega arith
drawn_more (drawn bucket ∷ more) old = omega (arith, drawn_more more old)
drawn_more (_ ∷ more) old = drawn_more more old

drawn_since : (old new : List Mark) → Begins old new → all_drawn old ≤ all_drawn new
drawn_since old new (more, e) = omega (arith, ap all_drawn e, drawn_more more old)

pub counts_drawn : StatsCountDrawn
counts_drawn b told p q stats =
    let start = stats.drawn.0 in
    let was = stats.drawn.2 in
    let first = drawn_since (marked p) (mark.marked start) (marked_begins (trace p) start (start_grew p q start stats.drawn.1)) in
    let low = drawn_since (mark.marked start) was.moment was.from in
    let high = drawn_since was.moment (marked q) was.to in
    (omega (arith, first, low, was.drawn), omega (arith, high, was.drawn), stats.most)

-- ---- rows

abbrev one_if : Bool → ℕ
one_if so = if so then 1 else 0

module _ (IsSo IsNot : ℕ → Type 0) (test : ℕ → Bool) where
  abbrev passing : ℕ → ℕ
  passing rows = sum_below (λ row. one_if (test row)) rows

  few : (row : ℕ) → one_if (test row) ≤ 1
  few row = elim (cases_Bool (test row)) [ inl e ↦ omega (arith, ap one_if e) | inr e ↦ omega (arith, ap one_if e) ]

  at_least : ((row : ℕ) → IsNot row → test row ≡ false) → (rows count : ℕ) → Tallies IsSo IsNot rows count → passing rows ≤ count
  at_least fails zero count is = omega (arith, is)
  at_least fails (suc row) count (inl (before, one, rest, so)) = omega (arith, one, few row, at_least fails row before rest)
  at_least fails (suc row) count (inr (rest, other)) = omega (arith, ap one_if (fails row other), at_least fails row count rest)

  at_most : ((row : ℕ) → IsSo row → test row ≡ true) → (rows count : ℕ) → Tallies IsSo IsNot rows count → count ≤ passing rows
  at_most passes zero count is = omega (arith, is)
  at_most passes (suc row) count (inl (before, one, rest, so)) = omega (arith, one, ap one_if (passes row so), at_most passes row before rest)
  at_most passes (suc row) count (inr (rest, other)) = omega (arith, at_most passes row count rest)

sums_least : (Is : ℕ → ℕ → Type 0) (least : ℕ → ℕ) → ((at one : ℕ) → Is at one → least at ≤ one) → (n sum : ℕ) → SumsUp Is n sum → sum_below least n ≤ sum
sums_least Is least each zero sum is = omega (arith, is)
sums_least Is least each (suc at) sum (before, one, adds, rest, so) = omega (arith, adds, sums_least Is least each at before rest, each at one so)

sums_most : (Is : ℕ → ℕ → Type 0) (most : ℕ → ℕ) → ((at one : ℕ) → Is at one → one ≤ most at) → (n sum : ℕ) → SumsUp Is n sum → sum ≤ sum_below most n
sums_most Is most each zero sum is = omega (arith, is)
sums_most Is most each (suc at) sum (before, one, adds, rest, so) = omega (arith, adds, sums_most Is most each at before rest, each at one so)

-- ---- the laws

pub only_look : StatsOnlyLook
only_look b told p q stats = (stats.only.on.quiet, stats.only.on.same, stats.only.on.marked, stats.only.keeps)

pub counts_used : StatsCountUsed
counts_used b told p q stats = stats.rows.sum

not_passed : (test : Bool) (IsSo : Type 0) → (test ≡ true → IsSo) → ¬ IsSo → test ≡ false
not_passed true IsSo so none = absurd (none (so refl))
not_passed false IsSo so none = refl

abbrev rows_at : Shape → (ℕ → ℕ → Bool) → Pass → ℕ → ℕ
rows_at shape test p at = sum_below (λ row. one_if (test (own_at shape p at) row)) (used_at shape p at)

pub counts_named : StatsCountNamed
counts_named b told p q stats test named =
    sums_least (λ at count. AreNamed b.shape (own_at b.shape p at) (used_at b.shape p at) count p q) (rows_at b.shape test p)
    (λ at count are. at_least _ _ (test (own_at b.shape p at)) (λ row none. not_passed (test (own_at b.shape p at) row) _ (named (own_at b.shape p at) row) none) (used_at b.shape p at) count are)
    b.shape.segments_each told.named_rows stats.rows.sums

-- where the limits allow an item only one row, a row that was taken was named at a moment since the call
taken_then : (b : Board) (segment row : ℕ) (p q : Pass) (So : Type 0) → IsQuiet b q → most_rows b.limits ≡ 1
    → ((moment : List Mark) → Begins (marked p) moment → Begins moment (marked q) → IsNamed b.shape segment row moment → So)
    → WasTaken b.shape segment row p q → So
taken_then b segment row p q So quiet one so was =
    let itself : was.0 ≡ row = only_row b q segment was.1.0 quiet one was.0 row was.1.1 was.1.2 was.2 in
    let named = subst (λ r. WasNamedIn b.shape segment r p q) itself was.3 in
    let start = named.0 in
    let first = marked_begins (trace p) start (start_grew p q start named.1) in
    so named.2.moment (begins_on (marked p) (mark.marked start) named.2.moment first named.2.from) named.2.to named.2.named

-- any row that items named at a moment of the call passes the test
abbrev AllPass : Board → (ℕ → ℕ → Bool) → Pass → Pass → Type 0
AllPass b test p q = (segment row : ℕ) (moment : List Mark) → Begins (marked p) moment → Begins moment (marked q) → IsNamed b.shape segment row moment → test segment row ≡ true

no_more : (b : Board) (told : IndexStats) (p q : Pass) → ReturnsStats b told p q → most_rows b.limits ≡ 1 → (test : ℕ → ℕ → Bool) → AllPass b test p q
    → told.named_rows ≤ rows_passing b.shape test p
no_more b told p q stats one test named =
    sums_most (λ at count. AreNamed b.shape (own_at b.shape p at) (used_at b.shape p at) count p q) (rows_at b.shape test p)
    (λ at count are. at_most _ _ (test (own_at b.shape p at))
    (λ row was. taken_then b (own_at b.shape p at) row p q (test (own_at b.shape p at) row ≡ true) stats.only.on.quiet one (named (own_at b.shape p at) row) was)
    (used_at b.shape p at) count are)
    b.shape.segments_each told.named_rows stats.rows.sums

pub counts_no_more : StatsCountNoMore
counts_no_more b told p q stats = (stats.rows.few, no_more b told p q stats)
