-- Laws of the numbers that a pass sees of the table: what a caller needs of them.
-- Each is proved as the contract of a function in src/laws.rt.
use Rattle.std.specs.Prelude.{◌≡◌, ℕ, ◌≤◌, Bool, true, List, if◌then◌else◌}
use Rattle.segword.specs.Words.{most_rows, Shape}
use Rattle.segmodel.specs.Words.{Begins}
use Rattle.segcore.specs.Words.{all_drawn, Mark}
use Rattle.segbase.specs.Words.{Board, marked, number, Pass}
use Rattle.segstore.specs.Words.{ChangesNothing, IsQuiet}
use Rattle.segevict.specs.Naming.{own_at, sum_below, used_at}
use Rattle.segevict.specs.Words.{IsNamed}
use Rattle.segindex.specs.declared.table_stats.IndexStats.{IndexStats}
use Rattle.segindex.specs.Stats.{ReturnsStats}

-- `Is` holds of each look at the table, with what it told.
abbrev pub OfStats : (Board → IndexStats → Pass → Pass → Type 0) → Type 0
OfStats Is = (b : Board) (told : IndexStats) (p q : Pass) → ReturnsStats b told p q → Is b told p q

-- The pass is quiet again, what it has seen only grew, and all that it keeps is as it was.
abbrev pub StatsOnlyLook : Type 0
StatsOnlyLook = OfStats (λ b told p q.
    IsQuiet b q × (number q ≡ number p) × Begins (marked p) (marked q) × ChangesNothing p q)

-- At least as many overflow buckets are counted as the pass had seen drawn, and at most as many as
-- it has seen at the end, or as there are.
abbrev pub StatsCountDrawn : Type 0
StatsCountDrawn = OfStats (λ b told p q.
    (all_drawn (marked p) ≤ told.overflow_buckets)
    × (told.overflow_buckets ≤ all_drawn (marked q))
    × (told.overflow_buckets ≤ b.shape.overflow))

-- The used rows of the pass's own segments are counted.
abbrev pub StatsCountUsed : Type 0
StatsCountUsed =
    OfStats (λ b told p q. told.used_rows ≡ sum_below (used_at b.shape p) b.shape.segments_each)

-- of the used rows of the pass's own segments, how many pass this test
abbrev pub rows_passing : Shape → (ℕ → ℕ → Bool) → Pass → ℕ
rows_passing shape test p = sum_below (λ at.
    sum_below (λ row. if test (own_at shape p at) row then 1 else 0) (used_at shape p at))
    shape.segments_each

-- At least as many of them are counted as named as items name at the end,
-- by any test that only such rows pass.
abbrev pub StatsCountNamed : Type 0
StatsCountNamed = OfStats (λ b told p q. (test : ℕ → ℕ → Bool)
    → ((segment row : ℕ) → test segment row ≡ true → IsNamed b.shape segment row (marked q))
    → rows_passing b.shape test p ≤ told.named_rows)

-- At most as many are counted so as are used. Where the table's limits allow an item only one row,
-- these are at most as many as items named at a moment of the call,
-- by any test that all such rows pass.
abbrev pub StatsCountNoMore : Type 0
StatsCountNoMore = OfStats (λ b told p q.
    (told.named_rows ≤ told.used_rows)
    × (most_rows b.limits ≡ 1
    → (test : ℕ → ℕ → Bool)
    → ((segment row : ℕ) (moment : List Mark) → Begins (marked p) moment → Begins moment (marked q)
    → IsNamed b.shape segment row moment → test segment row ≡ true)
    → told.named_rows ≤ rows_passing b.shape test p))
