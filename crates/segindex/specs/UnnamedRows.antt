-- Laws of the rows of a pass's own segment that no item names any more.
-- Each is proved as the contract of a function in src/laws.rt.
use Rattle.std.specs.Prelude.{◌≡◌, ◌⊎◌, ℕ, ◌+◌, List, ◌++◌}
use Rattle.segmodel.specs.Words.{Entry}
use Rattle.segbase.specs.Words.{Board, mine, Pass}
use Rattle.segstore.specs.Words.{GoesOn, IsQuiet}
use Rattle.segread.specs.Holds.{NoneFills}
use Rattle.segevict.specs.declared.eviction.EvictRowAnswer.{EvictRowAnswer}
use Rattle.segevict.specs.declared.eviction.EvictRowAnswer.TheVariants as evict_row
use Rattle.segevict.specs.declared.retention.KeepRowAnswer.TheVariants as kept
use Rattle.segevict.specs.Words.{AreUnnamed, EvictsItem, KeepsItem, KeepsItemInto}

-- They stay so while the pass adds no refilling of the segment.
abbrev pub UnnamedStay : Type 0
UnnamedStay = (b : Board) (p q : Pass) (segment from : ℕ) (added : List Entry)
    → IsQuiet b p
    → GoesOn b p q
    → mine q ≡ added ++ mine p
    → NoneFills segment added
    → AreUnnamed b.shape segment from p
    → AreUnnamed b.shape segment from q

-- An evict of the next row that is Evicted or Left makes them one more.
abbrev pub EvictedIsUnnamed : Type 0
EvictedIsUnnamed = (b : Board) (p q : Pass) (segment row : ℕ) (told : EvictRowAnswer)
    → IsQuiet b p
    → EvictsItem b segment row told p q
    → (told ≡ evict_row.Evicted) ⊎ (told ≡ evict_row.Left)
    → AreUnnamed b.shape segment row p
    → AreUnnamed b.shape segment (row + 1) q

-- A keep of the next row that is Moved makes them one more.
abbrev pub MovedIsUnnamed : Type 0
MovedIsUnnamed = (b : Board) (p q : Pass) (segment row cutoff : ℕ)
    → IsQuiet b p
    → KeepsItem b segment row cutoff kept.Moved p q
    ⊎ ((into : ℕ) × KeepsItemInto b segment row cutoff into kept.Moved p q)
    → AreUnnamed b.shape segment row p
    → AreUnnamed b.shape segment (row + 1) q
