-- The limits of a table, and the pairs that are within them.
use Rattle.std.specs.Prelude.{ℕ, ◌≤◌, List, length}
use Rattle.segword.specs.Spans.{span, span_of}
use Rattle.segword.specs.declared.key.TheConstants.{KEY_BYTES}
use Rattle.segword.specs.declared.limits.Limits.{Limits}
use Rattle.segword.specs.declared.value.TheConstants.{VALUE_BYTES}

-- those of the longest keys and values that there are
abbrev pub longest : Limits
longest = record { key = KEY_BYTES; value = VALUE_BYTES }

-- neither the key nor the value is longer than the limits allow
abbrev pub IsWithin : Limits → List ℕ → List ℕ → Type 0
IsWithin limits key value = (length key ≤ limits.key) × (length value ≤ limits.value)

-- how many rows an item takes at most that is within the limits
abbrev pub most_rows : Limits → ℕ
most_rows limits = span limits.key limits.value

-- the item of a pair that is within the limits takes no more
abbrev pub SpansAreFew : Type 0
SpansAreFew = (limits : Limits) (key value : List ℕ)
    → IsWithin limits key value
    → span_of key value ≤ most_rows limits
