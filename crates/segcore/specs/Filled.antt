-- How many positions of a bucket's chain have an item, and whether all its item words are taken.
use Rattle.std.specs.Prelude.{◌≢◌, ℕ, zero, suc, ◌+◌, Bool, true, false, if◌then◌else◌}
use Rattle.segcore.specs.Bucket.{Content, nothing, item, Bucket, IsPosition}

abbrev pub is_item : Content → Bool
is_item (item named) = true
is_item _ = false

-- 1 for an item, and 0 for anything else
abbrev pub item_count : Content → ℕ
item_count content = if is_item content then 1 else 0

-- how many positions below this one have an item
abbrev pub items_below : Bucket → ℕ → ℕ
items_below bucket zero = 0
items_below bucket (suc position) = items_below bucket position + item_count (bucket.items position)

-- each item word of the chain has an item or leads on
abbrev pub HasNoEmptyWord : Bucket → Type 0
HasNoEmptyWord bucket =
    (position : ℕ) → IsPosition bucket position → bucket.items position ≢ nothing
