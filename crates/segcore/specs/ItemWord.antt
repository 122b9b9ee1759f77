-- The word of an item in the table: tag, frequency, segment and row.
use Rattle.std.specs.Prelude.{◌≡◌, ℕ, ◌+◌, ◌*◌, ◌^◌, ◌<◌}
use Rattle.segmodel.specs.Words.{tag_of}
use Rattle.segcore.specs.Bucket.{Slot}

-- tag in bits 63..52, frequency in 51..44, segment in 43..20, row in 19..0
abbrev pub packed : ℕ → ℕ → ℕ → ℕ → ℕ
packed tag frequency segment row = tag * 2 ^ 52 + frequency * 2 ^ 44 + segment * 2 ^ 20 + row

-- the numbers are those of an item word
abbrev pub IsInItem : ℕ → ℕ → ℕ → Type 0
IsInItem tag segment row = (0 < tag) × (tag < 4096) × (segment < 2 ^ 24) × (row < 2 ^ 20)

-- the word is the item of the slot, with some frequency
abbrev pub IsWordOf : Slot → ℕ → Type 0
IsWordOf slot word =
    (frequency : ℕ)
    × (frequency < 256)
    × (word ≡ packed (tag_of slot.key) frequency slot.segment slot.row)

-- the word is an item word
abbrev pub IsItemWord : ℕ → Type 0
IsItemWord word =
    (tag : ℕ) × (frequency : ℕ) × (segment : ℕ) × (row : ℕ)
    × IsInItem tag segment row
    × (frequency < 256)
    × (word ≡ packed tag frequency segment row)
