-- The words of the table, each as what the trace makes it; where each stands,
-- and which of them are the words of a chain.
use Rattle.std.specs.Prelude.{◌≡◌, ℕ, zero, suc, ◌+◌, ◌*◌, ◌%◌, ◌^◌, ◌<◌, ◌==◌, ◌&&◌, Bool, true, false, List, Option, Some, None}
use Rattle.segmodel.specs.Words.{tag_of}
use Rattle.segword.specs.Words.{chain_word, row_width, Shape}
use Rattle.segcore.specs.declared.event.Event.{Event}
use Rattle.segcore.specs.declared.cell.Cell.{Cell}
use Rattle.segcore.specs.declared.cell.Cell.TheVariants.{OfCounter, OfBucket, OfOverflow, OfSegment, OfRow}
use Rattle.segcore.specs.Bucket.{Bucket, Content, nothing, item, next, copy, IsPosition, bucket_after}
use Rattle.segcore.specs.Overflow.{Home, home, home_of, drawn_in}
use Rattle.segcore.specs.Row.{row_after, frequency_of}
use Rattle.segcore.specs.Segment.{readers, deadline_of}
use Rattle.segcore.specs.ItemWord.{packed}

-- ---- cells

abbrev pub IsCell : Shape → Cell → Type 0
IsCell shape OfCounter = Unit {0}
IsCell shape (OfBucket bucket word) = (bucket < shape.buckets) × (word < 8)
IsCell shape (OfOverflow number word) = (number < shape.overflow) × (word < 8)
IsCell shape (OfSegment segment) = segment < shape.passes * shape.segments_each
IsCell shape (OfRow segment row place) =
    (segment < shape.passes * shape.segments_each) × (row < shape.rows) × (place < row_width)

abbrev pub same_cell : Cell → Cell → Bool
same_cell OfCounter OfCounter = true
same_cell (OfBucket b w) (OfBucket bucket word) = (b == bucket) && (w == word)
same_cell (OfOverflow n w) (OfOverflow number word) = (n == number) && (w == word)
same_cell (OfSegment s) (OfSegment segment) = s == segment
same_cell (OfRow s r p) (OfRow segment row place) = (s == segment) && ((r == row) && (p == place))
same_cell _ _ = false

-- where the segments begin, and how many words each has
abbrev pub segments_at : Shape → ℕ
segments_at shape = 1 + 8 * shape.buckets + 8 * shape.overflow

abbrev pub segment_size : Shape → ℕ
segment_size shape = 1 + row_width * shape.rows

-- the place of a cell in the table: the counter, the buckets, the overflow buckets,
-- then each segment's word and its rows
abbrev pub address : Shape → Cell → ℕ
address shape OfCounter = 0
address shape (OfBucket bucket word) = 1 + (bucket * 8 + word)
address shape (OfOverflow number word) = 1 + 8 * shape.buckets + (number * 8 + word)
address shape (OfSegment segment) = segments_at shape + segment * segment_size shape
address shape (OfRow segment row place) =
    segments_at shape + (segment * segment_size shape + (1 + (row * row_width + place)))

-- ---- what each holds

abbrev pub content_word : List Event → Content → ℕ
content_word trace nothing = 0
content_word trace (item named) =
    packed (tag_of named.key) (frequency_of trace named.segment named.row) named.segment named.row
content_word trace (next number) = chain_word number
content_word trace (copy word) = word

abbrev pub bit_of : Option ℕ → ℕ
bit_of None = 0
bit_of (Some pass) = 1

-- the version in bits 63..32, and the bit in bit 0
abbrev pub bucket_info_word : Shape → Bucket → ℕ
bucket_info_word shape bucket =
    (shape.first_version + bucket.version) % 2 ^ 32 * 2 ^ 32 + bit_of bucket.holder

-- the word at a position of a bucket's chain
abbrev pub word_in : Shape → List Event → Bucket → ℕ → ℕ
word_in shape trace bucket zero = bucket_info_word shape bucket
word_in shape trace bucket (suc position) = content_word trace (bucket.items (suc position))

-- an overflow bucket that isn't drawn is empty
abbrev pub overflow_word : Shape → List Event → ℕ → Option Home → ℕ
overflow_word shape trace word None = 0
overflow_word shape trace word (Some of) =
    word_in shape trace (bucket_after shape trace of.bucket) (8 * of.depth + word)

-- the deadline in bits 63..32, and how many readers the segment has in the others
abbrev pub segment_word : List Event → ℕ → ℕ
segment_word trace segment = deadline_of trace segment * 2 ^ 32 + readers trace segment

-- the word of a cell after a trace
abbrev pub word : Shape → List Event → Cell → ℕ
word shape trace OfCounter = drawn_in trace
word shape trace (OfBucket bucket w) = word_in shape trace (bucket_after shape trace bucket) w
word shape trace (OfOverflow number w) = overflow_word shape trace w (home_of trace number)
word shape trace (OfSegment segment) = segment_word trace segment
word shape trace (OfRow segment row place) = (row_after trace segment row).words place

-- ---- the words of a chain

-- the cell is that of a position of the bucket's chain, or of the bucket that is drawn for it
abbrev pub IsAt : List Event → ℕ → ℕ → Cell → Type 0
IsAt trace bucket position (OfBucket b w) = (b ≡ bucket) × (w ≡ position) × (w < 8)
IsAt trace bucket position (OfOverflow number w) =
    (depth : ℕ)
    × (home_of trace number ≡ Some (home bucket depth))
    × (position ≡ 8 * depth + w)
    × (w < 8)
IsAt trace bucket position _ = ⊥

-- the position is that of an item word of the chain, and the cell is at this position
abbrev pub IsItemAt : Shape → List Event → ℕ → ℕ → Cell → Type 0
IsItemAt shape trace bucket position cell =
    IsPosition (bucket_after shape trace bucket) position × IsAt trace bucket position cell
