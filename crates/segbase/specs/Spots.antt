-- Which word of the table a place or a spot is.
use Rattle.std.specs.Prelude.{◌≡◌, ℕ, ◌+◌, ◌*◌, ◌-◌, ◌<◌, nat_lt, List, Option, Some, None, if◌then◌else◌}
use Rattle.segword.specs.Words.{Shape}
use Rattle.segcore.specs.declared.cell.Cell.TheVariants.{OfCounter, OfBucket, OfOverflow, OfSegment, OfRow}
use Rattle.segcore.specs.Words.{address, Cell, Event, Home, home_of, segment_size, segments_at}
use Rattle.segbase.specs.declared.layout.Layout.{Layout}
use Rattle.segbase.specs.declared.place.Place.{Place}
use Rattle.segbase.specs.declared.place.RowPlace.{RowPlace}
use Rattle.segbase.specs.declared.place.Spot.{Spot}
use Rattle.segbase.specs.declared.place.Spot.TheVariants.{Counter, Info, Item, Overflow, Segment, Row}

-- the layout of the table of this shape
pub record IsLayoutOf (shape : Shape) (layout : Layout) : Type 0 where
  pub front : layout.front ≡ segments_at shape
  pub width : layout.segment_words ≡ segment_size shape

-- the words of the row begin at its place
abbrev pub IsRowAt : Shape → RowPlace → Type 0
IsRowAt shape row = row.start ≡ address shape (OfRow row.segment row.row 0)

-- overflow bucket n is bucket `buckets + n`
abbrev pub cell_at : Shape → Place → Cell
cell_at shape place =
    if nat_lt place.bucket shape.buckets
    then OfBucket place.bucket place.word
    else OfOverflow (place.bucket - shape.buckets) place.word

abbrev pub cell_of : Shape → Spot → Cell
cell_of shape (Counter bucket) = OfCounter
cell_of shape (Info bucket) = OfBucket bucket 0
cell_of shape (Item place) = cell_at shape place
cell_of shape (Overflow number) = OfOverflow number 1
cell_of shape (Segment segment) = OfSegment segment
cell_of shape (Row segment row word) = OfRow segment row word

-- where a word is along its chain: 8 times the depth of its bucket, plus the number of the word
abbrev pub depth_of : Option Home → ℕ
depth_of None = 0
depth_of (Some of) = of.depth

abbrev pub position : Shape → List Event → Place → ℕ
position shape trace place =
    if nat_lt place.bucket shape.buckets
    then place.word
    else 8 * depth_of (home_of trace (place.bucket - shape.buckets)) + place.word

-- the bucket whose chain a place is in
abbrev pub home_in : Option Home → ℕ
home_in None = 0
home_in (Some of) = of.bucket

abbrev pub home_bucket : Shape → List Event → Place → ℕ
home_bucket shape trace place =
    if nat_lt place.bucket shape.buckets
    then place.bucket
    else home_in (home_of trace (place.bucket - shape.buckets))

-- the bucket that an overflow bucket was drawn for
abbrev pub home_bucket_of : List Event → ℕ → ℕ
home_bucket_of trace number = home_in (home_of trace number)

-- an item word of the table
abbrev pub IsPlace : Shape → Place → Type 0
IsPlace shape place =
    (place.bucket < shape.buckets + shape.overflow) × (0 < place.word) × (place.word < 8)

abbrev pub item_spot : Place → Spot
item_spot place = Item place

-- what a spot names
abbrev pub no_place : Place
no_place = record { bucket = 0; word = 0 }

abbrev pub place_in : Spot → Place
place_in (Item place) = place
place_in _ = no_place

abbrev pub bucket_in : Spot → ℕ
bucket_in (Info bucket) = bucket
bucket_in (Counter bucket) = bucket
bucket_in _ = 0

abbrev pub number_in : Spot → ℕ
number_in (Overflow number) = number
number_in _ = 0

abbrev pub segment_in : Spot → ℕ
segment_in (Segment segment) = segment
segment_in (Row segment row word) = segment
segment_in _ = 0

abbrev pub row_in : Spot → ℕ
row_in (Row segment row word) = row
row_in _ = 0

abbrev pub word_number_in : Spot → ℕ
word_number_in (Row segment row word) = word
word_number_in _ = 0
