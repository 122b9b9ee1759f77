-- The words of this crate that others use, from one place.
use Rattle.std.specs.Prelude.{ℕ}
use Rattle.segword.specs.declared.row.TheConstants.{HEAD_WORDS, ROW_WORDS}
use Rattle.segword.specs.declared.spans.TheConstants.{ITEM_WORDS}
use Rattle.segword.specs.declared.value.TheConstants.{VALUE_BYTES, VALUE_WORDS}
pub use Rattle.segword.specs.Bytes.{IsKey, IsValue}
pub use Rattle.segword.specs.ChainWord.{chain_word, IsChainWord}
pub use Rattle.segword.specs.Fnv.{hash_of, tag_from_hash, with_byte}
pub use Rattle.segword.specs.InfoWord.{info_word}
pub use Rattle.segword.specs.ItemWord.{item_word, tag_part}
pub use Rattle.segword.specs.Limits.{IsWithin, longest, most_rows, SpansAreFew}
pub use Rattle.segword.specs.Props.{either-prop, IsKey-prop, IsValid-prop, IsValue-prop, pair-prop}
pub use Rattle.segword.specs.Props.{quadruple-prop, triple-prop}
pub use Rattle.segword.specs.Reading.{IsProperReading, reading_word}
pub use Rattle.segword.specs.Row.{key_width, row_of}
pub use Rattle.segword.specs.SameItem.{IsSameItem}
pub use Rattle.segword.specs.SegmentWord.{word_of_segment}
pub use Rattle.segword.specs.Shape.{fault_number, IsFirstFault, IsValid, word_count}
pub use Rattle.segword.specs.Spans.{covers, place_behind, row_behind, span, span_of, span_of_header}
pub use Rattle.segword.specs.Spans.{value_place}
use Rattle.segword.specs.declared.info.Info as declared_info
use Rattle.segword.specs.declared.item.Item as declared_item
use Rattle.segword.specs.declared.limits.Limits as declared_limits
use Rattle.segword.specs.declared.reading.Reading as declared_reading
use Rattle.segword.specs.declared.segment.SegmentWord as declared_segment
use Rattle.segword.specs.declared.shape.Shape as declared_shape

-- The types of this crate that others name.
abbrev pub Info : Type 0
Info = declared_info.Info

abbrev pub Item : Type 0
Item = declared_item.Item

abbrev pub Limits : Type 0
Limits = declared_limits.Limits

abbrev pub Reading : Type 0
Reading = declared_reading.Reading

abbrev pub SegmentWord : Type 0
SegmentWord = declared_segment.SegmentWord

abbrev pub Shape : Type 0
Shape = declared_shape.Shape

-- How many words a row has, and how many of them come before the value's and have the value;
-- and how many bytes a value has at most.
abbrev pub row_width : ℕ
row_width = ROW_WORDS

-- how many words the longest item has, in whole rows
abbrev pub item_width : ℕ
item_width = ITEM_WORDS

abbrev pub head_width : ℕ
head_width = HEAD_WORDS

abbrev pub value_width : ℕ
value_width = VALUE_WORDS

abbrev pub value_limit : ℕ
value_limit = VALUE_BYTES
