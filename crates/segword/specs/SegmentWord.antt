-- Segment words: deadline in bits 63..32, readers in bits 31..0.
use Rattle.std.specs.Prelude.{ℕ, ◌+◌, ◌*◌, ◌^◌}
use Rattle.segword.specs.declared.segment.SegmentWord.{SegmentWord}

-- the word of a segment
abbrev pub word_of_segment : SegmentWord → ℕ
word_of_segment segment = segment.deadline * 2 ^ 32 + segment.readers
