use Rattle.std.proofs.Common.{◌≡◌, ℕ, ◌+◌, vec_len}
use Rattle.segword.specs.Words.{span_of}
use Rattle.segmodel.specs.Cache.{with_at}
use Rattle.segmodel.specs.Segments.{deadlines, fillings, HasSpace, KeepsRoom}
use Rattle.segmodel.proofs.Spans.{many}
use Rattle.segmodel.proofs.parts.add_row.Given as goal

-- the key has used so many rows as there were turns, and there is memory for the others
abbrev pub invariant-loop-row : goal.invariant-loop-row
invariant-loop-row l = record {
  end : l._row-end ≡ span_of l.key l.value;
  long : vec_len l.segments ≡ vec_len l.fn.segments;
  added : fillings l.segments.items ≡ with_at (fillings l.fn.segments.items) l.segment (many l._row l.key l.frequency (fillings l.fn.segments.items l.segment));
  deadlines : deadlines l.segments.items ≡ deadlines l.fn.segments.items;
  room : KeepsRoom l.fn.segments.items l.segments.items;
  left : (rows : ℕ) → l._row + rows ≡ l._row-end → HasSpace l.segments.items l.segment rows;
}
