use Rattle.std.proofs.Common.{◌≡◌, ◌≤◌, Some, drop, length}
use Rattle.segmodel.specs.Plain.{filling_in, state_of}
use Rattle.segmodel.specs.Serving.{keep_rows}
use Rattle.segmodel.proofs.plain.Plain.keep_rows.Given as goal

-- what the rows that are left come to from here is what all rows come to from the start; the segment itself stays as it was
abbrev pub invariant-loop-row : goal.invariant-loop-row
invariant-loop-row l = record {
  shape : l.self.shape ≡ l.fn.self.shape;
  current : l.self.current ≡ Some l.to;
  same : filling_in l.self l.segment ≡ filling_in l.fn.self l.segment;
  few : l.count ≤ l.row;
  end : l.row-end ≡ length (filling_in l.fn.self l.segment).keys;
  rest : keep_rows l.fn.self.shape l.segment l.to l.cutoff (drop l.row (filling_in l.fn.self l.segment).keys) (drop l.row (filling_in l.fn.self l.segment).frequencies) l.count (state_of l.self)
      ≡ keep_rows l.fn.self.shape l.segment l.to l.cutoff (filling_in l.fn.self l.segment).keys (filling_in l.fn.self l.segment).frequencies 0 (state_of l.fn.self);
}
