use Rattle.std.proofs.Common.{◌≡◌, drop, length}
use Rattle.seghandles.specs.Opening.{are_empty, values_of}
use Rattle.seghandles.proofs.opening.are_empty.Given as goal

abbrev pub invariant-loop-at : goal.invariant-loop-at
invariant-loop-at l =
    let old = l.initial.handles in
    record {
      long : length l.handles ≡ length old;
      same : values_of l.handles ≡ values_of old;
      rest : are_empty (values_of old) ≡ are_empty (drop l.at (values_of l.handles));
    }
