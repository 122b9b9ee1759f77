use Rattle.std.proofs.Common.{◌≡◌, drop}
use Rattle.segmodel.specs.State.{is_among}
use Rattle.segmodel.proofs.parts.raise.Given as goal

-- nothing is raised before the last row of the key, and it is among the rows that are left if it is among all
abbrev pub invariant-loop-row : goal.invariant-loop-row
invariant-loop-row l = record {
  same : l.frequencies ≡ l.fn.frequencies;
  rest : is_among (drop l.row l.keys) l.key ≡ is_among l.keys l.key;
}
