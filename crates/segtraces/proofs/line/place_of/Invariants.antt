use Rattle.std.proofs.Common.{◌≡◌, drop}
use Rattle.segtraces.specs.Lines.{fields_of, place_named}
use Rattle.segtraces.proofs.line.place_of.Given as goal

abbrev pub invariant-loop-place : goal.invariant-loop-place
invariant-loop-place l =
    place_named l.column 0 (fields_of l.row.at l.row.line.now) ≡ place_named l.column l.place (drop l.place (fields_of l.row.at l.row.line.now))
