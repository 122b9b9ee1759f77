use Rattle.std.proofs.Common.{◌≡◌, drop}
use Rattle.segtraces.specs.Lines.{fields_of}
use Rattle.segtraces.proofs.word.field.Given as goal

abbrev pub invariant-loop-skipped : goal.invariant-loop-skipped
invariant-loop-skipped l = drop l._skipped (fields_of l.at l.fn.text) ≡ fields_of l.at l.rest
