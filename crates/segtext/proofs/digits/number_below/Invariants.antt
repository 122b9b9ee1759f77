use Rattle.std.proofs.Common.{◌≡◌, ◌<◌, drop}
use Rattle.segtext.specs.Digits.{number_from}
use Rattle.segtext.proofs.digits.number_below.Given as goal

abbrev pub invariant-loop-byte : goal.invariant-loop-byte
invariant-loop-byte l = record {
  same : number_from l.limit 0 l.digits ≡ number_from l.limit l.number (drop l.byte-index l.digits);
  small : l.number < l.limit;
}
