use Rattle.std.proofs.Common.{◌≡◌}
use Rattle.segstore.specs.Calls.{memo, TakesAtMost}
use Rattle.segstore.proofs.Taking.{Tried}
use Rattle.segstore.proofs.bucket.take_bucket.Given as goal

abbrev pub invariant-loop-tries : goal.invariant-loop-tries
invariant-loop-tries l = record {
  tried : Tried l.board l.bucket l.tries l.fn.pass l.pass;
  steps : TakesAtMost l.tries l.fn.pass l.pass;
  plain : l.pass.plain ≡ l.fn.pass.plain;
  memo : memo l.pass ≡ memo l.fn.pass;
}
