use Rattle.std.proofs.Common.{take}
use Rattle.seghandles.specs.Many.{LooksFor}
use Rattle.seghandles.proofs.client.SharedClient.look_ahead.Given as goal

abbrev pub invariant-loop-place : goal.invariant-loop-place
invariant-loop-place l = LooksFor (take l.place l.keys) l.fn.self l.self
