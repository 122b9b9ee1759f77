use Rattle.std.proofs.Common.{take}
use Rattle.segshards.specs.Clients.{IsSame}
use Rattle.segshards.specs.Many.{LooksAhead}
use Rattle.segshards.proofs.client.Client.look_ahead.Given as goal

abbrev pub invariant-loop-place : goal.invariant-loop-place
invariant-loop-place l = record {
  looked : LooksAhead (take l.place l.keys) l.fn.self l.self;
  same : IsSame l.fn.self l.self;
}
