use Rattle.std.proofs.Common.{◌≡◌, length, take}
use Rattle.segshards.specs.Clients.{IsSame}
use Rattle.segshards.specs.Many.{GetsKeyVersion, InTurn}
use Rattle.segshards.proofs.client.Client.gets_many.Given as goal

abbrev pub invariant-loop-place : goal.invariant-loop-place
invariant-loop-place l = record {
  long : length l.answers ≡ length l.keys;
  made : InTurn GetsKeyVersion (take l.place l.keys) (take l.place l.answers) l.fn.self l.self;
  same : IsSame l.fn.self l.self;
}
