use Rattle.std.proofs.Common.{◌≡◌, ◌*◌, ◌^◌, ◌≤◌, take}
use Rattle.std.specs.List.{sum_by}
use Rattle.segload.specs.Words.{PassTotals}
use Rattle.segcli.proofs.stats.without_room.Given as goal

abbrev pub invariant-loop-pass : goal.invariant-loop-pass
invariant-loop-pass l = record {
  sum : l.refused ≡ sum_by (λ (of : PassTotals). of.tallies.no_room) (take l.pass-index l.pass-items);
  fits : l.refused ≤ l.pass-index * 2 ^ 32;
}
