use Rattle.std.proofs.Common.{◌≡◌, ◌++◌, take}
use Rattle.std.specs.List.{flat_map}
use Rattle.segcli.specs.Replayed.{next_object}
use Rattle.segcli.proofs.replayed.put_next_objects.Given as goal

abbrev pub invariant-loop-each : goal.invariant-loop-each
invariant-loop-each l = l.text.items ≡ l.fn.text.items ++ flat_map next_object (take l.each-index l.totals)
