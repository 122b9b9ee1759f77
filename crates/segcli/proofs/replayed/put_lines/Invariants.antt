use Rattle.std.proofs.Common.{◌≡◌, ◌++◌, take}
use Rattle.std.specs.List.{flat_map}
use Rattle.segcli.specs.Replayed.{cache_line}
use Rattle.segcli.proofs.replayed.put_lines.Given as goal

abbrev pub invariant-loop-each : goal.invariant-loop-each
invariant-loop-each l = l.text.items ≡ l.fn.text.items ++ flat_map cache_line (take l.each-index l.totals)
