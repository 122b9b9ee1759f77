use Rattle.std.proofs.Common.{◌≡◌, ◌++◌, drop}
use Rattle.segcli.specs.Totals.{json_pass, texts_from}
use Rattle.segcli.proofs.json.json_of.Given as goal

abbrev pub invariant-loop-number : goal.invariant-loop-number
invariant-loop-number l = l.text.items ++ texts_from json_pass l.number (drop l.number l.pass-items) ≡ texts_from json_pass 0 l.pass-items
