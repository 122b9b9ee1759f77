use Rattle.std.proofs.Common.{◌≡◌, ◌++◌, drop}
use Rattle.segcli.specs.Totals.{pass_line, texts_from}
use Rattle.segcli.proofs.totals.text_of.Given as goal

abbrev pub invariant-loop-number : goal.invariant-loop-number
invariant-loop-number l = l.text.items ++ texts_from pass_line l.number (drop l.number l.pass-items) ≡ texts_from pass_line 0 l.pass-items
