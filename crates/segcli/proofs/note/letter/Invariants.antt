use Rattle.std.proofs.Common.{◌≡◌, ◌+◌, drop}
use Rattle.segcli.specs.Notes.{letter_from}
use Rattle.segcli.proofs.note.letter.Given as goal

abbrev pub invariant-loop-i : goal.invariant-loop-i
invariant-loop-i l = letter_from 1 l.text ≡ letter_from (l.i + 1) (drop l.i l.text)
