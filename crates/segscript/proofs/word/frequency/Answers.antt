use Rattle.segscript.proofs.Numbers.{ReadsAs-byte}
use Rattle.segscript.proofs.word.frequency.Goals as goal

pub returns : goal.returns
returns c = rw c.ok.ensures.value (ReadsAs-byte c.args.word.now c.in_ok-number.number c.try_from.result c.in_ok-number.ensures.0 c.in_ok-number.ensures.1 c.try_from.ensures)
