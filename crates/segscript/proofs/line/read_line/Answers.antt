use Rattle.segscript.proofs.Lines.{ReadsAs-line, none-many_words}
use Rattle.segscript.proofs.line.read_line.Goals as goal

pub returns-in_err-parts : goal.returns-in_err-parts
returns-in_err-parts c = rw c.from_residual.ensures (none-many_words c.args.passes c.args.line.now c.in_err-parts.ensures.none)

pub returns : goal.returns
returns c = ReadsAs-line c.args.passes c.args.line.now c.said_by.result (rw (c.as_slice.ensures.value, c.in_ok-parts.ensures.some) at c.said_by.ensures)
