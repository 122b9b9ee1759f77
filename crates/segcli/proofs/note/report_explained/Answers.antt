use Rattle.std.proofs.Common.{◌∙◌}
use Rattle.segcli.proofs.note.report_explained.Goals as goal

pub returns-clause-errors : goal.returns-clause-errors
returns-clause-errors g c = rw (c.as_slice.ensures.value ∙ c.line.ensures, c.as_slice-2.ensures.value ∙ c.note_of-note.ensures) at c.print_both_after.ensures
