use Rattle.segevict.proofs.StoredRows.{of_row}
use Rattle.segevict.proofs.spans.rows_from.Goals as goal

pub span_of_row-requires-clause-readable : goal.span_of_row-requires-clause-readable
span_of_row-requires-clause-readable c =
    (of_row c.args.board.now c.args.segment c.args.row c.args.pass.now c.requires.quiet c.requires.used).readable
