use Rattle.std.proofs.Common.{ap, ◌∙◌, arith}
use Rattle.segword.specs.Words.{span_of_header}
use Rattle.segstore.proofs.Looks.{loaded, may_load, one_step}
use Rattle.segstore.proofs.spans.span_of_row.Goals as goal

pub row_load-requires-clause-may : goal.row_load-requires-clause-may
row_load-requires-clause-may c = may_load c.args.board.now c.args.pass.now c.args.row.segment c.args.row.row 0 c.requires.readable (omega arith)

pub returns-clause-reads : goal.returns-clause-reads
returns-clause-reads c =
    loaded c.args.board.now c.args.pass.now c.row_load.new.pass c.args.row.segment c.args.row.row 0 _ c.requires.readable c.row_load.ensures.step

pub returns-clause-span : goal.returns-clause-span
returns-clause-span c = c.span_of_header.ensures.rows ∙ ap span_of_header c.row_load.ensures.word

pub returns-clause-steps : goal.returns-clause-steps
returns-clause-steps c = let one = one_step c.args.board.now c.args.pass.now c.row_load.new.pass _ _ c.row_load.ensures.step in omega (arith, one)
