use Rattle.std.proofs.Common.{sym, subst}
use Rattle.segindex.specs.Words.{board_of}
use Rattle.segevict.proofs.RowsOut.{goes_then}
use Rattle.segclient.specs.declared.clearing.Terms.{Terms}
use Rattle.segclient.specs.Clearing.{ClearsRow, TakesRows}
use Rattle.segclient.proofs.OneTurn.{looked_clears, looked_on, looked_stays, looked_takes}
use Rattle.segclient.proofs.clearing.clear_row.Goals as goal

-- after the look
pub clear_one_row-requires-clause-quiet : goal.clear_one_row-requires-clause-quiet
clear_one_row-requires-clause-quiet c =
    let told = c.span_of-rows in
    (looked_on (board_of c.args.index.now) c.args.source told.result c.args.pass.now told.new.pass c.requires.quiet c.requires.clearing told.ensures.spans).quiet

pub clear_one_row-requires-clause-clearing : goal.clear_one_row-requires-clause-clearing
clear_one_row-requires-clause-clearing c =
    let told = c.span_of-rows in
    looked_stays (board_of c.args.index.now) c.args.source told.result c.args.pass.now told.new.pass c.requires.quiet c.requires.clearing told.ensures.spans

pub clear_one_row-requires-clause-spans : goal.clear_one_row-requires-clause-spans
clear_one_row-requires-clause-spans c =
    let told = c.span_of-rows in
    subst (λ (t : Terms). TakesRows c.args.source t.rows told.new.pass) (sym c.of_rows.ensures)
    (looked_takes (board_of c.args.index.now) c.args.source told.result c.args.pass.now told.new.pass c.requires.quiet c.requires.clearing told.ensures.spans)

pub returns-clause-on : goal.returns-clause-on
returns-clause-on c =
    let b = board_of c.args.index.now in
    let told = c.span_of-rows in
    goes_then b c.args.pass.now told.new.pass c.clear_one_row.new.pass
    (looked_on b c.args.source told.result c.args.pass.now told.new.pass c.requires.quiet c.requires.clearing told.ensures.spans)
    c.clear_one_row.ensures.on

pub returns-clause-clears : goal.returns-clause-clears
returns-clause-clears c =
    let b = board_of c.args.index.now in
    let told = c.span_of-rows in
    let turn = c.clear_one_row in
    looked_clears b c.args.source told.result c.args.pass.now told.new.pass c.requires.quiet c.requires.clearing told.ensures.spans
    c.args.terms.least turn.result.effort turn.new.pass
    (subst (λ (t : Terms). ClearsRow b t.least turn.result.effort told.new.pass turn.new.pass) c.of_rows.ensures turn.ensures.clears)
