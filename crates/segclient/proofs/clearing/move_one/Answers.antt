use Rattle.std.proofs.Common.{Some, ap, sym, subst, ◌∙◌, arith}
use Rattle.segindex.specs.Words.{board_of}
use Rattle.segevict.proofs.RowsOut.{goes_then}
use Rattle.segclient.specs.declared.clearing.ClearingTurn.{ClearingTurn}
use Rattle.segclient.specs.Clearing.{IsCleared}
use Rattle.segclient.proofs.OneTurn.{clears_after, kept_clears, left_clears, left_stays, moved_done, moved_fits, takes_still}
use Rattle.segclient.proofs.clearing.move_one.Goals as goal

pub evict_one-requires-clause-clearing : goal.evict_one-requires-clause-clearing
evict_one-requires-clause-clearing c =
    let told = c.keep_row_into-told in
    left_stays (board_of c.args.index.now) c.args.source c.args.pass.now told.new.pass c.requires.quiet
    c.requires.clearing told.result c.cutoff_of-cutoff.result c.args.to.into c.in-Left.is told.ensures.keeps

pub evict_one-requires-clause-spans : goal.evict_one-requires-clause-spans
evict_one-requires-clause-spans c =
    let told = c.keep_row_into-told in
    takes_still (board_of c.args.index.now) c.args.source c.args.pass.now told.new.pass c.requires.quiet
    c.requires.clearing c.args.to.rows c.requires.spans told.result c.cutoff_of-cutoff.result c.args.to.into c.in-Left.is told.ensures.keeps

pub next_row-requires : goal.next_row-requires
next_row-requires c =
    let told = c.keep_row_into-told in
    record {
      fits = moved_fits (board_of c.args.index.now) c.args.source c.args.pass.now told.new.pass c.requires.quiet c.requires.clearing
          told.result c.cutoff_of-cutoff.result c.args.to.into c.in-Moved.is told.ensures.keeps c.args.to.rows c.requires.spans;
    }

pub returns-in-Moved-clause-cleared : goal.returns-in-Moved-clause-cleared
returns-in-Moved-clause-cleared c =
    let b = board_of c.args.index.now in
    let told = c.keep_row_into-told in
    subst (λ (t : ClearingTurn). IsCleared b.shape t.source told.new.pass) (sym c.next_row.ensures)
    (moved_done b c.args.source c.args.pass.now told.new.pass c.requires.quiet c.requires.clearing told.result c.cutoff_of-cutoff.result c.args.to.into c.in-Moved.is told.ensures.keeps
    c.args.to.rows c.requires.spans)

pub returns-in-Moved-clause-clears : goal.returns-in-Moved-clause-clears
returns-in-Moved-clause-clears c =
    let told = c.keep_row_into-told in
    let from = c.args.source in
    let by = c.cutoff_of-cutoff.result in
    kept_clears (board_of c.args.index.now) from c.args.pass.now told.new.pass c.requires.quiet c.requires.clearing
    c.args.to.least c.from.result by c.args.to.into told.result c.next_row.result.effort
    (ap (λ (t : ClearingTurn). t.effort) c.next_row.ensures)
    (c.from.ensures ∙ c.moved_by.ensures.value_into from.segment from.row by c.args.to.into) c.cutoff_of-cutoff.ensures.enough told.ensures.keeps

pub returns-in-Left-clause-on : goal.returns-in-Left-clause-on
returns-in-Left-clause-on c = goes_then (board_of c.args.index.now) c.args.pass.now c.keep_row_into-told.new.pass c.evict_one.new.pass c.keep_row_into-told.ensures.keeps.on c.evict_one.ensures.on

pub returns-in-Left-clause-clears : goal.returns-in-Left-clause-clears
returns-in-Left-clause-clears c =
    let b = board_of c.args.index.now in
    let p = c.args.pass.now in
    let told = c.keep_row_into-told in
    let q = told.new.pass in
    let least = c.args.to.least in
    clears_after b (Some least) 1 1 2 c.evict_one.result.effort p q c.evict_one.new.pass (omega arith)
    (left_clears b c.args.source p q c.requires.quiet c.requires.clearing least c.cutoff_of-cutoff.result
    c.args.to.into told.result c.in-Left.is c.cutoff_of-cutoff.ensures.enough told.ensures.keeps)
    (c.evict_one.ensures.clears (Some least))

pub returns-in-NoRoom : goal.returns-in-NoRoom
returns-in-NoRoom c =
    let b = board_of c.args.index.now in
    let told = c.keep_row_into-told in
    let from = c.args.source in
    let by = c.cutoff_of-cutoff.result in
    let same = ap (λ (t : ClearingTurn). t.effort) c.leave.ensures in
    record {
      on = told.ensures.keeps.on;
      cleared = subst (λ (t : ClearingTurn). IsCleared b.shape t.source told.new.pass) (sym c.leave.ensures) tt;
      few =
          let one = ap (λ e. e.refilled) same in
          let two = ap (λ e. e.kept) same in
          let three = ap (λ e. e.keys) same in
          let most = c.moved_by.ensures.few in
          let is = c.from.ensures in
          (omega (arith, one), omega (arith, two, most, is), omega (arith, three));
      clears = kept_clears b from c.args.pass.now told.new.pass c.requires.quiet c.requires.clearing
          c.args.to.least c.from.result by c.args.to.into told.result c.leave.result.effort
          same (c.from.ensures ∙ c.moved_by.ensures.value_into from.segment from.row by c.args.to.into) c.cutoff_of-cutoff.ensures.enough told.ensures.keeps;
    }
