use Rattle.std.proofs.Common.{ap, sym, subst, ◌∙◌}
use Rattle.segindex.specs.Words.{board_of}
use Rattle.segclient.specs.declared.clearing.ClearingTurn.{ClearingTurn}
use Rattle.segclient.specs.Clearing.{IsCleared}
use Rattle.segclient.proofs.OneTurn.{evicted_clears, evicted_done, evicted_fits}
use Rattle.segclient.proofs.clearing.evict_one.Goals as goal

pub next_row-requires : goal.next_row-requires
next_row-requires c =
    let told = c.evict_row-told in
    record {
      fits = evicted_fits (board_of c.args.index.now) c.args.source c.args.pass.now told.new.pass c.requires.quiet c.requires.clearing c.args.rows
          c.requires.spans told.result told.ensures.evicts c.in-Evicted.is;
    }

pub returns-in-Evicted-clause-cleared : goal.returns-in-Evicted-clause-cleared
returns-in-Evicted-clause-cleared c =
    let b = board_of c.args.index.now in
    let told = c.evict_row-told in
    subst (λ (t : ClearingTurn). IsCleared b.shape t.source told.new.pass) (sym c.next_row.ensures)
    (evicted_done b c.args.source c.args.pass.now told.new.pass c.requires.quiet c.requires.clearing c.args.rows c.requires.spans told.result told.ensures.evicts c.in-Evicted.is)

pub returns-in-Evicted-clause-clears : goal.returns-in-Evicted-clause-clears
returns-in-Evicted-clause-clears c = λ cutoff.
    let told = c.evict_row-told in
    let from = c.args.source in
    evicted_clears (board_of c.args.index.now) from c.args.pass.now told.new.pass c.requires.quiet c.requires.clearing cutoff c.from.result told.result c.next_row.result.effort
    (ap (λ (t : ClearingTurn). t.effort) c.next_row.ensures ∙ c.evicting-effort.ensures) (c.from.ensures ∙ c.row_evicted_by.ensures.value from.segment from.row) told.ensures.evicts

pub returns-in-NotYours-clause-cleared : goal.returns-in-NotYours-clause-cleared
returns-in-NotYours-clause-cleared c = subst (λ (t : ClearingTurn). IsCleared (board_of c.args.index.now).shape t.source c.evict_row-told.new.pass) (sym c.leave.ensures) tt

pub returns-in-NotYours-clause-clears : goal.returns-in-NotYours-clause-clears
returns-in-NotYours-clause-clears c = λ cutoff.
    let told = c.evict_row-told in
    let from = c.args.source in
    evicted_clears (board_of c.args.index.now) from c.args.pass.now told.new.pass c.requires.quiet c.requires.clearing cutoff c.from.result told.result c.leave.result.effort
    (ap (λ (t : ClearingTurn). t.effort) c.leave.ensures ∙ c.evicting-effort.ensures) (c.from.ensures ∙ c.row_evicted_by.ensures.value from.segment from.row) told.ensures.evicts
