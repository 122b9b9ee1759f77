use Rattle.std.proofs.Common.{option_map}
use Rattle.segcore.specs.Words.{row_after}
use Rattle.segbase.specs.Words.{trace}
use Rattle.segread.proofs.Holding.{held_at}
use Rattle.segread.proofs.RowValues.{value_in}
use Rattle.segread.proofs.held.hold_item.Given as goal

abbrev pub ghost-set_hold : goal.ghost-set_hold
ghost-set_hold a = option_map (λ item.
    let row = item.1.now in let value = value_in (row_after (trace a.pass.now) row.segment row.row) in
    held_at a.board.now.shape (trace a.pass.now) item.0.now value row.segment) a.item
