use Rattle.std.proofs.Common.{◌≡◌, ◌%◌, sym, ◌∙◌, arith}
use Rattle.segword.specs.Words.{place_behind, row_behind, row_width}
use Rattle.segcore.specs.Words.{row_after}
use Rattle.segbase.specs.Words.{trace}
use Rattle.segstore.proofs.Looks.{found_place, loaded, loaded_in, may_load, may_load_place, none_place, reads_nothing}
use Rattle.segstore.proofs.spans.load_place.Goals as goal

-- in the first row
pub row_load_at-requires-clause-may : goal.row_load_at-requires-clause-may
row_load_at-requires-clause-may c =
    may_load c.args.board.now c.args.pass.now c.args.at.segment c.args.at.row c.args.place c.requires.readable c.if-place-lt-ROW.true

pub returns-then-place-lt-ROW-clause-reads : goal.returns-then-place-lt-ROW-clause-reads
returns-then-place-lt-ROW-clause-reads c =
    loaded c.args.board.now c.args.pass.now c.row_load_at.new.pass c.args.at.segment c.args.at.row _ _ c.requires.readable c.row_load_at.ensures.step

-- behind the segment's rows
pub returns-then-rows_behind-behind-clause-reads : goal.returns-then-rows_behind-behind-clause-reads
returns-then-rows_behind-behind-clause-reads c =
    reads_nothing c.args.board.now c.args.pass.now c.args.at.segment c.args.at.row c.requires.pass c.requires.readable

pub returns-then-rows_behind-behind-clause-word : goal.returns-then-rows_behind-behind-clause-word
returns-then-rows_behind-behind-clause-word c = let at = c.args.at in let few = c.if-rows_behind-behind.true in let left = c.rows_behind.ensures in
    sym (none_place c.args.board.now c.args.pass.now at.segment at.row c.args.place c.requires.pass c.requires.place (omega (arith, few, left)))

-- and before their end
pub row_behind-requires-clause-row : goal.row_behind-requires-clause-row
row_behind-requires-clause-row c = let may = c.requires.readable in let few = c.if-rows_behind-behind.false in let left = c.rows_behind.ensures in
    (may.0, omega (arith, few, left), omega arith)

pub row_load_at-requires-2-clause-may : goal.row_load_at-requires-2-clause-may
row_load_at-requires-2-clause-may c = let at = c.args.at in let is = c.row_behind.ensures.row in
    let few = c.if-rows_behind-behind.false in let left = c.rows_behind.ensures in
    let row : row_behind at.row c.args.place ≡ c.row_behind.result.row = omega (arith, is) in
    let place : place_behind c.args.place ≡ c.args.place % row_width = omega arith in
    rw (is.0, ← row, ← place) (may_load_place c.args.board.now c.args.pass.now at.segment at.row c.args.place c.requires.readable c.requires.place (omega (arith, is, few, left)))

pub returns-clause-reads : goal.returns-clause-reads
returns-clause-reads c = let at = c.args.at in let is = c.row_behind.ensures.row in
    loaded_in c.args.board.now c.args.pass.now c.row_load_at-2.new.pass at.segment at.row c.row_behind.result.row (c.args.place % row_width) c.row_load_at-2.result c.requires.readable
    (rw (← is.0) c.row_load_at-2.ensures.step)

pub returns-clause-word : goal.returns-clause-word
returns-clause-word c = let at = c.args.at in let is = c.row_behind.ensures.row in let q = c.row_load_at-2.new.pass in
    let row : c.row_behind.result.row ≡ row_behind at.row c.args.place = omega (arith, is) in
    let place : c.args.place % row_width ≡ place_behind c.args.place = omega arith in
    let reads = loaded_in c.args.board.now c.args.pass.now q at.segment at.row c.row_behind.result.row (c.args.place % row_width) c.row_load_at-2.result c.requires.readable
    (rw (← is.0) c.row_load_at-2.ensures.step) in
    found_place c.args.board.now c.args.pass.now q at.segment at.row c.args.place c.row_load_at-2.result reads c.requires.place
    (c.row_load_at-2.ensures.word ∙ (λ t. (row_after (trace q) (is.0 t) (row t)).words (place t)))
