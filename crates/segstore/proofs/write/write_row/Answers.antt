use Rattle.std.proofs.Common.{◌≡◌, ◌↔◌, List, ℕ, IsErr, false, true, rules, subst}
use Rattle.segword.specs.Words.{span_of}
use Rattle.segcore.specs.Words.{AreOwnRows, Holds, row_after}
use Rattle.segbase.specs.Words.{number, trace}
use Rattle.segstore.specs.Rows.{FillsRow}
use Rattle.segstore.specs.Segments.{has_room_for}
use Rattle.segstore.proofs.Keeping.{next_are_own}
use Rattle.segstore.proofs.write.write_row.Goals as goal

pub fill_row-requires-clause-own : goal.fill_row-requires-clause-own
fill_row-requires-clause-own c = let next = c.in_ok-row.ensures.next in
    next_are_own c.args.board.now c.args.pass.now c.in_ok-row.row.segment c.in_ok-row.row.row (span_of c.new-words.result c.of-bytes.result)
    c.requires.pass c.requires.segments next.1 next.2

pub returns-clause-moved : goal.returns-clause-moved
returns-clause-moved c =
    subst (λ (pair : List ℕ × List ℕ). FillsRow c.args.board.now c.in_ok-row.row.segment c.in_ok-row.row.row pair.0 pair.1 c.args.pass.now c.fill_row.new.pass)
    (λ i. (c.new-words.ensures.value i, c.of-bytes.ensures.value i)) c.fill_row.ensures.moved

pub returns-clause-own : goal.returns-clause-own
returns-clause-own c = let q = c.fill_row.new.pass in
    subst (λ (pair : List ℕ × List ℕ). AreOwnRows c.args.board.now.shape (trace q) (number q) c.in_ok-row.row.segment c.in_ok-row.row.row (span_of pair.0 pair.1))
    (λ i. (c.new-words.ensures.value i, c.of-bytes.ensures.value i)) c.fill_row.ensures.own

pub returns-clause-holds : goal.returns-clause-holds
returns-clause-holds c =
    subst (λ (pair : List ℕ × List ℕ). Holds (row_after (trace c.fill_row.new.pass) c.in_ok-row.row.segment c.in_ok-row.row.row) pair.0 pair.1)
    (λ i. (c.new-words.ensures.value i, c.of-bytes.ensures.value i)) c.fill_row.ensures.holds

pub returns-in_err-row-clause-no_room : goal.returns-in_err-row-clause-no_room
returns-in_err-row-clause-no_room c =
    let same : span_of c.new-words.result c.of-bytes.result ≡ span_of c.args.key.now c.args.value.now =
    λ i. span_of (c.new-words.ensures.value i) (c.of-bytes.ensures.value i) in
    subst (λ rows. IsErr c.from_residual.result ↔ (has_room_for c.args.board.now.shape rows c.args.pass.now ≡ false)) same
    (search (rules, c.in_err-row.ensures.no_room, c.from_residual.ensures))

pub returns-clause-no_room : goal.returns-clause-no_room
returns-clause-no_room c =
    let same : span_of c.new-words.result c.of-bytes.result ≡ span_of c.args.key.now c.args.value.now =
    λ i. span_of (c.new-words.ensures.value i) (c.of-bytes.ensures.value i) in
    subst (λ rows. (false ≡ true) ↔ (has_room_for c.args.board.now.shape rows c.args.pass.now ≡ false)) same c.in_ok-row.ensures.no_room
