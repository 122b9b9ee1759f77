use Rattle.std.proofs.Common.{◌≡◌, ◌*◌, ◌<◌, ℕ, List, [], refl, ap, ◌∙◌, arith}
use Rattle.std.specs.Prelude.{slice_index}
use Rattle.segword.specs.Words.{place_behind, row_behind, row_of, row_width, span_of_header}
use Rattle.segcore.specs.Words.{Row, row_after, row_alone, span_in}
use Rattle.segcore.proofs.Spans.{header_some, header_span}
use Rattle.segbase.specs.Words.{AddsAtOnce, Board, number, Pass, trace}
use Rattle.segstore.specs.Rows.{StoresRow}
use Rattle.segstore.proofs.ItemRows.{own_fewer, span_fits, words_hold}
use Rattle.segstore.proofs.Keeping.{own_stored}
use Rattle.segstore.proofs.Rows.{own_rows_looked, stores_nothing, stores_then}
use Rattle.segstore.proofs.write.copy_row.Goals as goal

pub store_words-requires-clause-own : goal.store_words-requires-clause-own
store_words-requires-clause-own c =
    let b = c.args.board.now in let p = c.args.pass.now in let q = c.load_item-words.new.pass in let to = c.args.to in let load = c.load_item-words.ensures in
    let all = span_in (trace p) c.args.from.segment c.args.from.row in
    let few = c.min-rows.ensures in let told = c.span_of_header.ensures.rows in let some = c.span_of_header.ensures.some in
    let same : span_of_header (slice_index c.load_item-words.result 0) ≡ all = ap span_of_header (load.words 0 (omega arith) ∙ ap (λ (x : Row). x.words 0) load.reads.same) in
    own_fewer b.shape (trace q) (number q) to.segment to.row c.min-rows.result all (omega (arith, few, some)) (omega (arith, few, told, same))
    (own_rows_looked b p q to.segment to.row all load.reads.looked.did c.requires.own)

-- what was stored, from before the loads on
stored : (b : Board) (p q t : Pass) (s r : ℕ) (words : List ℕ) → AddsAtOnce b [] p q → StoresRow b s r words q t → StoresRow b s r words p t
stored b p q t s r words looked stores = stores_then b p q t s r words (stores_nothing b p q s r words looked.moved) stores

pub returns-clause-moved : goal.returns-clause-moved
returns-clause-moved c = (
  c.load_item-words.result,
  stored c.args.board.now c.args.pass.now c.load_item-words.new.pass c.store_words.new.pass c.args.to.segment c.args.to.row _
      c.load_item-words.ensures.reads.looked.did c.store_words.ensures.moved,
)

pub returns-clause-steps : goal.returns-clause-steps
returns-clause-steps c = let loads = c.load_item-words.ensures.steps in let stores = c.store_words.ensures.steps in let few = c.min-rows.ensures in
    omega (arith, loads, stores, few)

pub returns-clause-own : goal.returns-clause-own
returns-clause-own c = let p = c.args.pass.now in let from = c.args.from in
    own_stored c.args.board.now p c.store_words.new.pass c.args.to.segment c.args.to.row (span_in (trace p) from.segment from.row) _
    (header_some ((row_after (trace p) from.segment from.row).words 0))
    (stored c.args.board.now p c.load_item-words.new.pass c.store_words.new.pass c.args.to.segment c.args.to.row _
    c.load_item-words.ensures.reads.looked.did c.store_words.ensures.moved)
    c.requires.own

pub returns-clause-holds : goal.returns-clause-holds
returns-clause-holds c =
    let h = trace c.args.pass.now in let g = trace c.store_words.new.pass in let from = c.args.from in let to = c.args.to in
    let old = row_after h from.segment from.row in let new = row_after g to.segment to.row in
    let load = c.load_item-words.ensures in let few = c.min-rows.ensures in let told = c.span_of_header.ensures.rows in
    let same : span_of_header (slice_index c.load_item-words.result 0) ≡ span_of_header (old.words 0) =
    ap span_of_header (load.words 0 (omega arith) ∙ ap (λ (x : Row). x.words 0) load.reads.same) in
    let each : (place : ℕ) → place < row_width * c.min-rows.result
    → (row_alone g to.segment (row_behind to.row place)).words (place_behind place) ≡ old.words place =
    λ place lt. c.store_words.ensures.words place lt ∙ load.words place (omega (arith, lt, few)) ∙ ap (λ (x : Row). x.words place) load.reads.same in
    λ key value is_key is_value holds.
    let spans = header_span old key value is_key is_value holds in let fits = span_fits key value is_key is_value in
    words_hold g to.segment to.row key value (row_of key value) is_key is_value refl
    (λ place lt. each place (omega (arith, lt, few, told, same, spans, fits)) ∙ holds place lt)
