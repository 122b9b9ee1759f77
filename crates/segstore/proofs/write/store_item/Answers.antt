use Rattle.std.proofs.Common.{ℕ, ◌+◌, ◌*◌, ◌<◌, ◌≤◌, length, refl, sym, ap, subst, ◌∙◌, ⊎_elim, arith}
use Rattle.std.proofs.lemmas.Bool.{cases_eq}
use Rattle.std.specs.Prelude.{slice_index}
use Rattle.segword.specs.Words.{key_width, place_behind, row_behind, row_of, row_width, span, span_of}
use Rattle.segcore.specs.Words.{AreOwnRows, row_alone}
use Rattle.segcore.proofs.Spans.{own_first, span_some}
use Rattle.segbase.specs.Words.{number, trace}
use Rattle.segbase.proofs.Moves.{stays}
use Rattle.segstore.proofs.ItemRows.{own_place, place_fits, span_fits}
use Rattle.segstore.proofs.Keeping.{own_stored}
use Rattle.segstore.proofs.Rows.{stores_nothing, stores_then}
use Rattle.segstore.proofs.write.store_item.Goals as goal

-- the words before the value's are in the item's rows
head_within : (key value : ℕ) → 1 + key_width key ≤ row_width * span key value
head_within key value = omega arith

pub row_at-at-requires : goal.row_at-at-requires
row_at-at-requires c = let key = c.args.key.now in let value = c.args.value.now in
    let first = own_first c.args.board.now.shape (trace c.args.pass.now) (number c.args.pass.now) c.args.row.segment c.args.row.row (span_of key value)
    (span_some (length key) (length value)) c.requires.own in
    record { row = (first.0, first.1, omega arith) }

-- ---- the words of the key

pub loop-place-init : goal.loop-place-init
loop-place-init c = let at = c.row_at-at.result in record {
  moved = stores_nothing c.args.board.now c.args.pass.now c.args.pass.now at.segment at.row (row_of c.args.key.now c.args.value.now)
      (stays c.args.board.now c.args.pass.now c.requires.pass);
  steps = omega arith;
  holds = λ j lt. absurd (omega (arith, lt));
  plain = refl;
  memo = refl;
}

pub item_word-requires : goal.item_word-requires
item_word-requires c = let rows = c.span-rows.ensures in let key = c.args.key.now in let value = c.args.value.now in
    let fits = span_fits key value rows.key rows.valid in let told = rows.rows in let within = head_within (length key) (length value) in
    let of = c.head-head.ensures.words in
    let inside : c.loop-place.place < row_width * span_of key value = omega (arith, within, of, c.loop-place-test.true) in
    record { place = omega (arith, fits, told, inside) }

pub store_word-requires-clause-own : goal.store_word-requires-clause-own
store_word-requires-clause-own c =
    let b = c.args.board.now in let p = c.args.pass.now in let q = c.loop-place.pass in let is = c.row_at-at.ensures.row in
    let key = c.args.key.now in let value = c.args.value.now in let rows = span_of key value in let told = c.span-rows.ensures.rows in let within = head_within (length key) (length value) in
    let of = c.head-head.ensures.words in
    let inside : c.loop-place.place < row_width * span_of key value = omega (arith, within, of, c.loop-place-test.true) in
    let own : AreOwnRows b.shape (trace p) (number p) c.row_at-at.result.segment c.row_at-at.result.row rows = rw (is.0, is.1) c.requires.own in
    own_place b.shape (trace q) (number q) _ _ rows c.loop-place.place
    (own_stored b p q _ _ rows (row_of key value) (span_some (length key) (length value)) c.loop-place.invariant.moved own) inside

pub store_word-requires-clause-place : goal.store_word-requires-clause-place
store_word-requires-clause-place c = let rows = c.span-rows.ensures in let key = c.args.key.now in let value = c.args.value.now in
    let fits = span_fits key value rows.key rows.valid in
    let told = rows.rows in let within = head_within (length key) (length value) in
    let of = c.head-head.ensures.words in
    let inside : c.loop-place.place < row_width * span_of key value = omega (arith, within, of, c.loop-place-test.true) in
    place_fits c.loop-place.place (omega (arith, fits, told, inside))

pub loop-place-preserved : goal.loop-place-preserved
loop-place-preserved c = let i = c.loop-place.invariant in let w = c.store_word.ensures in let at = c.row_at-at.result in
    let words = row_of c.args.key.now c.args.value.now in let here = c.item_word.ensures.word in record {
      moved = stores_then c.args.board.now c.args.pass.now c.loop-place.pass c.store_word.new.pass at.segment at.row words i.moved (w.moved words (sym here));
      steps = (let before = i.steps in let more = w.steps in omega (arith, before, more));
      holds = λ j lt. ⊎_elim
          (λ same. (λ t. (row_alone (trace c.store_word.new.pass) at.segment (row_behind at.row (same t))).words (place_behind (same t)))
          ∙ (w.word ∙ (here ∙ ap (slice_index words) (sym same))))
          (λ other. w.others j other ∙ i.holds j (omega (arith, lt, other)))
          (cases_eq j c.loop-place.place);
      plain = w.plain ∙ i.plain;
      memo = w.memo ∙ i.memo;
    }

-- ---- and those behind them

pub loop-place-2-init : goal.loop-place-2-init
loop-place-2-init c = let i = c.loop-place.invariant in let end = c.loop-place-test.false in record {
  moved = i.moved;
  steps = (let before = i.steps in omega (arith, before, end));
  holds = λ j lt. i.holds j (omega (arith, lt, end));
  plain = i.plain;
  memo = i.memo;
}

pub item_word-requires-in-loop-place-2 : goal.item_word-requires-in-loop-place-2
item_word-requires-in-loop-place-2 c = let rows = c.span-rows.ensures in let key = c.args.key.now in let value = c.args.value.now in
    let fits = span_fits key value rows.key rows.valid in let told = rows.rows in
    let inside : c.loop-place-2.place < row_width * span_of key value = omega (arith, told, c.loop-place-2-test.true) in
    record { place = omega (arith, fits, told, inside) }

pub store_word-requires-in-loop-place-2-clause-own : goal.store_word-requires-in-loop-place-2-clause-own
store_word-requires-in-loop-place-2-clause-own c =
    let b = c.args.board.now in let p = c.args.pass.now in let q = c.loop-place-2.pass in let is = c.row_at-at.ensures.row in
    let key = c.args.key.now in let value = c.args.value.now in let rows = span_of key value in let told = c.span-rows.ensures.rows in
    let inside : c.loop-place-2.place < row_width * span_of key value = omega (arith, told, c.loop-place-2-test.true) in
    let own : AreOwnRows b.shape (trace p) (number p) c.row_at-at.result.segment c.row_at-at.result.row rows = rw (is.0, is.1) c.requires.own in
    own_place b.shape (trace q) (number q) _ _ rows c.loop-place-2.place
    (own_stored b p q _ _ rows (row_of key value) (span_some (length key) (length value)) c.loop-place-2.invariant.moved own) inside

pub store_word-requires-in-loop-place-2-clause-place : goal.store_word-requires-in-loop-place-2-clause-place
store_word-requires-in-loop-place-2-clause-place c = let rows = c.span-rows.ensures in let key = c.args.key.now in let value = c.args.value.now in
    let fits = span_fits key value rows.key rows.valid in
    let told = rows.rows in
    let inside : c.loop-place-2.place < row_width * span_of key value = omega (arith, told, c.loop-place-2-test.true) in
    place_fits c.loop-place-2.place (omega (arith, fits, told, inside))

pub loop-place-2-preserved : goal.loop-place-2-preserved
loop-place-2-preserved c = let i = c.loop-place-2.invariant in let w = c.store_word-in-loop-place-2.ensures in let at = c.row_at-at.result in
    let words = row_of c.args.key.now c.args.value.now in let here = c.item_word-in-loop-place-2.ensures.word in record {
      moved = stores_then c.args.board.now c.args.pass.now c.loop-place-2.pass c.store_word-in-loop-place-2.new.pass at.segment at.row words i.moved (w.moved words (sym here));
      steps = (let before = i.steps in let more = w.steps in omega (arith, before, more));
      holds = λ j lt. ⊎_elim
          (λ same. (λ t. (row_alone (trace c.store_word-in-loop-place-2.new.pass) at.segment (row_behind at.row (same t))).words (place_behind (same t)))
          ∙ (w.word ∙ (here ∙ ap (slice_index words) (sym same))))
          (λ other. w.others j other ∙ i.holds j (omega (arith, lt, other)))
          (cases_eq j c.loop-place-2.place);
      plain = w.plain ∙ i.plain;
      memo = w.memo ∙ i.memo;
    }

pub returns-clause-moved : goal.returns-clause-moved
returns-clause-moved c = let is = c.row_at-at.ensures.row in
    rw (← is.0, ← is.1) c.loop-place-2.invariant.moved

pub returns-clause-own : goal.returns-clause-own
returns-clause-own c = let is = c.row_at-at.ensures.row in let key = c.args.key.now in let value = c.args.value.now in
    own_stored c.args.board.now c.args.pass.now c.loop-place-2.pass c.args.row.segment c.args.row.row (span_of key value) (row_of key value)
    (span_some (length key) (length value)) (rw (← is.0, ← is.1) c.loop-place-2.invariant.moved) c.requires.own

pub returns-clause-steps : goal.returns-clause-steps
returns-clause-steps c = let rows = c.span-rows.ensures in let key = c.args.key.now in let value = c.args.value.now in
    let fits = span_fits key value rows.key rows.valid in
    let within = head_within (length key) (length value) in let of = c.head-head.ensures.words in
    let told = rows.rows in let most = c.loop-place-2.invariant.steps in omega (arith, fits, told, most, within, of)

pub returns-clause-words : goal.returns-clause-words
returns-clause-words c = let is = c.row_at-at.ensures.row in
    rw (← is.0, ← is.1) (λ place lt. c.loop-place-2.invariant.holds place
    (let all = subst (λ n. place < row_width * n) (sym c.span-rows.ensures.rows) lt in omega (arith, all, c.loop-place-2-test.false)))
