use Rattle.std.proofs.Common.{◌≡◌, ℕ, List, ◌+◌, ◌*◌, ◌/◌, ◌%◌, ◌^◌, ◌<◌, ◌∙◌, refl, ap, sym, subst, arith, below_more, length, get_or}
use Rattle.std.proofs.lemmas.List.{get_or-replicate}
use Rattle.segword.specs.Words.{place_behind, row_behind, row_width, span_of_header}
use Rattle.segcore.specs.Words.{Row, row_after}
use Rattle.segbase.specs.Words.{trace}
use Rattle.segstore.proofs.Copying.{no_byte}
use Rattle.segstore.proofs.ItemRows.{in_row}
use Rattle.segstore.proofs.Looks.{found_place, loaded_in, may_load_place, none_place, one_step, reads_nothing, reads_then}
use Rattle.segstore.proofs.copy.load_part.Goals as goal

-- behind the segment's rows
pub returns-then-rows_behind-from-clause-reads : goal.returns-then-rows_behind-from-clause-reads
returns-then-rows_behind-from-clause-reads c =
    reads_nothing c.args.board.now c.args.pass.now c.args.at.segment c.args.at.row c.requires.pass c.requires.readable

pub returns-then-rows_behind-from-clause-found : goal.returns-then-rows_behind-from-clause-found
returns-then-rows_behind-from-clause-found c = λ k i few lt.
    let at = c.args.at in let h = trace c.args.pass.now in let place = row_width * c.args.from.behind + c.args.from.word + k in
    let past = c.if-rows_behind-from.true in let left = c.rows_behind.ensures in let row = c.requires.row in let places = c.requires.places in
    let inside : place < row_width * span_of_header ((row_after h at.segment at.row).words 0) = omega (arith, places, lt) in
    let is = in_row at.row c.args.from.behind c.args.from.word k ((row_after h at.segment at.row).words 0) (omega (arith, row, lt)) inside in
    let here = is.0 in
    ap (λ (l : List ℕ). get_or l (8 * k + i) 0) (c.fill.ensures.after (λ y same. same))
    ∙ get_or-replicate (length c.args.bytes.now) (8 * k + i) 0 0 lt
    ∙ sym (ap (λ (word : ℕ). word / 2 ^ (8 * i) % 256) (none_place c.args.board.now c.args.pass.now at.segment at.row place c.requires.pass inside (omega (arith, past, left, here))) ∙ no_byte i few)

-- and before their end
pub row_behind-row-requires-clause-row : goal.row_behind-row-requires-clause-row
row_behind-row-requires-clause-row c = let may = c.requires.readable in let few = c.if-rows_behind-from.false in let left = c.rows_behind.ensures in
    (may.0, omega (arith, few, left), omega arith)

pub loop-place-init : goal.loop-place-init
loop-place-init c = record {
  long = refl;
  reads = reads_nothing c.args.board.now c.args.pass.now c.args.at.segment c.args.at.row c.requires.pass c.requires.readable;
  steps = omega arith;
  found = λ k lt. absurd (omega (arith, lt));
}

pub row_load_at-found-requires-clause-may : goal.row_load_at-found-requires-clause-may
row_load_at-found-requires-clause-may c =
    let at = c.args.at in let is = c.row_behind-row.ensures.row in let i = c.loop-place.invariant in let k = c.loop-place.place in
    let place = row_width * c.args.from.behind + c.args.from.word + k in let header = (row_after (trace c.loop-place.pass) at.segment at.row).words 0 in
    let few = c.if-rows_behind-from.false in let left = c.rows_behind.ensures in
    let row = c.requires.row in let places = c.requires.places in let below = c.loop-place-test.true in let long = i.long in
    let inside = subst (λ (u : Row). place < row_width * span_of_header (u.words 0)) (sym i.reads.same) (omega (arith, places, below, long)) in
    let e = in_row at.row c.args.from.behind c.args.from.word k header (omega (arith, row, below, long)) inside in
    let here : row_behind at.row place ≡ c.row_behind-row.result.row = e.0 ∙ sym is.1 in
    rw (is.0, ← here, ← e.1) (may_load_place c.args.board.now c.loop-place.pass at.segment at.row place i.reads.readable inside
    (subst (λ (n : ℕ). n < c.args.board.now.shape.rows) (sym e.0) (omega (arith, few, left))))

pub loop-place-preserved : goal.loop-place-preserved
loop-place-preserved c =
    let b = c.args.board.now in let at = c.args.at in let is = c.row_behind-row.ensures.row in let i = c.loop-place.invariant in let k = c.loop-place.place in
    let load = c.row_load_at-found in let put = c.put_word.ensures in let q = load.new.pass in
    let from = row_width * c.args.from.behind + c.args.from.word in let header = (row_after (trace c.loop-place.pass) at.segment at.row).words 0 in
    let row = c.requires.row in let places = c.requires.places in let below = c.loop-place-test.true in let long = i.long in
    let inside = subst (λ (u : Row). from + k < row_width * span_of_header (u.words 0)) (sym i.reads.same) (omega (arith, places, below, long)) in
    let e = in_row at.row c.args.from.behind c.args.from.word k header (omega (arith, row, below, long)) inside in
    let here : c.row_behind-row.result.row ≡ row_behind at.row (from + k) = is.1 ∙ sym e.0 in
    let word : c.args.from.word + k ≡ place_behind (from + k) = sym e.1 in
    let reads = loaded_in b c.loop-place.pass q at.segment at.row c.row_behind-row.result.row (c.args.from.word + k) load.result i.reads.readable (rw (← is.0) load.ensures.step) in
    let found = found_place b c.loop-place.pass q at.segment at.row (from + k) load.result reads inside
    (load.ensures.word ∙ (λ t. (row_after (trace q) (is.0 t) (here t)).words (word t))) in
    record {
      long = put.len ∙ i.long;
      reads = reads_then b _ _ _ at.segment at.row i.reads reads;
      steps = (let before = i.steps in let one = one_step b c.loop-place.pass q _ _ load.ensures.step in omega (arith, before, one));
      found = below_more _ _
          (λ m lt n few less. put.before (8 * m + n) (omega (arith, lt, few))
          ∙ (i.found m lt n few (let same = put.len in omega (arith, same, less))
          ∙ ap (λ (u : Row). u.words (from + m) / 2 ^ (8 * n) % 256) (sym reads.same)))
          (λ n few less. put.here n few (let same = put.len in omega (arith, same, less))
          ∙ ap (λ (w : ℕ). w / 2 ^ (8 * n) % 256) found);
    }

pub returns-clause-found : goal.returns-clause-found
returns-clause-found c = λ k i few lt. let long = c.loop-place.invariant.long in let end = c.loop-place-test.false in
    c.loop-place.invariant.found k (omega (arith, few, lt, end, long)) i few (omega (arith, lt, long))
