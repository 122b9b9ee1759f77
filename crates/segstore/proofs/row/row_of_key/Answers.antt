use Rattle.std.proofs.Common.{◌≡◌, ℕ, suc, ◌-◌, ◌*◌, ◌<◌, List, length, eqb, refl, sym, ap, subst, ◌∙◌, ⊎_elim, arith}
use Rattle.std.proofs.lemmas.Bool.{cases_eq, cond-false, false≢true, ne_eqb}
use Rattle.std.specs.Prelude.{slice_index}
use Rattle.segword.specs.KeyWords.{key_words}
use Rattle.segword.specs.RowLayout.{key_length}
use Rattle.segword.specs.Words.{row_width, span_of_header}
use Rattle.segcore.specs.Words.{Row, row_after}
use Rattle.segcore.proofs.Spans.{header_some}
use Rattle.segbase.specs.Words.{trace}
use Rattle.segstore.proofs.ItemRows.{head_inside}
use Rattle.segstore.proofs.KeyRows.{key_at, key_by_words, key_header}
use Rattle.segstore.proofs.Looks.{reads_then, same_readable, same_reads}
use Rattle.segstore.proofs.row.row_of_key.Goals as goal

pub load_place-header-requires-clause-readable : goal.load_place-header-requires-clause-readable
load_place-header-requires-clause-readable c =
    same_readable c.args.board.now c.args.pass.now c.row_at-at.result c.args.segment c.args.row c.row_at-at.ensures.row c.requires.readable

pub load_place-header-requires-clause-place : goal.load_place-header-requires-clause-place
load_place-header-requires-clause-place c = let at = c.row_at-at.result in
    let some = header_some ((row_after (trace c.args.pass.now) at.segment at.row).words 0) in omega (arith, some)

-- a key of another length
pub returns-then-not-has_word-clause-reads : goal.returns-then-not-has_word-clause-reads
returns-then-not-has_word-clause-reads c = let at = c.row_at-at.result in
    same_reads c.args.board.now c.args.pass.now c.load_place-header.new.pass at c.args.segment c.args.row c.row_at-at.ensures.row c.load_place-header.ensures.reads

pub returns-then-not-has_word-clause-key : goal.returns-then-not-has_word-clause-key
returns-then-not-has_word-clause-key c = λ held value is_key is_value holds.
    let e = c.row_at-at.ensures.row in let q = trace c.load_place-header.new.pass in
    let row = row_after q c.args.segment c.args.row in
    let begins : c.load_place-header.result ≡ row.words 0 = c.load_place-header.ensures.word ∙ (λ t. (row_after q (e.0 t) (e.1 t)).words 0) in (
      (λ some. absurd (false≢true some)),
      (λ same. c.if-not-has_word.ensures.1 (ap length (sym same) ∙ sym (key_header row held value is_key is_value holds) ∙ ap key_length (sym begins))),
    )

pub loop-place-init : goal.loop-place-init
loop-place-init c = record {
  reads = c.load_place-header.ensures.reads;
  steps = c.load_place-header.ensures.steps;
  same = λ k lt. absurd (omega (arith, lt));
}

pub load_place-word-requires-clause-place : goal.load_place-word-requires-clause-place
load_place-word-requires-clause-place c =
    let i = c.loop-place.invariant in let load = c.load_place-header in let at = c.row_at-at.result in
    let long = c.if-not-has_word.ensures.0 refl in let head = c.head-place-end.ensures.words in let inside = head_inside load.result in
    subst (λ w. c.loop-place.place < row_width * span_of_header w) (load.ensures.word ∙ ap (λ (x : Row). x.words 0) (load.ensures.reads.same ∙ sym i.reads.same))
    (omega (arith, long, head, inside))

pub loop-place-preserved : goal.loop-place-preserved
loop-place-preserved c = let i = c.loop-place.invariant in let load = c.load_place-word.ensures in let at = c.row_at-at.result in let place = c.loop-place.place in
    let some = c.loop-place.auto.place in
    let found : slice_index (key_words c.args.key.now) place ≡ (row_after (trace c.load_place-word.new.pass) at.segment at.row).words place =
    c.if-not-has_word-2.ensures.0 refl ∙ cond-false (eqb place 0) (key_length c.load_place-word.result) c.load_place-word.result (ne_eqb place 0 (λ e. omega (arith, e, some))) ∙ load.word in
    record {
      reads = reads_then c.args.board.now _ _ _ at.segment at.row i.reads load.reads;
      steps = (let before = i.steps in let one = load.steps in omega (arith, before, one));
      same = λ k lt. ⊎_elim
          (λ here. subst (λ n. slice_index (key_words c.args.key.now) n ≡ (row_after (trace c.load_place-word.new.pass) at.segment at.row).words n) (sym here) found)
          (λ other. i.same k (omega (arith, lt, other)) ∙ ap (λ (x : Row). x.words (suc k)) (sym load.reads.same))
          (cases_eq (suc k) place);
    }

-- another key of that length
pub returns-then-not-has_word-2-clause-reads : goal.returns-then-not-has_word-2-clause-reads
returns-then-not-has_word-2-clause-reads c = let at = c.row_at-at.result in let b = c.args.board.now in
    same_reads b c.args.pass.now c.load_place-word.new.pass at c.args.segment c.args.row c.row_at-at.ensures.row
    (reads_then b _ _ _ at.segment at.row c.loop-place.invariant.reads c.load_place-word.ensures.reads)

pub returns-then-not-has_word-2-clause-key : goal.returns-then-not-has_word-2-clause-key
returns-then-not-has_word-2-clause-key c = λ held value is_key is_value holds.
    let e = c.row_at-at.ensures.row in let q = trace c.load_place-word.new.pass in let load = c.load_place-word in
    let row = row_after q c.args.segment c.args.row in let place = c.loop-place.place in let k = place - 1 in
    let some = c.loop-place.auto.place in let head = c.head-place-end.ensures.words in let below = c.loop-place-test.true in
    let is : suc k ≡ place = omega (arith, some) in (
      (λ none. absurd (false≢true none)),
      (λ same. let long : length held ≡ length c.args.key.now = ap length same in
          c.if-not-has_word-2.ensures.1 (ap (λ (key : List ℕ). slice_index (key_words key) place) (sym same)
          ∙ ap (slice_index (key_words held)) (sym is)
          ∙ key_at row held value is_key is_value holds k (omega (arith, is, head, below, long))
          ∙ ap row.words is ∙ (λ t. (row_after q (sym e.0 t) (sym e.1 t)).words place) ∙ sym load.ensures.word
          ∙ sym (cond-false (eqb place 0) (key_length load.result) load.result (ne_eqb place 0 (λ n. omega (arith, n, some)))))),
    )

-- and the key
pub returns-clause-header : goal.returns-clause-header
returns-clause-header c = let e = c.row_at-at.ensures.row in let q = trace c.loop-place.pass in let load = c.load_place-header.ensures in
    load.word ∙ ap (λ (x : Row). x.words 0) (load.reads.same ∙ sym c.loop-place.invariant.reads.same) ∙ (λ t. (row_after q (e.0 t) (e.1 t)).words 0)

pub returns-clause-key : goal.returns-clause-key
returns-clause-key c = λ held value is_key is_value holds.
    let e = c.row_at-at.ensures.row in let q = trace c.loop-place.pass in let i = c.loop-place.invariant in let load = c.load_place-header.ensures in
    let row = row_after q c.args.segment c.args.row in
    let head = c.head-place-end.ensures.words in let done = c.loop-place-test.false in
    let begins : c.load_place-header.result ≡ row.words 0 =
    load.word ∙ ap (λ (x : Row). x.words 0) (load.reads.same ∙ sym i.reads.same) ∙ (λ t. (row_after q (e.0 t) (e.1 t)).words 0) in
    let long : length c.args.key.now ≡ key_length (row.words 0) = c.if-not-has_word.ensures.0 refl ∙ ap key_length begins in (
      (λ _. key_by_words row held value is_key is_value holds c.args.key.now c.head-place-end.ensures.key long
          (λ k lt. i.same k (omega (arith, lt, head, done)) ∙ (λ t. (row_after q (e.0 t) (e.1 t)).words (suc k)))),
      (λ _. refl),
    )
