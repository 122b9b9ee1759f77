use Rattle.std.proofs.Common.{◌≡◌, ℕ, suc, ◌+◌, ◌-◌, ◌*◌, ◌≤◌, get_or, length, sym, ap, subst, ◌∙◌, arith}
use Rattle.segword.specs.RowLayout.{key_length}
use Rattle.segword.specs.Words.{head_width, row_width, span_of_header}
use Rattle.segcore.specs.Words.{Row, row_after}
use Rattle.segcore.proofs.Spans.{header_some}
use Rattle.segbase.specs.Words.{trace}
use Rattle.segstore.proofs.ItemRows.{head_inside}
use Rattle.segstore.proofs.KeyRows.{key_header, key_taken, read_as}
use Rattle.segstore.proofs.Looks.{reads_then, same_readable, same_reads}
use Rattle.segstore.proofs.row.key_of_row.Goals as goal

pub load_place-header-requires-clause-readable : goal.load_place-header-requires-clause-readable
load_place-header-requires-clause-readable c =
    same_readable c.args.board.now c.args.pass.now c.row_at-at.result c.args.segment c.args.row c.row_at-at.ensures.row c.requires.readable

pub load_place-header-requires-clause-place : goal.load_place-header-requires-clause-place
load_place-header-requires-clause-place c = let at = c.row_at-at.result in
    let some = header_some ((row_after (trace c.args.pass.now) at.segment at.row).words 0) in omega (arith, some)

pub load_places-requires : goal.load_places-requires
load_places-requires c = let load = c.load_place-header in
    let inside = head_inside load.result in let end = c.value_place.ensures.place in let most = c.value_place.ensures.inside in
    let places = subst (λ w. 0 + c.value_place.result ≤ row_width * span_of_header w) load.ensures.word (omega (arith, inside, end)) in (
      omega arith,
      (load.ensures.reads.looked.did.moved.pass, (c.row_at-at.ensures.start, (load.ensures.reads.readable, (omega (arith, end), (omega (arith, end), (places, omega (arith, most))))))),
    )

pub returns-clause-reads : goal.returns-clause-reads
returns-clause-reads c = let at = c.row_at-at.result in let b = c.args.board.now in
    same_reads b c.args.pass.now c.load_places.new.pass at c.args.segment c.args.row c.row_at-at.ensures.row
    (reads_then b _ _ _ at.segment at.row c.load_place-header.ensures.reads c.load_places.ensures.reads)

pub returns-clause-key : goal.returns-clause-key
returns-clause-key c = λ key value is_key is_value holds.
    let at = c.row_at-at.result in let e = c.row_at-at.ensures.row in let q = trace c.load_places.new.pass in
    let first = c.load_place-header in let load = c.load_places.ensures in let words = c.load_places.new.words in
    let row = row_after q c.args.segment c.args.row in
    let here : (n : ℕ) → (row_after q at.segment at.row).words n ≡ row.words n = λ n t. (row_after q (e.0 t) (e.1 t)).words n in
    let begun : first.result ≡ row.words 0 = first.ensures.word ∙ ap (λ (x : Row). x.words 0) (sym load.reads.same) ∙ here 0 in
    let found : get_or words 0 0 ≡ row.words 0 = load.before 0 (omega arith) ∙ begun in
    let long : key_length (get_or words 0 0) ≡ length key = ap key_length found ∙ key_header row key value is_key is_value holds in
    let end = c.value_place.ensures.place in
    let header : key_length first.result ≡ length key = ap key_length begun ∙ key_header row key value is_key is_value holds in
    read_as c.read_key.result (key_length (get_or words 0 0)) key _ _ c.read_key.ensures.variant c.read_key.ensures.value
    (key_taken row key value is_key is_value holds words (8 * (head_width - 1)) (omega (arith, is_key.fits)) found
    (λ k lt. load.loaded (suc k) (omega arith) (omega (arith, lt, end, header)) ∙ here (0 + suc k) ∙ ap row.words (let n : 0 + suc k ≡ suc k = omega arith in n)))
    (omega (arith, long, is_key.not_empty)) (omega (arith, long, is_key.fits))
