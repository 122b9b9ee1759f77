use Rattle.std.proofs.Common.{◌≡◌, ℕ, List, drop, Some, refl, slice_index, sym, take, ap, ◌∙◌, arith}
use Rattle.std.proofs.lemmas.List.{get_or-take}
use Rattle.segword.specs.declared.key.TheConstants.{KEY_ROOM}
use Rattle.segword.specs.declared.row.TheConstants.{HEAD_WORDS}
use Rattle.segword.specs.declared.value.TheConstants.{VALUE_BYTES, VALUE_WORDS}
use Rattle.segword.specs.RowLayout.{key_length, value_length}
use Rattle.segword.specs.Spans.{value_place}
use Rattle.std.proofs.lemmas.Grind.{common_steps}
use Rattle.segword.specs.Row.{bytes_of, row_of}
use Rattle.segword.proofs.RowLemmas.{IsRow-row_of, key_of_row, row_of-IsRow}
use Rattle.segword.proofs.row.read_row.Goals as goal

pub returns-then-not-is_row-clause-packed : goal.returns-then-not-is_row-clause-packed
returns-then-not-is_row-clause-packed c = λ key value k v e.
    let row = c.is_row.ensures.1 (row_of-IsRow key value c.args.words.now k v e) in
    absurd (grind (arith, common_steps))

pub returns-then-not-is_row-clause-none : goal.returns-then-not-is_row-clause-none
returns-then-not-is_row-clause-none c = (
  λ _ key value k v e.
      let row = c.is_row.ensures.1 (row_of-IsRow key value c.args.words.now k v e) in
      absurd (grind (arith, common_steps)),
  λ _. refl,
)

pub returns-clause-packed : goal.returns-clause-packed
returns-clause-packed c = λ key value k v e.
    let same_key = c.in_ok-key.ensures.value ∙ key_of_row key value c.head_of.result k v (ap (take HEAD_WORDS) e ∙ sym c.head_of.ensures) in
    let value_words : List ℕ → List ℕ = λ ws. take VALUE_WORDS (drop (value_place (slice_index ws 0)) ws) in
    let header = ap (λ (ws : List ℕ). slice_index ws 0) e in
    let same_value = c.read_value.ensures.packed key value k v header
    (ap (λ (n : ℕ). take VALUE_WORDS (drop (value_place n) (row_of key value))) (sym header)
    ∙ ap value_words e ∙ sym c.value_of.ensures) in
    λ i. Some (same_key i, same_value i)

pub returns-clause-some : goal.returns-clause-some
returns-clause-some c =
    let words = c.args.words.now in
    let row = c.is_row.ensures.0 (grind (arith, common_steps)) in
    let same = IsRow-row_of words c.told-words c.fits-words row in
    let header : slice_index c.head_of.result 0 ≡ slice_index words 0 = ap (λ (ws : List ℕ). slice_index ws 0) c.head_of.ensures ∙ get_or-take HEAD_WORDS words 0 0 (omega arith) in
    let key = c.in_ok-key.ensures.value
    ∙ ap (λ (n : ℕ). take (key_length n) (bytes_of (drop 1 c.head_of.result) KEY_ROOM)) header
    ∙ ap (λ (ws : List ℕ). take (key_length (slice_index words 0)) (bytes_of (drop 1 ws) KEY_ROOM)) c.head_of.ensures in
    let value = c.read_value.ensures.value
    ∙ ap (λ (ws : List ℕ). take (value_length (slice_index words 0)) (bytes_of ws VALUE_BYTES)) c.value_of.ensures in
    ap (λ key. row_of key c.read_value.result) key ∙ ap (row_of _) value ∙ same

pub returns-clause-none : goal.returns-clause-none
returns-clause-none c =
    (λ e. absurd (cc), λ none. absurd (none c.in_ok-key.key c.read_value.result c.in_ok-key.ensures.valid c.read_value.ensures.valid (returns-clause-some c)))
