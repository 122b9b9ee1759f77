use Rattle.std.proofs.Common.{◌≡◌, ◌+◌, ◌-◌, ◌*◌, ℕ, suc, List, length, sym, ap, ◌∙◌, arith}
use Rattle.std.specs.Prelude.{slice_index}
use Rattle.segword.specs.declared.key.TheConstants.{KEY_WORDS}
use Rattle.segword.specs.KeyWords.{key_words}
use Rattle.segword.specs.Row.{key_width, row_of, word_at}
use Rattle.segword.proofs.RowLemmas.{get_or-words_from, key_width-most}
use Rattle.segword.proofs.ValueLemmas.{item_key_word, item_value_word}
use Rattle.segword.proofs.key_words.KeyWords.item_word.Goals as goal

pub returns-then-head-place : goal.returns-then-head-place
returns-then-head-place c =
    let key = c.args.self.now in
    let value = c.args.value.now in
    let place = c.args.place in
    let behind = place - c.head-head.result in
    let head = c.head-head.ensures.words in
    let test = c.if-head-place.true in
    let same : 1 + key_width (length key) + behind ≡ place = omega (arith, head, test) in
    let inside = c.requires.place in
    record {
      word = c.word.ensures ∙ sym (item_value_word key value behind (omega (arith, same, inside)))
          ∙ ap (slice_index (row_of key value)) same;
    }

pub returns : goal.returns
returns c =
    let key = c.args.self.now in
    let value = c.args.value.now in
    let place = c.args.place in
    let before = place - 1 in
    let head = c.head-head.ensures.words in
    let test = c.if-head-place.false in
    let some = c.if-place-eq0.false in
    let most = key_width-most (length key) in
    let at : place ≡ suc before = omega (arith, some) in
    let own : c.word-2.result ≡ word_at key (8 * before) = c.word-2.ensures ∙ ap (λ (bytes : List ℕ). word_at bytes (8 * before)) c.self.view_is in
    let part : slice_index (key_words key) (suc before) ≡ word_at key (8 * before) =
    get_or-words_from KEY_WORDS key 0 before (omega (arith, most, head, test, some)) ∙ ap (word_at key) (omega arith) in
    record {
      word = own ∙ sym part
          ∙ sym (item_key_word key value before (omega (arith, head, test, at))) ∙ ap (slice_index (row_of key value)) (sym at);
    }
