use Rattle.std.proofs.Common.{◌≡◌, ◌-◌, ◌*◌, ℕ, List, eqb, slice_index, suc, sym, ap, ◌∙◌, arith}
use Rattle.std.proofs.lemmas.Bool.{cond-false, ne_eqb}
use Rattle.std.proofs.lemmas.Grind.{common_steps}
use Rattle.segword.specs.declared.key.TheConstants.{KEY_WORDS}
use Rattle.segword.specs.KeyWords.{key_words}
use Rattle.segword.specs.Row.{word_at}
use Rattle.segword.specs.RowLayout.{key_length}
use Rattle.segword.proofs.RowLemmas.{get_or-words_from}
use Rattle.segword.proofs.key_words.KeyWords.has_word.Goals as goal

pub returns : goal.returns
returns c =
    let key = c.args.self.now in
    let before = c.args.place - 1 in
    let some = c.if-place-eq0.false in
    let at : c.args.place ≡ suc before = omega (arith, some) in
    let own : c.word.result ≡ word_at key (8 * before) = c.word.ensures ∙ ap (λ (bytes : List ℕ). word_at bytes (8 * before)) c.self.view_is in
    let same : slice_index (key_words key) c.args.place ≡ c.word.result = ap (slice_index (key_words key)) at
    ∙ get_or-words_from KEY_WORDS key 0 before (omega (arith, at, c.requires.place)) ∙ ap (word_at key) (omega arith) ∙ sym own in
    let other = cond-false (eqb c.args.place 0) (key_length c.args.word) c.args.word (ne_eqb c.args.place 0 some) in
    rw (same, other) (grind (arith, common_steps))
