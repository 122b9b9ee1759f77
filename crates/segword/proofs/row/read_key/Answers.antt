use Rattle.std.proofs.Common.{Some, ℕ, List, bit_and, take, drop, slice_index, ap, subst, ◌≡◌, ◌∙◌, arith}
use Rattle.std.specs.Prelude.{IfSome, Option}
use Rattle.std.proofs.lemmas.List.{length-drop, take_all}
use Rattle.std.proofs.lemmas.Nat.{and_mask}
use Rattle.segword.specs.declared.key.TheConstants.{KEY_ROOM, KEY_WORDS}
use Rattle.segword.specs.Row.{bytes_of}
use Rattle.segword.specs.RowLayout.{key_length}
use Rattle.segword.proofs.RowLemmas.{key_of_row}
use Rattle.segword.proofs.row.read_key.Goals as goal

pub returns-clause-value : goal.returns-clause-value
returns-clause-value c =
    let words = c.args.words.now in
    let length = bit_and (slice_index words 0) 255 in
    subst (λ (made : Option (List ℕ)). IfSome made (λ key. key ≡ take length c.bytes_of-bytes.result)) c.unwrap.ensures c.new-2.ensures.some
    ∙ ap (take length) c.bytes_of-bytes.ensures
    ∙ ap (λ (n : ℕ). take n (bytes_of (take KEY_WORDS (drop 1 words)) KEY_ROOM)) (and_mask (slice_index words 0) 8)
    ∙ ap (λ (rest : List ℕ). take (key_length (slice_index words 0)) (bytes_of rest KEY_ROOM)) (take_all KEY_WORDS (drop 1 words) (omega (arith, length-drop 1 words, c.told-words)))

pub returns-clause-packed : goal.returns-clause-packed
returns-clause-packed c = λ key value k v e. ap Some (returns-clause-value c ∙ key_of_row key value c.args.words.now k v e)
