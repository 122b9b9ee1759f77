use Rattle.std.proofs.Common.{◌∙◌, ℕ, List, sym, map, string_bytes, subst}
use Rattle.segtasks.specs.Asked.{IsReadByClap}
use Rattle.segtasks.proofs.WordsRead.{some_words, of_words}
use Rattle.segtasks.proofs.arguments.read_command.Goals as goal

pub returns : goal.returns
returns c =
    let words : List (List ℕ) = map (λ w. string_bytes w) c.args.words.now in
    of_words words c.read_words.result (some_words _ c.args.words.now (sym c.is_empty.ensures ∙ c.if-is_empty.false))
    (subst (λ l. IsReadByClap l c.read_words.result) c.plain_words.ensures c.read_words.ensures)
