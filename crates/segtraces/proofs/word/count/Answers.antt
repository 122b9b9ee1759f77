use Rattle.std.proofs.Common.{◌≡◌, ◌==◌, ◌+◌, ◌∙◌, ap, sym, rules}
use Rattle.std.specs.List.{count_by}
use Rattle.std.proofs.lemmas.List.Splits.{length-slice_split}
use Rattle.segtraces.proofs.word.count.Goals as goal

pub returns : goal.returns
returns c =
    let counted : c.count.result ≡ count_by (λ byte. byte == c.args.at) c.args.text.now = search rules in
    ap (λ n. n + 1) counted ∙ sym (length-slice_split (λ byte. byte == c.args.at) c.args.text.now)
