use Rattle.std.proofs.Common.{◌∙◌, arith}
use Rattle.segscript.proofs.WordReasons.{parts_of_words}
use Rattle.segscript.proofs.reason.line_parts.Goals as goal

pub returns : goal.returns
returns c =
    let two = c.if-words-lt2.false in
    c.parts_of_line-2.ensures ∙ parts_of_words c.args.words.now _ c.verb_of.result (omega arith) c.verb_of.ensures
