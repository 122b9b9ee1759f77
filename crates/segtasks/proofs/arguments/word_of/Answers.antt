use Rattle.std.proofs.Common.{◌∙◌, sym}
use Rattle.clap.specs.Words.{found_of}
use Rattle.segtasks.specs.CommandLine.{hex}
use Rattle.segtasks.proofs.Options.{text_read}
use Rattle.segtasks.proofs.arguments.word_of.Goals as goal

pub returns-clause-some : goal.returns-clause-some
returns-clause-some c = record {
  text = text_read hex (found_of c.args.matches.now) c.get_str.result _ c.get_str.ensures c.unwrap_or.ensures;
  kind = sym c.kind_of_word.ensures ∙ c.in_ok-kind.was;
  explain = c.explain_of.ensures;
}
