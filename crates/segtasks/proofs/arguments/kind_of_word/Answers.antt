use Rattle.std.proofs.Common.{◌∙◌, ap}
use Rattle.clap.specs.Words.{found_of}
use Rattle.clap.proofs.WalkLemmas.{first_value-rows}
use Rattle.segtasks.specs.CommandLine.{kind_choice}
use Rattle.segtasks.specs.Asked.{kind_named}
use Rattle.segtasks.proofs.arguments.kind_of_word.Goals as goal

pub returns : goal.returns
returns c = c.kind_named.ensures ∙ ap kind_named (c.get_str.ensures ∙ first_value-rows (found_of c.args.matches.now) kind_choice)
