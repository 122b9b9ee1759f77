use Rattle.std.proofs.Common.{◌∙◌, ap}
use Rattle.clap.specs.Words.{found_of}
use Rattle.clap.proofs.WalkLemmas.{first_value-rows}
use Rattle.segtasks.specs.CommandLine.{format_choice}
use Rattle.segtasks.specs.Asked.{format_named}
use Rattle.segtasks.proofs.arguments.format_of.Goals as goal

pub returns : goal.returns
returns c = c.format_named.ensures ∙ ap format_named (c.get_str.ensures ∙ first_value-rows (found_of c.args.matches.now) format_choice)
