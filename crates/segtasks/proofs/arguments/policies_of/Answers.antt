use Rattle.std.proofs.Common.{◌∙◌, ap}
use Rattle.clap.specs.Words.{found_of}
use Rattle.clap.proofs.WalkLemmas.{first_value-rows}
use Rattle.segtasks.specs.CommandLine.{policy_choice}
use Rattle.segtasks.specs.Asked.{policies_named}
use Rattle.segtasks.proofs.arguments.policies_of.Goals as goal

pub returns : goal.returns
returns c = c.policies_named.ensures ∙ ap policies_named (c.get_str.ensures ∙ first_value-rows (found_of c.args.matches.now) policy_choice)
