use Rattle.clap.specs.Words.{found_of}
use Rattle.segtasks.specs.CommandLine.{explain_flag}
use Rattle.segtasks.proofs.Options.{flag_read}
use Rattle.segtasks.proofs.arguments.explain_of.Goals as goal

pub returns : goal.returns
returns c = flag_read explain_flag (found_of c.args.matches.now) c.get_one.ensures.none c.get_one.ensures.value c.unwrap_or.ensures
