use Rattle.std.proofs.Common.{◌∙◌, sym}
use Rattle.clap.specs.Words.{found_of}
use Rattle.segtasks.specs.CommandLine.{seed_option, commands_option, progress_flag, stats_flag}
use Rattle.segtasks.proofs.Options.{option_read, flag_read}
use Rattle.segtasks.proofs.arguments.load_of.Goals as goal

pub returns-clause-some : goal.returns-clause-some
returns-clause-some c =
    let found = found_of c.args.matches.now in
    record {
      shape = c.shape_of.ensures;
      seed = option_read seed_option found c.get_one.ensures.none c.get_one.ensures.value c.unwrap_or.ensures;
      commands = option_read commands_option found c.get_one-2.ensures.none c.get_one-2.ensures.value c.unwrap_or-2.ensures;
      keys = c.keys_of.ensures;
      format = sym c.format_of.ensures ∙ c.in_ok-format.was;
      stats = flag_read stats_flag found c.get_one-3.ensures.none c.get_one-3.ensures.value c.unwrap_or-3.ensures;
      progress = flag_read progress_flag found c.get_one-4.ensures.none c.get_one-4.ensures.value c.unwrap_or-4.ensures;
      explain = c.explain_of.ensures;
    }
