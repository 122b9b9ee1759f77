use Rattle.std.proofs.Common.{refl}
use Rattle.clap.specs.Words.{found_of}
use Rattle.segtasks.specs.CommandLine.{csv_flag}
use Rattle.segtasks.proofs.Options.{flag_read}
use Rattle.segtasks.proofs.arguments.form_of.Goals as goal

pub returns-then-unwrap_or : goal.returns-then-unwrap_or
returns-then-unwrap_or c =
    rw (← flag_read csv_flag (found_of c.args.matches.now) c.get_one.ensures.none c.get_one.ensures.value c.unwrap_or.ensures, c.if-unwrap_or.true) refl

pub returns-else-unwrap_or : goal.returns-else-unwrap_or
returns-else-unwrap_or c =
    rw (← flag_read csv_flag (found_of c.args.matches.now) c.get_one.ensures.none c.get_one.ensures.value c.unwrap_or.ensures, c.if-unwrap_or.false) refl
