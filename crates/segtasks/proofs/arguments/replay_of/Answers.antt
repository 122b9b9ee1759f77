use Rattle.std.proofs.Common.{◌∙◌, subst, sym}
use Rattle.std.specs.Option.{option_or}
use Rattle.clap.specs.Words.{found_of, rows_of}
use Rattle.segtasks.specs.Asked.{IsShapeFor}
use Rattle.segtasks.specs.CommandLine.{passes_option, progress_flag, sizes_flag, threads_option, value_bytes_option, warm_option}
use Rattle.segtasks.proofs.Options.{flag_read, option_found, option_read}
use Rattle.segtasks.proofs.arguments.replay_of.Goals as goal

pub returns-clause-some : goal.returns-clause-some
returns-clause-some c =
    let found = found_of c.args.matches.now in
    let threads = option_found threads_option found c.get_one-threads.ensures.none c.get_one-threads.ensures.value in
    let passes = option_found passes_option found c.get_one.ensures.none c.get_one.ensures.value in
    let either = c.or.ensures ∙ λ i. option_or (threads i) (passes i) in
    record {
      shape = subst (λ p. IsShapeFor p (rows_of found) c.shape_for.result) either c.shape_for.ensures;
      file = c.file_of.ensures;
      form = c.form_of.ensures;
      value_bytes = option_read value_bytes_option found c.get_one-2.ensures.none c.get_one-2.ensures.value c.unwrap_or.ensures;
      warm = option_read warm_option found c.get_one-3.ensures.none c.get_one-3.ensures.value c.unwrap_or-2.ensures;
      policies = sym c.policies_of.ensures ∙ c.in_ok-policies.was;
      sizes = flag_read sizes_flag found c.get_one-4.ensures.none c.get_one-4.ensures.value c.unwrap_or-3.ensures;
      format = sym c.format_of.ensures ∙ c.in_ok-format.was;
      progress = flag_read progress_flag found c.get_one-5.ensures.none c.get_one-5.ensures.value c.unwrap_or-4.ensures;
      explain = c.explain_of.ensures;
    }
