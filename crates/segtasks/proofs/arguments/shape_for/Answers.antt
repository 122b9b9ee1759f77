use Rattle.std.proofs.Common.{subst}
use Rattle.segword.specs.Words.{Shape}
use Rattle.clap.specs.Words.{found_of, rows_of}
use Rattle.segtasks.specs.CommandLine.{buckets_option, overflow_option, segments_option, rows_option, first_version_option, for_keys_option}
use Rattle.segtasks.specs.Asked.{IsBase, number_found}
use Rattle.segtasks.proofs.Options.{option_over}
use Rattle.segtasks.proofs.arguments.shape_for.Goals as goal

pub returns : goal.returns
returns c =
    let found = found_of c.args.matches.now in
    let base : Shape = c.base_of-base.result in
    let buckets = option_over base.buckets buckets_option found c.get_one.ensures.none c.get_one.ensures.value c.unwrap_or-2.ensures in
    let overflow = option_over base.overflow overflow_option found c.get_one-2.ensures.none c.get_one-2.ensures.value c.unwrap_or-3.ensures in
    let segments = option_over base.segments_each segments_option found c.get_one-3.ensures.none c.get_one-3.ensures.value c.unwrap_or-5.ensures in
    let rows = option_over base.rows rows_option found c.get_one-4.ensures.none c.get_one-4.ensures.value c.unwrap_or-6.ensures in
    let version = option_over base.first_version first_version_option found c.get_one-5.ensures.none c.get_one-5.ensures.value c.unwrap_or-7.ensures in (
      base,
      subst (λ passes. IsBase (number_found for_keys_option (rows_of found)) passes base) c.unwrap_or.ensures c.base_of-base.ensures,
      λ i. record {
        buckets = buckets i;
        overflow = overflow i;
        passes = c.unwrap_or-4.ensures i;
        segments_each = segments i;
        rows = rows i;
        first_version = version i;
      },
    )
