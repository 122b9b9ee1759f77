use Rattle.std.proofs.Common.{◌∙◌, ap, codes}
use Rattle.std.proofs.lemmas.Result.{IfOk-weaker}
use Rattle.std.specs.Fmt.{digits}
use Rattle.segtasks.specs.CommandLine.{part_rule, rule_of_part, buckets_option, overflow_option, passes_option, segments_option, rows_option, first_version_option, for_keys_option}
use Rattle.segtasks.proofs.Building.{with_argument}
use Rattle.segtasks.proofs.command_line.with_shape.Goals as goal

pub returns : goal.returns
unfolding digits
returns c = λ app built.
    let one = with_argument _ _ _ _ (rule_of_part buckets_option) built c.in_ok-arg.ensures c.part-buckets.ensures.local c.part-buckets.ensures.rule in
    let two = with_argument _ _ _ _ (rule_of_part overflow_option) one c.in_ok-arg-2.ensures c.part-overflow.ensures.local c.part-overflow.ensures.rule in
    let three = with_argument _ _ _ _ (rule_of_part passes_option) two c.in_ok-arg-3.ensures c.part-passes.ensures.local c.part-passes.ensures.rule in
    let four = with_argument _ _ _ _ (rule_of_part segments_option) three c.in_ok-arg-4.ensures c.part-segments.ensures.local c.part-segments.ensures.rule in
    let five = with_argument _ _ _ _ (rule_of_part rows_option) four c.in_ok-arg-5.ensures c.part-rows.ensures.local c.part-rows.ensures.rule in
    let six = with_argument _ _ _ _ (rule_of_part first_version_option) five c.in_ok-arg-6.ensures c.part-version.ensures.local c.part-version.ensures.rule in
    let taken = c.part_taking-keys.ensures.rule ∙ ap (λ parser. part_rule (codes "for-keys") parser) c.for_keys_parser.ensures in
    IfOk-weaker c.arg-7.result _ _ (λ r added. with_argument _ _ _ r (rule_of_part for_keys_option) six added c.part_taking-keys.ensures.local taken) c.arg-7.ensures
