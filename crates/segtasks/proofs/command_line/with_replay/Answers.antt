use Rattle.std.proofs.Common.{◌∙◌, ap, codes}
use Rattle.std.proofs.lemmas.Result.{IfOk-weaker}
use Rattle.std.specs.Fmt.{digits}
use Rattle.segtasks.specs.CommandLine.{choice_rule, flag_rule, option_rule, policy_choice, rule_of_option, rule_of_part, sizes_flag, threads_option, value_bytes_option, warm_option}
use Rattle.segtasks.proofs.Building.{with_argument}
use Rattle.segtasks.proofs.command_line.with_replay.Goals as goal

pub returns : goal.returns
unfolding digits
returns c = λ app built.
    let taken = c.taking-bytes.ensures.rule ∙ ap (λ parser. option_rule (codes "value-bytes") parser (codes "32")) c.value_bytes_parser.ensures in
    let one = with_argument _ _ _ _ (rule_of_option value_bytes_option) built c.in_ok-arg.ensures c.taking-bytes.ensures.local taken in
    let two = with_argument _ _ _ _ (rule_of_part threads_option) one c.in_ok-arg-2.ensures c.part-threads.ensures.local c.part-threads.ensures.rule in
    let three = with_argument _ _ _ _ (rule_of_option warm_option) two c.in_ok-arg-3.ensures c.number-warm.ensures.local c.number-warm.ensures.rule in
    let four = with_argument _ _ _ _ (choice_rule policy_choice) three c.in_ok-arg-4.ensures c.choice-policy.ensures.local c.choice-policy.ensures.rule in
    IfOk-weaker c.arg-5.result _ _ (λ r added. with_argument _ _ _ r (flag_rule sizes_flag) four added c.flag-sizes.ensures.local c.flag-sizes.ensures.rule) c.arg-5.ensures
