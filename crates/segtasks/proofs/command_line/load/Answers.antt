use Rattle.std.proofs.Common.{◌∙◌, ap, codes, rules}
use Rattle.std.proofs.lemmas.Result.{IfOk-weaker}
use Rattle.std.specs.Fmt.{digits}
use Rattle.clap.specs.Words.{new_app}
use Rattle.segtasks.specs.CommandLine.{choice_rule, option_rule, flag_rule, rule_of_option, seed_option, commands_option, keys_option, format_choice, stats_flag, progress_flag, explain_flag}
use Rattle.segtasks.proofs.Building.{with_argument}
use Rattle.segtasks.proofs.command_line.load.Goals as goal

pub returns : goal.returns
unfolding digits
returns c =
    let plain = c.in_ok-with_shape.ensures (new_app (codes "load")) (search rules) in
    let one = with_argument _ _ _ _ (rule_of_option seed_option) plain c.in_ok-arg.ensures c.number-seed.ensures.local c.number-seed.ensures.rule in
    let two = with_argument _ _ _ _ (rule_of_option commands_option) one c.in_ok-arg-2.ensures c.number-commands.ensures.local c.number-commands.ensures.rule in
    let taken = c.taking-keys.ensures.rule ∙ ap (λ parser. option_rule (codes "keys") parser (codes "64")) c.keys_parser.ensures in
    let three = with_argument _ _ _ _ (rule_of_option keys_option) two c.in_ok-arg-3.ensures c.taking-keys.ensures.local taken in
    let four = with_argument _ _ _ _ (choice_rule format_choice) three c.in_ok-arg-4.ensures c.choice-format.ensures.local c.choice-format.ensures.rule in
    let five = with_argument _ _ _ _ (flag_rule stats_flag) four c.in_ok-arg-5.ensures c.flag-stats.ensures.local c.flag-stats.ensures.rule in
    let six = with_argument _ _ _ _ (flag_rule progress_flag) five c.in_ok-arg-6.ensures c.flag-progress.ensures.local c.flag-progress.ensures.rule in
    IfOk-weaker c.arg-7.result _ _ (λ r added. with_argument _ _ _ r (flag_rule explain_flag) six added c.flag-explain.ensures.local c.flag-explain.ensures.rule) c.arg-7.ensures
