use Rattle.std.proofs.Common.{codes, rules}
use Rattle.std.proofs.lemmas.Result.{IfOk-weaker}
use Rattle.std.specs.Fmt.{digits}
use Rattle.clap.specs.Words.{new_app}
use Rattle.segtasks.specs.CommandLine.{choice_rule, csv_flag, explain_flag, file_rule, flag_rule, format_choice, progress_flag}
use Rattle.segtasks.proofs.Building.{with_argument}
use Rattle.segtasks.proofs.command_line.replay.Goals as goal

pub returns : goal.returns
unfolding digits
returns c =
    let plain = c.in_ok-with_shape.ensures (new_app (codes "replay")) (search rules) in
    let one = with_argument _ _ _ _ file_rule plain c.in_ok-arg.ensures c.trace_file.ensures.local c.trace_file.ensures.rule in
    let two = with_argument _ _ _ _ (flag_rule csv_flag) one c.in_ok-arg-2.ensures c.flag-csv.ensures.local c.flag-csv.ensures.rule in
    let all = c.in_ok-with_replay.ensures _ two in
    let three = with_argument _ _ _ _ (choice_rule format_choice) all c.in_ok-arg-3.ensures c.choice-format.ensures.local c.choice-format.ensures.rule in
    let four = with_argument _ _ _ _ (flag_rule progress_flag) three c.in_ok-arg-4.ensures c.flag-progress.ensures.local c.flag-progress.ensures.rule in
    IfOk-weaker c.arg-5.result _ _ (λ r added. with_argument _ _ _ r (flag_rule explain_flag) four added c.flag-explain.ensures.local c.flag-explain.ensures.rule) c.arg-5.ensures
