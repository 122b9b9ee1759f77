use Rattle.std.proofs.Common.{codes, rules}
use Rattle.std.proofs.lemmas.Result.{IfOk-weaker}
use Rattle.std.specs.Fmt.{digits}
use Rattle.clap.specs.Words.{new_app}
use Rattle.segtasks.specs.CommandLine.{explain_flag, file_rule, flag_rule}
use Rattle.segtasks.proofs.Building.{with_argument}
use Rattle.segtasks.proofs.command_line.script.Goals as goal

pub returns : goal.returns
unfolding digits
returns c =
    let plain = c.in_ok-with_shape.ensures (new_app (codes "script")) (search rules) in
    let one = with_argument _ _ _ _ file_rule plain c.in_ok-arg.ensures c.script_file.ensures.local c.script_file.ensures.rule in
    IfOk-weaker c.arg-2.result _ _ (λ r added. with_argument _ _ _ r (flag_rule explain_flag) one added c.flag-explain.ensures.local c.flag-explain.ensures.rule) c.arg-2.ensures
