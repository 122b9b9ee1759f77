use Rattle.std.proofs.lemmas.Result.{IfOk-weaker}
use Rattle.segtasks.specs.CommandLine.{command_line, script_rules, load_rules, replay_rules, word_rules}
use Rattle.segtasks.proofs.Building.{with_command}
use Rattle.segtasks.proofs.command_line.program.Goals as goal

pub returns : goal.returns
unfolding command_line
returns c =
    let one = with_command _ _ _ _ script_rules c.in_ok-named.ensures c.in_ok-subcommand.ensures c.in_ok-script.ensures in
    let two = with_command _ _ _ _ load_rules one c.in_ok-subcommand-2.ensures c.in_ok-load.ensures in
    let three = with_command _ _ _ _ replay_rules two c.in_ok-subcommand-3.ensures c.in_ok-replay.ensures in
    IfOk-weaker c.subcommand-4.result _ _ (λ r added. with_command _ _ _ r word_rules three added c.in_ok-word.ensures) c.subcommand-4.ensures
