use Rattle.segscript.proofs.WordReasons.{no_command}
use Rattle.segscript.proofs.reason.command_fault.Goals as goal

pub returns-in-None : goal.returns-in-None
returns-in-None c = no_command c.args.word.now c.in-None.ensures
