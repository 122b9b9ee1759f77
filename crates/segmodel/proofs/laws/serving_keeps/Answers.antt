use Rattle.segmodel.proofs.Sound.{IsKept-fresh}
use Rattle.segmodel.proofs.Commands.{commands_keep, serving_keeps, turns_keep}
use Rattle.segmodel.proofs.ServingKeeps.{held_is_not_refilled, refilled_where_none}
use Rattle.segmodel.proofs.laws.serving_keeps.Goals as goal

pub returns-clause-start : goal.returns-clause-start
returns-clause-start c = IsKept-fresh

pub returns-clause-command : goal.returns-clause-command
returns-clause-command c = serving_keeps

pub returns-clause-turns : goal.returns-clause-turns
returns-clause-turns c = turns_keep

pub returns-clause-refilled : goal.returns-clause-refilled
returns-clause-refilled c = refilled_where_none

pub returns-clause-commands : goal.returns-clause-commands
returns-clause-commands c = commands_keep

pub returns-clause-held : goal.returns-clause-held
returns-clause-held c = held_is_not_refilled
