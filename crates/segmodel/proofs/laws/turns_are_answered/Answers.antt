use Rattle.segmodel.proofs.Commands.{every_turn_is_answered, only_evict_chooses}
use Rattle.segmodel.proofs.laws.turns_are_answered.Goals as goal

pub returns-clause-every : goal.returns-clause-every
returns-clause-every c = every_turn_is_answered

pub returns-clause-one : goal.returns-clause-one
returns-clause-one c = only_evict_chooses
