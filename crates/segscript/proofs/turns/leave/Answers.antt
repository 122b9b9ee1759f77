use Rattle.std.proofs.Common.{◌∙◌}
use Rattle.segscript.proofs.turns.leave.Goals as goal

pub returns-clause-left : goal.returns-clause-left
returns-clause-left c = (c.unlock.ensures.holding ∙ c.release.ensures.released, c.unlock.ensures.unlocked)

pub returns-clause-leaves : goal.returns-clause-leaves
returns-clause-leaves c = record { between = c.release.new.pass; released = c.release.result; unlocked = c.unlock.result; releases = c.release.ensures.turn; unlocks = c.unlock.ensures.turn }
