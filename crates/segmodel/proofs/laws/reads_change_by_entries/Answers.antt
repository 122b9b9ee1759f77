use Rattle.segmodel.proofs.ReadChanges.{gone_is_taken_out, changed_is_stored}
use Rattle.segmodel.proofs.laws.reads_change_by_entries.Goals as goal

pub returns-clause-gone : goal.returns-clause-gone
returns-clause-gone c = gone_is_taken_out

pub returns-clause-changed : goal.returns-clause-changed
returns-clause-changed c = changed_is_stored
