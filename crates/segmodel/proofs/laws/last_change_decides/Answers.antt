use Rattle.segmodel.proofs.LawLemmas.{stands_as_left, reads_as_left, deadline_as_set}
use Rattle.segmodel.proofs.laws.last_change_decides.Goals as goal

pub returns-clause-stands : goal.returns-clause-stands
returns-clause-stands c = stands_as_left

pub returns-clause-reads : goal.returns-clause-reads
returns-clause-reads c = reads_as_left

pub returns-clause-deadline : goal.returns-clause-deadline
returns-clause-deadline c = deadline_as_set
