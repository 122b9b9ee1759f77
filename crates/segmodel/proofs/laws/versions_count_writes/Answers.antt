use Rattle.segmodel.proofs.HistoryLemmas.{version-after}
use Rattle.segmodel.proofs.laws.versions_count_writes.Goals as goal

pub returns-clause-counted : goal.returns-clause-counted
returns-clause-counted c = version-after
