use Rattle.segmodel.proofs.HistoryLemmas.{next_other}
use Rattle.segmodel.proofs.LawLemmas.{unstirred}
use Rattle.segmodel.proofs.laws.buckets_are_apart.Goals as goal

pub returns-clause-entry : goal.returns-clause-entry
returns-clause-entry c = next_other

pub returns-clause-still : goal.returns-clause-still
returns-clause-still c = unstirred
