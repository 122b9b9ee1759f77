use Rattle.segmodel.proofs.LawLemmas.{earlier_legal}
use Rattle.segmodel.proofs.Ordered.{sorted-after}
use Rattle.segmodel.proofs.laws.legal_histories.Goals as goal

pub returns-clause-earlier : goal.returns-clause-earlier
returns-clause-earlier c = earlier_legal

pub returns-clause-ordered : goal.returns-clause-ordered
returns-clause-ordered c = sorted-after
