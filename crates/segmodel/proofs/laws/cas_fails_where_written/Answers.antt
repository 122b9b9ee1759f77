use Rattle.segmodel.proofs.LawLemmas.{cas_fails}
use Rattle.segmodel.proofs.laws.cas_fails_where_written.Goals as goal

pub returns : goal.returns
returns c = cas_fails
