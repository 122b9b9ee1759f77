use Rattle.segmodel.proofs.Expired.{expired_reads_nothing, nothing_until_stored}
use Rattle.segmodel.proofs.laws.expired_keys_read_nothing.Goals as goal

pub returns-clause-expired : goal.returns-clause-expired
returns-clause-expired c = expired_reads_nothing

pub returns-clause-until : goal.returns-clause-until
returns-clause-until c = nothing_until_stored
