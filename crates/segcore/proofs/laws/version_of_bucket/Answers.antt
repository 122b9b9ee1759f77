use Rattle.segcore.proofs.Buckets.{free_version, unwritten_version, version_writes}
use Rattle.segcore.proofs.laws.version_of_bucket.Goals as goal

pub returns : goal.returns
returns c = record { free = free_version; unwritten = unwritten_version; writes = version_writes }
