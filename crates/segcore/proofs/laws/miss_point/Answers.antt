use Rattle.segcore.proofs.Scans.{miss}
use Rattle.segcore.proofs.laws.miss_point.Goals as goal

pub returns : goal.returns
returns c = miss
