use Rattle.segcore.proofs.KeyCounts.{counted, counted_few, counted_full, wide, filled}
use Rattle.segcore.proofs.laws.keys_of_bucket.Goals as goal

pub returns : goal.returns
returns c = record { counted = counted; few = counted_few; full = counted_full; wide = wide; filled = filled }
