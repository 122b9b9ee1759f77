use Rattle.std.proofs.Common.{arith}
use Rattle.segevict.proofs.eviction.evict.Goals as goal

pub evict_rest-requires-clause-unnamed : goal.evict_rest-requires-clause-unnamed
evict_rest-requires-clause-unnamed c row lt = absurd (omega (arith, lt))
