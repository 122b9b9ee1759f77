-- Worked examples: how often a write that took its bit had found it set.
use Rattle.std.proofs.Common.{◌≡◌, ℕ, ◌+◌, arith}
use Rattle.segbase.specs.Words.{count, Pass}
use Rattle.segcore.specs.Words.{bounced}
use Rattle.segstore.specs.Calls.{TakesOneBit}

-- not after 64 tries in vain
tries_were_fewer : (bucket : ℕ) (p q : Pass) → TakesOneBit bucket p q → ¬ (count (bounced bucket) q ≡ count (bounced bucket) p + 64)
tries_were_fewer bucket p q takes same = absurd (omega (arith, takes.tries, same))
