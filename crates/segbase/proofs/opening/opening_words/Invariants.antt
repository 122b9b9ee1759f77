use Rattle.std.proofs.Common.{◌≡◌, ◌*◌, ◌^◌, ◌<◌, length}
use Rattle.segbase.proofs.Opened.{IsBegun}
use Rattle.segbase.proofs.opening.opening_words.Given as goal

abbrev pub invariant-loop-bucket : goal.invariant-loop-bucket
invariant-loop-bucket l = (length l.words.items ≡ l.count) × IsBegun (l.first.version * 2 ^ 32) l.bucket l.words.items × (l.first.version < 2 ^ 32)
