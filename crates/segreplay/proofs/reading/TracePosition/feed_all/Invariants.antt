use Rattle.std.proofs.Common.{take}
use Rattle.segreplay.specs.Traces.{FeedsMore}
use Rattle.std.proofs.Common.{Ok}
use Rattle.segreplay.proofs.reading.TracePosition.feed_all.Given as goal

abbrev pub invariant-loop-byte : goal.invariant-loop-byte
invariant-loop-byte l = FeedsMore (take l.byte-index l.bytes) l.fn.self l.self (Ok tt)
