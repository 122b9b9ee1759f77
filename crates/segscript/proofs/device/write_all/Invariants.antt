use Rattle.std.proofs.Common.{◌≡◌, ◌++◌, List, ℕ, length, false}
use Rattle.segscript.proofs.device.write_all.Given as goal

-- what was taken and the rest are the bytes
abbrev pub invariant-loop-rest : goal.invariant-loop-rest
invariant-loop-rest g l =
    (g.W.Sink.has_failed l.writer ≡ false)
    × (g.W.Sink.flushes l.writer ≡ g.W.Sink.flushes l.fn.writer)
    × ((part : List ℕ) × (l.fn.bytes ≡ part ++ l.rest) × g.W.Sink.takes l.fn.writer part l.writer)

abbrev pub decreases-loop-rest : goal.decreases-loop-rest
decreases-loop-rest g l = length l.rest
