use Rattle.std.proofs.Common.{refl}
use Rattle.segreplay.proofs.Feeding.{byte_kept, byte_over, line_fed}
use Rattle.segreplay.proofs.reading.TracePosition.feed.Goals as goal

pub returns-in-Kept : goal.returns-in-Kept
returns-in-Kept c = λ rules seen made here.
    let kept = c.in-Kept.ensures in
    byte_kept rules seen made c.args.self.now _ here c.args.byte kept.0 kept.1 refl refl kept.2 refl refl refl

pub returns-in-NoRoom : goal.returns-in-NoRoom
returns-in-NoRoom c = λ rules seen made here.
    let full = c.in-NoRoom.ensures in
    byte_over rules seen made c.args.self.now (record c.args.self.now { line = c.take.new.self }) here c.args.byte full.0 full.1 refl

pub returns-in-End : goal.returns-in-End
returns-in-End c = λ rules seen made here.
    let end = c.in-End.ensures in
    rw end.0 (line_fed rules seen made c.args.self.now c.end_line.new.self here c.end_line.result (rw end.1 at c.end_line.ensures))
