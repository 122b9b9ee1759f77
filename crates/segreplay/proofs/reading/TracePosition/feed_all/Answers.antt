use Rattle.std.proofs.Common.{◌++◌, take, append-nil}
use Rattle.std.proofs.lemmas.List.{take_all}
use Rattle.segreplay.proofs.Feeding.{fault_within, fed_on}
use Rattle.segreplay.proofs.reading.TracePosition.feed_all.Goals as goal

pub loop-byte-init : goal.loop-byte-init
loop-byte-init c = λ rules seen made here. rw append-nil here

pub loop-byte-preserved : goal.loop-byte-preserved
loop-byte-preserved c = λ rules seen made here.
    fed_on rules seen made c.args.bytes.now c.loop-byte.byte-index c.feed.new.self c.loop-byte-test.true
    (c.in_default.ensures rules (seen ++ take c.loop-byte.byte-index c.args.bytes.now) made (c.loop-byte.invariant rules seen made here))

pub returns-in-Err : goal.returns-in-Err
returns-in-Err c = λ rules seen made here.
    fault_within rules seen made c.args.bytes.now c.loop-byte.byte-index c.feed.new.self c.in-Err.fault c.loop-byte-test.true
    (c.in-Err.ensures rules (seen ++ take c.loop-byte.byte-index c.args.bytes.now) made (c.loop-byte.invariant rules seen made here))

pub returns : goal.returns
returns c = λ rules seen made here.
    rw (take_all c.loop-byte.byte-index c.args.bytes.now c.loop-byte-test.false) at c.loop-byte.invariant rules seen made here
