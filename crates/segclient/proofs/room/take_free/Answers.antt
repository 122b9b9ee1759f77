use Rattle.std.proofs.Common.{None, refl}
use Rattle.std.proofs.lemmas.Bool.{false≢true}
use Rattle.segindex.specs.Words.{board_of}
use Rattle.segclient.specs.PutParts.{effort_from}
use Rattle.segclient.proofs.Calls.{none_arranges}
use Rattle.segclient.proofs.Cleared.{refill_stays}
use Rattle.segclient.proofs.Rooms.{left_free, refilled_afresh, took_free}
use Rattle.segclient.proofs.room.take_free.Goals as goal

pub returns-in_default-clause-takes : goal.returns-in_default-clause-takes
returns-in_default-clause-takes c = none_arranges (board_of c.args.index.now) None c.args.deadline 1 (effort_from 0 0 0) c.args.pass.now refl

pub returns-in_default-oldest-clause-takes : goal.returns-in_default-oldest-clause-takes
returns-in_default-oldest-clause-takes c = none_arranges (board_of c.args.index.now) None c.args.deadline 1 (effort_from 0 0 0) c.args.pass.now refl

pub returns-then-is_source-clause-takes : goal.returns-then-is_source-clause-takes
returns-then-is_source-clause-takes c = none_arranges (board_of c.args.index.now) None c.args.deadline 1 (effort_from 0 0 0) c.args.pass.now refl

pub returns-in_default-refill : goal.returns-in_default-refill
returns-in_default-refill c =
    let b = board_of c.args.index.now in
    let segment = c.in-Some-oldest.segment in
    record {
      on = c.refill.ensures.refills.on;
      ring = refl;
      queues = c.in-Some.ensures.variant;
      cleared = refill_stays b c.args.pass.now c.refill.new.pass c.requires.quiet segment c.args.deadline
          c.refill.result c.args.segments.now.source (c.is_source.ensures c.if-is_source.false)
          c.refill.ensures.refills c.requires.cleared;
      afresh = λ made. absurd (false≢true made);
      takes = left_free b c.args.deadline segment c.refill.result c.args.pass.now c.refill.new.pass c.in_default-refill.not-Refilled c.in-Some-oldest.ensures.own.0 c.refill.ensures.refills;
    }

pub returns-clause-cleared : goal.returns-clause-cleared
returns-clause-cleared c =
    refill_stays (board_of c.args.index.now) c.args.pass.now c.refill.new.pass c.requires.quiet
    c.in-Some-oldest.segment c.args.deadline c.refill.result c.args.segments.now.source
    (c.is_source.ensures c.if-is_source.false) c.refill.ensures.refills c.requires.cleared

pub returns-clause-afresh : goal.returns-clause-afresh
returns-clause-afresh c = λ made. refilled_afresh (board_of c.args.index.now) c.in-Some-oldest.segment c.args.deadline c.args.pass.now c.refill.new.pass c.in-Refilled.ensures.refills

pub returns-clause-takes : goal.returns-clause-takes
returns-clause-takes c = took_free (board_of c.args.index.now) c.args.deadline c.in-Some-oldest.segment
    c.args.pass.now c.refill.new.pass c.in-Some-oldest.ensures.own.0 c.in-Refilled.ensures.refills
