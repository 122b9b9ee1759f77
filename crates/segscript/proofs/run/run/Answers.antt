use Rattle.std.proofs.Common.{Err, ℕ, refl, arith, length-append, length-drop, length-take, take, ap, ◌∙◌}
use Rattle.std.proofs.lemmas.List.{take-append-le}
use Rattle.segword.specs.Words.{Shape}
use Rattle.segscript.specs.Device.{one_more}
use Rattle.segscript.proofs.Devices.{end_read, ended_once, more_read, unended_still}
use Rattle.segscript.proofs.Feeding.{at_passes}
use Rattle.segscript.proofs.Going.{asked, going_start, going_on, ends_fed, ends_read, ends_finish}
use Rattle.segscript.proofs.run.run.Goals as goal

pub loop-total-init : goal.loop-total-init
loop-total-init g c = record {
  reads = c.requires.reader_works;
  writes = c.requires.writer_works;
  unended = refl;
  unflushed = refl;
  shape = refl;
  ready = c.requires.ready;
  few = omega arith;
  most = omega arith;
  buffer = refl;
  going = going_start _ _ _ g.R.Source.hands g.met.R.Source.hands_more g.W.Sink.takes g.met.W.Sink.takes_more
      g.W.Sink.flushes _ _ _ _ refl c.new.ensures (g.met.R.Source.hands_none _) (g.met.W.Sink.takes_none _);
}

pub returns-in_default-clause-outcome : goal.returns-in_default-clause-outcome
returns-in_default-clause-outcome g c =
    ends_read _ _ _ g.R.Source.hands g.met.R.Source.hands_more g.W.Sink.takes g.met.W.Sink.takes_more
    g.W.Sink.flushes _ _ _ _ _ _ _ _ _ (g.R.Source.is_at_end c.read_piece.new.reader)
    c.loop-total.invariant.going c.loop-total.invariant.unflushed c.in_default.ensures.err

pub returns-then-n-eq0-clause-outcome : goal.returns-then-n-eq0-clause-outcome
returns-then-n-eq0-clause-outcome g c =
    let going = c.loop-total.invariant.going in
    let outcome = rw c.loop-total.invariant.shape at c.finish.ensures.outcome _ in
    ends_finish _ _ _ g.R.Source.hands g.met.R.Source.hands_more g.W.Sink.takes g.met.W.Sink.takes_more
    g.W.Sink.flushes _ c.finish.new.engine _ _ _ _ _ _ _ _ _ _ (g.R.Source.is_at_end c.read_piece.new.reader)
    c.finish.result going c.loop-total.invariant.unflushed
    c.in-Ok.ensures.bytes (ap (λ k. take k c.read_piece.new.piece) c.if-n-eq0.true) (c.in-Ok.ensures.end c.if-n-eq0.true) (outcome _ _ going.here)

pub returns-in-Err-clause-outcome : goal.returns-in-Err-clause-outcome
returns-in-Err-clause-outcome g c =
    let going = c.loop-total.invariant.going in
    let outcome = at_passes _ _ (ap (λ (s : Shape). s.passes) c.loop-total.invariant.shape) _ c.args.engine.now
    c.loop-total.engine c.feed_all.new.engine _ _ c.feed_all.new.self.bytes _ c.feed_all.new.self.number _
    (Err c.in-Err.fault) c.in-Err.ensures.outcome in
    ends_fed _ _ _ g.R.Source.hands g.met.R.Source.hands_more g.W.Sink.takes g.met.W.Sink.takes_more
    g.W.Sink.flushes _ c.feed_all.new.engine _ _ _ _ _ _ _ _ c.feed_all.new.self.bytes _
    c.feed_all.new.self.number _ _ (g.R.Source.is_at_end c.read_piece.new.reader) c.in-Err.fault going
    (c.in-Err.ensures.flushes ∙ c.loop-total.invariant.unflushed)
    c.in-Ok.ensures.bytes (take-append-le c.in-Ok.n _ _ c.in-Ok.ensures.count) (outcome _ _ going.here)

pub returns-in_default-clause-ends : goal.returns-in_default-clause-ends
returns-in_default-clause-ends g c = c.in_default.ensures.unended ∙ c.loop-total.invariant.unended

pub returns-then-n-eq0-clause-ends : goal.returns-then-n-eq0-clause-ends
returns-then-n-eq0-clause-ends g c =
    ended_once _ _ _ c.finish.new.engine _ _ _ _ _ _ _ c.finish.result (c.in-Ok.ensures.ends
    ∙ end_read _ _ c.if-n-eq0.true ∙ ap one_more c.loop-total.invariant.unended)
    ((rw c.loop-total.invariant.shape at c.finish.ensures.outcome _) _ _ c.loop-total.invariant.going.here)

pub returns-in-Err-clause-ends : goal.returns-in-Err-clause-ends
returns-in-Err-clause-ends g c = unended_still _ _ c.in-Err.fault (c.in-Ok.ensures.ends ∙ more_read _ _ c.if-n-eq0.false ∙ c.loop-total.invariant.unended)

pub returns-clause-ends : goal.returns-clause-ends
returns-clause-ends g c = c.loop-total.invariant.unended

pub loop-total-preserved : goal.loop-total-preserved
loop-total-preserved g c = record {
  reads = c.in-Ok.ensures.failed;
  writes = c.in_default-feed_all.ensures.failed;
  unended = c.in-Ok.ensures.ends ∙ more_read _ _ c.if-n-eq0.false ∙ c.loop-total.invariant.unended;
  unflushed = c.in_default-feed_all.ensures.flushes ∙ c.loop-total.invariant.unflushed;
  shape = c.in_default-feed_all.ensures.shape ∙ c.loop-total.invariant.shape;
  ready = c.in_default-feed_all.ensures.ready;
  few = omega (arith, length-take {A = ℕ}, c.in_default-feed_all.ensures.number);
  most =
      let room = asked c.loop-total.piece c.read_piece.new.piece c.loop-total.total c.min-room.result c.loop-total.invariant.buffer c.min-room.ensures c.read_piece.auto.piece in
      let count = c.in-Ok.ensures.count in
      omega arith;
  buffer =
      let room = asked c.loop-total.piece c.read_piece.new.piece c.loop-total.total c.min-room.result c.loop-total.invariant.buffer c.min-room.ensures c.read_piece.auto.piece in
      simp (length-append, length-drop) (omega arith);
  going =
      let going = c.loop-total.invariant.going in
      let outcome = rw c.loop-total.invariant.shape at c.in_default-feed_all.ensures.outcome _ in
      going_on _ _ _ g.R.Source.hands g.met.R.Source.hands_more g.W.Sink.takes g.met.W.Sink.takes_more
      g.W.Sink.flushes _ _ _ _ _ _ _ _ _ _ _ _ _ _ _ _ going c.in-Ok.ensures.bytes
      (take-append-le c.in-Ok.n _ _ c.in-Ok.ensures.count)
      (length-take c.in-Ok.n c.read_piece.new.piece ∙ omega (arith, c.in-Ok.ensures.count)) (outcome _ _ going.here);
}

pub read_piece-requires-clause-replied : goal.read_piece-requires-clause-replied
read_piece-requires-clause-replied g c =
    let going = c.loop-total.invariant.going in
    (c.args.engine.now, c.args.reader.now, c.args.writer.now, going.seen, going.told, going.came, going.went, rw (← c.loop-total.invariant.shape) at going.here)
