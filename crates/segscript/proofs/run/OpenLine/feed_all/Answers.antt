use Rattle.std.proofs.Common.{Err, ◌+◌, ◌≤◌, arith, refl, ap, ◌∙◌}
use Rattle.std.proofs.lemmas.List.{take_more, take_all}
use Rattle.segword.specs.Words.{Shape}
use Rattle.segscript.proofs.Feeding.{fed_none, fed_more, fault_later, cut_at, at_passes}
use Rattle.segscript.proofs.run.OpenLine.feed_all.Goals as goal

pub loop-byte-init : goal.loop-byte-init
loop-byte-init g c = record {
  works = c.requires.works;
  unflushed = refl;
  shape = refl;
  ready = c.requires.ready;
  few = omega arith;
  fed = λ start seen told here. fed_none _ _ start g.W.Sink.takes g.met.W.Sink.takes_more _ seen told _ _ _ (g.met.W.Sink.takes_none _) here;
}

pub returns-in-Err-clause-outcome : goal.returns-in-Err-clause-outcome
returns-in-Err-clause-outcome g c = λ start seen told here.
    let fed = c.loop-byte.invariant.fed start seen told here in
    let outcome = at_passes _ _ (ap (λ (s : Shape). s.passes) c.loop-byte.invariant.shape) _ start
    c.loop-byte.engine c.feed.new.engine _ _ c.feed.new.self.bytes _ c.feed.new.self.number _
    (Err c.in-Err.fault) c.in-Err.ensures.outcome in
    fault_later _ _ start g.W.Sink.takes g.met.W.Sink.takes_more _ _ _ seen told _ _ _ _ _ c.feed.new.engine _ c.feed.new.self.bytes _ c.feed.new.self.number c.in-Err.fault fed
    (cut_at c.args.bytes.now c.loop-byte.byte-index c.loop-byte-test.true) (outcome _ _ fed.here)

pub loop-byte-preserved : goal.loop-byte-preserved
loop-byte-preserved g c = record {
  works = c.in_default.ensures.failed;
  unflushed = c.in_default.ensures.flushes ∙ c.loop-byte.invariant.unflushed;
  shape = c.in_default.ensures.shape ∙ c.loop-byte.invariant.shape;
  ready = c.in_default.ensures.ready;
  few = let grown : c.feed.new.self.number ≤ c.loop-byte.self.number + 1 = c.in_default.ensures.number in let few = c.loop-byte.invariant.few in omega arith;
  fed = λ start seen told here.
      let fed = c.loop-byte.invariant.fed start seen told here in
      let outcome = rw c.loop-byte.invariant.shape at c.in_default.ensures.outcome start in
      fed_more _ _ start g.W.Sink.takes g.met.W.Sink.takes_more _ _ _ seen told _ _ _ _ _ _ _ _ _ fed (outcome _ _ fed.here)
      (take_more c.args.bytes.now c.loop-byte.byte-index 0 c.loop-byte-test.true);
}

pub returns-clause-outcome : goal.returns-clause-outcome
returns-clause-outcome g c = λ start seen told here.
    let fed = c.loop-byte.invariant.fed start seen told here in
    (fed.text, fed.took, rw (take_all c.loop-byte.byte-index c.args.bytes.now c.loop-byte-test.false) at fed.here)
