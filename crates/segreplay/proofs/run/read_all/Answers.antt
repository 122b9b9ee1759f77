use Rattle.std.proofs.Common.{◌++◌, ◌∙◌, [], ap, append-nil, refl, subst, sym, take}
use Rattle.segreplay.specs.Traces.{EndsEarly, EndsTrace}
use Rattle.segreplay.proofs.Feeding.{fault_ends, fed_not_read, line_ended, stopped, taken_not_read}
use Rattle.segreplay.proofs.Lists.{adds_on, all_play_on, all_still, on_ok}
use Rattle.segreplay.proofs.run.read_all.Goals as goal

pub loop-read-init : goal.loop-read-init
loop-read-init g c = record {
  works = c.requires.works;
  ran = ([], [], g.met.S.Source.hands_none c.args.source.now, all_still c.args.players.now, c.requires.begun, refl);
}

pub returns-in_default-clause-outcome : goal.returns-in_default-clause-outcome
returns-in_default-clause-outcome g c =
    let ran = c.loop-read.invariant.ran in
    let rules = c.args.reading.now.rules in
    let turns = ran.1 ++ c.loop-read.reading.turns.items in (
      ran.0 ++ [],
      ran.1,
      g.met.S.Source.hands_more _ _ _ _ _ ran.2 c.in_default.ensures.err,
      ran.3,
      subst (λ s. EndsEarly rules s turns) (sym (append-nil ran.0)) (stopped rules ran.0 ran.1 c.loop-read.reading ran.4),
      ran.5,
    )

pub returns-then-n-eq0-clause-outcome : goal.returns-then-n-eq0-clause-outcome
returns-then-n-eq0-clause-outcome g c =
    let ran = c.loop-read.invariant.ran in
    let rules = c.args.reading.now.rules in
    let none = ap (λ k. take k c.read.new.buffer) c.if-n-eq0.true in
    let handed = subst (λ b. g.S.Source.hands c.loop-read.source b c.read.new.self) none c.in-Ok.ensures.bytes in
    let AtEnd = g.S.Source.is_at_end c.read.new.self in (
      ran.0 ++ [],
      ran.1,
      g.met.S.Source.hands_more _ _ _ _ _ ran.2 handed,
      ran.3,
      subst (λ s. EndsTrace rules AtEnd s (ran.1 ++ c.end_line.new.self.turns.items) c.end_line.result) (sym (append-nil ran.0))
          (line_ended rules ran.0 ran.1 c.loop-read.reading c.end_line.new.self ran.4 AtEnd (c.in-Ok.ensures.end c.if-n-eq0.true)
          c.end_line.result c.end_line.ensures),
      ran.5,
    )

pub returns-then-n-eq0-clause-read : goal.returns-then-n-eq0-clause-read
returns-then-n-eq0-clause-read g c = c.in-Ok.ensures.failed ∙ sym (taken_not_read c.loop-read.reading c.end_line.new.self c.end_line.result c.end_line.ensures)

pub returns-then-n-eq0-clause-whole : goal.returns-then-n-eq0-clause-whole
returns-then-n-eq0-clause-whole g c = on_ok c.end_line.result (c.in-Ok.ensures.end c.if-n-eq0.true)

pub returns-in-Err-clause-outcome : goal.returns-in-Err-clause-outcome
returns-in-Err-clause-outcome g c =
    let ran = c.loop-read.invariant.ran in
    let rules = c.args.reading.now.rules in
    let seen = ran.0 ++ take c.in-Ok.n c.read.new.buffer in (
      seen,
      ran.1,
      g.met.S.Source.hands_more _ _ _ _ _ ran.2 c.in-Ok.ensures.bytes,
      ran.3,
      fault_ends rules (g.S.Source.is_at_end c.read.new.self) seen ran.1 c.feed_all.new.self c.in-Err.fault (c.in-Err.ensures rules ran.0 ran.1 ran.4),
      ran.5,
    )

pub returns-in-Err-clause-read : goal.returns-in-Err-clause-read
returns-in-Err-clause-read g c =
    let ran = c.loop-read.invariant.ran in
    let rules = c.args.reading.now.rules in
    c.in-Ok.ensures.failed
    ∙ sym (fed_not_read rules (ran.0 ++ take c.in-Ok.n c.read.new.buffer) ran.1 c.feed_all.new.self c.in-Err.fault (c.in-Err.ensures rules ran.0 ran.1 ran.4))

pub loop-read-preserved : goal.loop-read-preserved
loop-read-preserved g c =
    let ran = c.loop-read.invariant.ran in
    let rules = c.args.reading.now.rules in
    let seen = ran.0 ++ take c.in-Ok.n c.read.new.buffer in
    let some = c.make_many.ensures in
    record {
      works = c.in-Ok.ensures.failed;
      ran = (
        seen,
        ran.1 ++ some.0,
        g.met.S.Source.hands_more _ _ _ _ _ ran.2 c.in-Ok.ensures.bytes,
        all_play_on ran.1 some.0 _ _ _ ran.3 some.2,
        some.1 rules seen ran.1 (c.in_default-feed_all.ensures rules ran.0 ran.1 ran.4),
        adds_on ran.1 some.0 _ _ _ ran.5 some.3,
      );
    }

pub returns-clause-outcome : goal.returns-clause-outcome
returns-clause-outcome g c =
    let ran = c.loop-read.invariant.ran in
    (ran.0, ran.1, ran.2, ran.3, stopped c.args.reading.now.rules ran.0 ran.1 c.loop-read.reading ran.4, ran.5)
