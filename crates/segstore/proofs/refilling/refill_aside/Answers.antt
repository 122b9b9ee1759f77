use Rattle.std.proofs.Common.{◌++◌, ◌≢◌, is_some, refl, ap, ◌∙◌, sym, subst}
use Rattle.std.proofs.lemmas.Bool.{false≢true}
use Rattle.segmodel.specs.declared.answer.SegState.TheVariants.{InUse}
use Rattle.segcore.specs.Words.{View}
use Rattle.segbase.specs.Words.{AsksReaders, current_of, trace}
use Rattle.segbase.proofs.Owned.{moved_still}
use Rattle.segstore.specs.Refilling.{FillsWith, refilled_aside}
use Rattle.segstore.specs.Segments.{KeepsSegments}
use Rattle.segstore.proofs.Keeping.{refilled_owner, keeps_refilled, knows_deadline}
use Rattle.segstore.proofs.Refills.{adds_refilling, held, may_refill, set_anew}
use Rattle.segstore.proofs.refilling.refill_aside.Goals as goal

pub returns-then-eq-clause-outcome : goal.returns-then-eq-clause-outcome
returns-then-eq-clause-outcome c = refl

pub none_reading-requires : goal.none_reading-requires
none_reading-requires c =
    let was = sym c.state.ensures ∙ c.in-Some.is in
    let other : c.in-Some.state ≢ InUse = λ e. false≢true (sym c.if-eq.false ∙ (c.eq.ensures ∙ (rw e refl))) in
    record {
      pass = c.requires.pass;
      own = ap is_some (knows_deadline c.args.pass.now c.args.segment c.in-Some.state was);
      may = λ old knew. may_refill _ _ c.args.segment old c.args.deadline c.in-Some.state c.requires.pass c.requires.segments was other c.ranges.deadline.fits;
    }

pub returns-then-not-none_reading-clause-outcome : goal.returns-then-not-none_reading-clause-outcome
returns-then-not-none_reading-clause-outcome c =
    (held _ _ _ c.args.segment c.args.deadline (current_of c.args.pass.now) _ c.requires.pass c.requires.segments c.none_reading.ensures c.if-not-none_reading.true).0

pub returns-then-not-none_reading-clause-segments : goal.returns-then-not-none_reading-clause-segments
returns-then-not-none_reading-clause-segments c =
    (held _ _ _ c.args.segment c.args.deadline (current_of c.args.pass.now) _ c.requires.pass c.requires.segments c.none_reading.ensures c.if-not-none_reading.true).1

pub returns-clause-outcome : goal.returns-clause-outcome
returns-clause-outcome c =
    let p = c.args.pass.now in let s = c.args.segment in let d = c.args.deadline in
    let asks = subst (λ t. AsksReaders c.args.board.now s d t p c.none_reading.new.pass) c.if-not-none_reading.false c.none_reading.ensures in
    let r = asks.now in
    let did = adds_refilling _ p _ s d asks in
    let done = set_anew s d r c.none_reading.new.pass c.set_state.new.self c.set_used.new.self asks.keeps c.set_state.ensures c.set_used.ensures in
    subst (FillsWith c.args.board.now s d (current_of p) p) (sym done) (record {
      own = ap is_some (sym c.state.ensures ∙ c.in-Some.is);
      moved = moved_still _ _ p r (refilled_aside s d r.plain) did.moved (refilled_owner r.plain s d);
      plain = ap (refilled_aside s d) asks.step.plain;
      memo = asks.step.memo;
      once = (asks.step.told.more ++ trace p, ap (λ (v : View). v.looks) asks.step.told.now);
    })

pub returns-clause-segments : goal.returns-clause-segments
returns-clause-segments c =
    let p = c.args.pass.now in let s = c.args.segment in let d = c.args.deadline in
    let asks = subst (λ t. AsksReaders c.args.board.now s d t p c.none_reading.new.pass) c.if-not-none_reading.false c.none_reading.ensures in
    let r = asks.now in
    let done = set_anew s d r c.none_reading.new.pass c.set_state.new.self c.set_used.new.self asks.keeps c.set_state.ensures c.set_used.ensures in
    subst (KeepsSegments c.args.board.now) (sym done)
    (keeps_refilled c.args.board.now p r s d c.in-Some.state (adds_refilling _ p _ s d asks) asks.step.plain
    (sym c.state.ensures ∙ c.in-Some.is) (λ e. false≢true (sym c.if-eq.false ∙ (c.eq.ensures ∙ (rw e refl))))
    c.requires.pass c.requires.segments)
