use Rattle.std.proofs.Common.{◌≡◌, Some, refl, sym, ◌∙◌, subst}
use Rattle.std.proofs.lemmas.Bool.{false≢true}
use Rattle.segmodel.specs.Words.{RefillAnswer}
use Rattle.segmodel.specs.declared.answer.RefillAnswer.TheVariants as refill
use Rattle.segbase.specs.Words.{current_of}
use Rattle.segstore.specs.Refilling.{FillsWith, IsOutcome, IsOutcomeWith}
use Rattle.segstore.specs.Segments.{KeepsSegments}
use Rattle.segstore.proofs.Refills.{current_kept, refilled_current}
use Rattle.segstore.proofs.refilling.refill.Goals as goal

pub returns-then-eq-clause-outcome : goal.returns-then-eq-clause-outcome
returns-then-eq-clause-outcome c =
    let b = c.args.board.now in let s = c.args.segment in let d = c.args.deadline in let p = c.args.pass.now in let q = c.refill_aside-told.new.pass in
    let told = c.refill_aside-told.result in
    let same = made told refl in
    subst (λ t. IsOutcome b s d t p c.set_current.new.self) (sym same) (subst (FillsWith b s d (Some s) p) (sym c.set_current.ensures)
    (refilled_current b s d p q (subst (λ t. IsOutcomeWith b s d (current_of p) t p q) same c.refill_aside-told.ensures.outcome)))
  where
    made : (told : RefillAnswer) → c.refill_aside-told.result ≡ told → c.refill_aside-told.result ≡ refill.Refilled
    made refill.Refilled is = is
    made refill.NotYours is = absurd (false≢true (sym (c.eq.ensures ∙ (rw is refl)) ∙ c.if-eq.true))
    made refill.NotEvicted is = absurd (false≢true (sym (c.eq.ensures ∙ (rw is refl)) ∙ c.if-eq.true))
    made refill.Held is = absurd (false≢true (sym (c.eq.ensures ∙ (rw is refl)) ∙ c.if-eq.true))

pub returns-then-eq-clause-segments : goal.returns-then-eq-clause-segments
returns-then-eq-clause-segments c =
    let b = c.args.board.now in let s = c.args.segment in let d = c.args.deadline in let p = c.args.pass.now in let q = c.refill_aside-told.new.pass in
    subst (KeepsSegments b) (sym c.set_current.ensures)
    (current_kept b s d p q (subst (λ t. IsOutcomeWith b s d (current_of p) t p q) (made c.refill_aside-told.result refl) c.refill_aside-told.ensures.outcome) c.refill_aside-told.ensures.segments)
  where
    made : (told : RefillAnswer) → c.refill_aside-told.result ≡ told → c.refill_aside-told.result ≡ refill.Refilled
    made refill.Refilled is = is
    made refill.NotYours is = absurd (false≢true (sym (c.eq.ensures ∙ (rw is refl)) ∙ c.if-eq.true))
    made refill.NotEvicted is = absurd (false≢true (sym (c.eq.ensures ∙ (rw is refl)) ∙ c.if-eq.true))
    made refill.Held is = absurd (false≢true (sym (c.eq.ensures ∙ (rw is refl)) ∙ c.if-eq.true))
