-- Each run is one that its passes see: a step adds one entry at most.
use Rattle.std.proofs.Common.{ℕ, zero, suc, ◌≤◌, Bool, true, false, cond, eqb, ◌%◌, List, [], ◌∷◌, ◌++◌, length, Option, Some, None, sym, ap, subst, arith}
use Rattle.segword.specs.Words.{Shape}
use Rattle.segmodel.specs.Words.{Entry}
use Rattle.segcore.specs.Words.{Event, View}
use Rattle.segcore.specs.Event.{entry_of, NoneBy, seen, with_entry}
use Rattle.segcore.specs.Kind as kind
use Rattle.segcore.specs.Kind.{adds, Step}
use Rattle.segcore.specs.Run.{IsRun, IsSeenRun, IsSeenStep, IsSeenWorld, IsStepOf}
use Rattle.segcore.specs.World.{IsLawfulWorld, World}

-- ---- a step adds one entry at most

pub record HasOne (es : List Event) : Type 0 where
  pub few : (h : List Event) → length (seen (es ++ h)) ≤ suc (length (seen h))

with_one : (o : Option Entry) (h : List Entry) → length (with_entry o h) ≤ suc (length h)
with_one None h = omega arith
with_one (Some e) h = omega arith

none : HasOne []
none = record { few = λ h. omega arith }

one : (e : Event) → HasOne (e ∷ [])
one e = record { few = λ h. with_one (entry_of e) (seen h) }

either_one : (t : Bool) (xs ys : List Event) → HasOne xs → HasOne ys → HasOne (cond t xs ys)
either_one true xs ys a b = a
either_one false xs ys a b = b

unless_one : (own : Bool) (e : Event) → HasOne (kind.unless_own own e)
unless_one true e = none
unless_one false e = one e

pub one_entry : (st : Step) (p f : ℕ) → HasOne (adds st p f)
one_entry (kind.take b own) p f = either_one (eqb (f % 2) 0) _ _ (one _) (unless_one own _)
one_entry (kind.release b c None) p f = one _
one_entry (kind.release b c (Some said)) p f = record { few = λ h. omega arith }
one_entry (kind.glance b own) p f = either_one (eqb (f % 2) 0) _ _ none (unless_one own _)
one_entry (kind.link q s r m c old) p f = either_one _ _ _ (one _) none
one_entry (kind.relink k a i g s r m c) p f = either_one _ _ _ (one _) none
one_entry (kind.clear k m c old why) p f = either_one _ _ _ (one _) none
one_entry (kind.draw b d from) p f = either_one _ _ _ (one _) none
one_entry (kind.fill b m w) p f = one _
one_entry (kind.chain b c old m) p f = either_one _ _ _ (one _) none
one_entry (kind.bump b m c t s r g h) p f = either_one _ _ _ (one _) none
one_entry (kind.row_store s r j w) p f = one _
one_entry (kind.enter s) p f = one _
one_entry (kind.leave s) p f = one _
one_entry (kind.none_reading s old d) p f = either_one _ _ _ (one _) none
one_entry (kind.info_look b) p f = none
one_entry (kind.look c) p f = none
one_entry (kind.row_load s r j) p f = none

-- ---- worlds, steps and runs

pub seen_world : (z : Shape) (w : World) → IsLawfulWorld z w → IsSeenWorld w
seen_world z w l = record { knows = l.knows; later = l.later; timed = l.timed }

abbrev pub seen_step : (z : Shape) (p : ℕ) (before after : World) → IsLawfulWorld z before → IsStepOf z p before after → IsSeenStep p before after
seen_step z p before after l s = let told = s.told in record {
  old = s.old;
  new = s.new;
  there = s.there;
  apart = s.apart;
  more = told.more;
  others = subst (λ n. NoneBy n told.more) (l.knows p s.old s.there).number told.others;
  looked = ap (λ (v : View). v.looks) told.now;
  own = adds s.step s.old.number s.found;
  now = ap (λ (v : View). v.trace) told.now;
  few = subst (λ h. length (seen h) ≤ suc (length (seen (told.more ++ s.old.trace)))) (ap (λ (v : View). v.trace) (sym told.now))
      ((one_entry s.step s.old.number s.found).few (told.more ++ s.old.trace));
  still = seen_world z after s.lawful;
}

pub runs_are_seen : (z : Shape) (world : ℕ → World) (n : ℕ) → IsRun z world n → IsSeenRun world n
runs_are_seen z world n run = record {
  begins = seen_world z (world 0) run.begins;
  each = λ t lt. let s = run.each t lt in (s.0, seen_step z s.0 (world t) (world (suc t)) (lawful_at t (omega (arith, lt))) s.1);
}
  where
    lawful_at : (t : ℕ) → t ≤ n → IsLawfulWorld z (world t)
    lawful_at zero le = run.begins
    lawful_at (suc t) le = (run.each t (omega (arith, le))).1.lawful
