-- A look at the deadline of a segment, among steps that read nothing: the pass is where it was, and came into one segment at most.
use Rattle.std.proofs.Common.{◌≡◌, ℕ, ◌+◌, ◌-◌, ◌<◌, ◌&&◌, true, false, cond, eqb, List, [], ◌∷◌, ◌++◌, Option, Some, None, refl, sym, ap, ◌∙◌, subst, append_assoc, arith}
use Rattle.std.proofs.lemmas.Bool.{eq-eqb}
use Rattle.segcore.specs.declared.event.Event.TheVariants.{Entered, Left}
use Rattle.segcore.specs.Words.{count, entered, Event, glanced, inside, raised}
use Rattle.segbase.specs.Words.{AddsEvents, Board, number, Pass, StaysIn, trace}
use Rattle.segbase.specs.Passes as passes
use Rattle.segbase.proofs.Moves.{moved_count}
use Rattle.segstore.specs.Calls.{ReadsNothing}
use Rattle.segstore.specs.Taking.{peek}
use Rattle.segstore.proofs.Still.{AreStill, still_inside, still_stays, still_count}

-- how many segments it came into
abbrev pub times : Option ℕ → ℕ
times None = 0
times (Some segment) = 1

-- it raised no frequency, found no bit by a look without it, and came into a segment so often
pub record PeeksInto (into : Option ℕ) (p q : Pass) : Type 0 where
  pub raised : passes.count raised q ≡ passes.count raised p
  pub glanced : (bucket : ℕ) → passes.count (glanced bucket) q ≡ passes.count (glanced bucket) p
  pub entered : passes.count entered q ≡ passes.count entered p + times into

-- no look at all
pub unread : (p q : Pass) → PeeksInto None p q → ReadsNothing p q
unread p q x = let came : passes.count entered q ≡ passes.count entered p = (let e = x.entered in omega (arith, e)) in λ i. (x.raised i, came i, λ bucket. x.glanced bucket i)

-- in and out of a segment
in_and_out : (n segment s : ℕ) (h : List Event) → inside (Left n segment ∷ Entered n segment ∷ h) n s ≡ inside h n s
in_and_out n segment s h = rw (eq-eqb n n refl) (elim (eqb segment s) as
    (λ here. cond (true && here) (cond (true && here) (inside h n s + 1) (inside h n s) - 1) (cond (true && here) (inside h n s + 1) (inside h n s)) ≡ inside h n s)
    [ true ↦ omega arith | false ↦ refl ])

still_there : (n segment s : ℕ) (h : List Event) → 0 < inside h n s → 0 < inside (Entered n segment ∷ h) n s
still_there n segment s h there = rw (eq-eqb n n refl) (elim (eqb segment s) as (λ here. 0 < cond (true && here) (inside h n s + 1) (inside h n s)) [ true ↦ omega arith | false ↦ there ])

-- with the steps before the look, which the look comes after, and those after it
module _ (n : ℕ) (into : Option ℕ) (early : List Event) (calm : AreStill early) where
  abbrev looked : List Event
  looked = peek n into ++ early

  peek_inside : (h : List Event) (s : ℕ) → inside (looked ++ h) n s ≡ inside h n s
  peek_inside h s = elim into as (λ o. inside ((peek n o ++ early) ++ h) n s ≡ inside h n s)
      [ None ↦ still_inside early h n s calm | Some segment ↦ in_and_out n segment s (early ++ h) ∙ still_inside early h n s calm ]

  peek_stays : (h : List Event) (s : ℕ) → 0 < inside h n s → StaysIn looked h n s
  peek_stays h s there = elim into as (λ o. StaysIn (peek n o ++ early) h n s) [
    | None ↦ still_stays early h n s calm there
    | Some segment ↦ (
      subst (λ m. 0 < m) (sym (in_and_out n segment s (early ++ h) ∙ still_inside early h n s calm)) there,
      (still_there n segment s (early ++ h) (subst (λ m. 0 < m) (sym (still_inside early h n s calm)) there), still_stays early h n s calm there),
    )
  ]

  pub parted_inside : (late h : List Event) (s : ℕ) → AreStill late → inside ((late ++ looked) ++ h) n s ≡ inside h n s
  parted_inside late h s still = ap (λ l. inside l n s) (append_assoc late looked h) ∙ (still_inside late (looked ++ h) n s still ∙ peek_inside h s)

  pub parted_stays : (late h : List Event) (s : ℕ) → AreStill late → 0 < inside h n s → StaysIn (late ++ looked) h n s
  parted_stays [] h s still there = peek_stays h s there
  parted_stays (e ∷ late) h s still there = (
    subst (λ m. 0 < m) (sym (parted_inside (e ∷ late) h s still)) there,
    parted_stays late h s still.1 there,
  )

  parted_raised : (late h : List Event) → AreStill late → count raised n ((late ++ looked) ++ h) ≡ count raised n h
  parted_raised late h still = ap (count raised n) (append_assoc late looked h) ∙ (still_count raised n late (looked ++ h) tt still
      ∙ elim into as (λ o. count raised n ((peek n o ++ early) ++ h) ≡ count raised n h) [ None ↦ still_count raised n early h tt calm | Some segment ↦ still_count raised n early h tt calm ])

  parted_glanced : (late h : List Event) (bucket : ℕ) → AreStill late → count (glanced bucket) n ((late ++ looked) ++ h) ≡ count (glanced bucket) n h
  parted_glanced late h bucket still = ap (count (glanced bucket) n) (append_assoc late looked h) ∙ (still_count (glanced bucket) n late (looked ++ h) tt still
      ∙ elim into as (λ o. count (glanced bucket) n ((peek n o ++ early) ++ h) ≡ count (glanced bucket) n h) [
        | None ↦ still_count (glanced bucket) n early h tt calm
        | Some segment ↦ still_count (glanced bucket) n early h tt calm
      ])

  parted_entered : (late h : List Event) → AreStill late → count entered n ((late ++ looked) ++ h) ≡ count entered n h + times into
  parted_entered late h still = ap (count entered n) (append_assoc late looked h) ∙ (still_count entered n late (looked ++ h) tt still
      ∙ elim into as (λ o. count entered n ((peek n o ++ early) ++ h) ≡ count entered n h + times o) [
        | None ↦ (let same = still_count entered n early h tt calm in omega (arith, same))
        | Some segment ↦ rw (eq-eqb n n refl) (let same = still_count entered n early h tt calm in omega (arith, same))
      ])

  pub peeks_into : (b : Board) (late : List Event) (p q : Pass) → n ≡ number p → AddsEvents b (late ++ looked) p q → AreStill late → PeeksInto into p q
  peeks_into b late p q of m still = record {
    raised = moved_count b (late ++ looked) p q raised m ∙ (λ i. count raised (sym of i) ((late ++ looked) ++ trace p)) ∙ parted_raised late (trace p) still ∙ (λ i. count raised (of i) (trace p));
    glanced = λ bucket. moved_count b (late ++ looked) p q (glanced bucket) m
        ∙ (λ i. count (glanced bucket) (sym of i) ((late ++ looked) ++ trace p))
        ∙ parted_glanced late (trace p) bucket still ∙ (λ i. count (glanced bucket) (of i) (trace p));
    entered = moved_count b (late ++ looked) p q entered m
        ∙ (λ i. count entered (sym of i) ((late ++ looked) ++ trace p)) ∙ parted_entered late (trace p) still
        ∙ (λ i. count entered (of i) (trace p) + times into);
  }
