-- What tries that found a bit set leave: nothing but their count.
use Rattle.std.proofs.Common.{◌≡◌, ◌≢◌, ℕ, zero, suc, ◌+◌, eqb, ◌&&◌, List, ◌++◌, refl, sym, ◌∙◌, arith}
use Rattle.std.proofs.lemmas.Bool.{cond-true, cond-false, eq-eqb, ne_eqb, and_from, and_right}
use Rattle.segcore.specs.Words.{bounced, count, Event, seen, taken}
use Rattle.segstore.proofs.Keeping.{AreCalm}
use Rattle.segstore.specs.Taking.{bounces}
use Rattle.segstore.proofs.Draws.{AreUndrawn}
use Rattle.segstore.proofs.Still.{AreStill}
use Rattle.segstore.proofs.Taking.{bounces_all}

pub bounces_still : (p b n : ℕ) → AreStill (bounces p b n)
bounces_still p b n = bounces_all AreStill p b n tt (λ own still. (tt, still))

pub bounces_calm : (p b n : ℕ) → AreCalm (bounces p b n)
bounces_calm p b n = bounces_all AreCalm p b n tt (λ own calm. (tt, calm))

pub bounces_undrawn : (p b n : ℕ) → AreUndrawn (bounces p b n)
bounces_undrawn p b n = bounces_all AreUndrawn p b n tt (λ own none. (tt, none))

pub bounces_seen : (p b n : ℕ) (h : List Event) → seen (bounces p b n ++ h) ≡ seen h
bounces_seen p b n h = bounces_all (λ own. seen (own ++ h) ≡ seen h) p b n refl (λ own same. same)

pub bounces_taken : (p b n q : ℕ) (h : List Event) → count taken q (bounces p b n ++ h) ≡ count taken q h
bounces_taken p b n q h = bounces_all (λ own. count taken q (own ++ h) ≡ count taken q h) p b n refl (λ own same. same)

-- none is of another bucket
pub bounces_elsewhere : (p b c n : ℕ) (h : List Event) → c ≢ b → count (bounced c) p (bounces p b n ++ h) ≡ count (bounced c) p h
bounces_elsewhere p b c n h apart = bounces_all (λ own. count (bounced c) p (own ++ h) ≡ count (bounced c) p h) p b n refl
    (λ own same. cond-false (eqb p p && eqb b c) (count (bounced c) p (own ++ h) + 1) (count (bounced c) p (own ++ h)) (and_right (eqb p p) (eqb b c) (ne_eqb b c (λ e. apart (sym e)))) ∙ same)

-- each is counted once
pub bounces_counted : (p b n : ℕ) (h : List Event) → count (bounced b) p (bounces p b n ++ h) ≡ count (bounced b) p h + n
unfolding bounces
bounces_counted p b zero h = omega arith
bounces_counted p b (suc n) h =
    let rest = bounces p b n ++ h in
    let before = bounces_counted p b n h in
    cond-true (eqb p p && eqb b b) (count (bounced b) p rest + 1) (count (bounced b) p rest) (and_from (eqb p p) (eqb b b) (eq-eqb p p refl) (eq-eqb b b refl)) ∙ omega arith
