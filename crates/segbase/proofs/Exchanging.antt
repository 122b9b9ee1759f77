-- Exchanges at item words under the bit: the one of a link comes about, and one that fails found the same item with a higher frequency.
use Rattle.std.proofs.Common.{◌≡◌, ◌≢◌, ℕ, ◌+◌, ◌*◌, ◌%◌, ◌<◌, ◌≤◌, eqb, cond, List, [], ◌∷◌, ◌++◌, refl, sym, ap, ◌∙◌, subst, arith}
use Rattle.std.proofs.lemmas.Bool.{cond-true, cond-false, eq-eqb, ne_eqb}
use Rattle.std.proofs.lemmas.Nat.{mod-mul-add}
use Rattle.segword.specs.Words.{Shape}
use Rattle.segcore.specs.declared.event.Event.TheVariants.{Drew}
use Rattle.segcore.specs.Words.{adds, bucket_after, Cell, cell, content_word, draw, drawn_in, Event}
use Rattle.segcore.specs.Words.{HasBit, IsAt, IsItemAt, item, last, nothing, Slot, Step, View, word}
use Rattle.segcore.proofs.Quiet.{drawn_grows}
use Rattle.segcore.proofs.Limits.{drawn_few, few_drawn}
use Rattle.segbase.specs.Words.{Board, Pass, Place}
use Rattle.segbase.specs.Passes.{number, trace, IsPassOf, AddsAtOnce, Stepped}
use Rattle.segbase.specs.Spots.{cell_at}
use Rattle.segbase.specs.Steps.{counting, Missed, CounterMissed}
use Rattle.segbase.proofs.Standing.{under_bit, higher}

-- the exchange of an event that found what it expects
pub hit : (b : Board) (p q : Pass) (step : Step) (event : Event) (found old : ℕ)
    → adds step (number p) found ≡ cond (eqb found old) (event ∷ []) [] → found ≡ old → Stepped b step found p q
    → AddsAtOnce b (event ∷ []) p q
hit b p q step event found old is same s = subst (λ es. AddsAtOnce b es p q) (is ∙ cond-true (eqb found old) (event ∷ []) [] (eq-eqb found old same)) s.did

pub miss : (b : Board) (p q : Pass) (step : Step) (event : Event) (found old : ℕ)
    → adds step (number p) found ≡ cond (eqb found old) (event ∷ []) [] → found ≢ old → Stepped b step found p q
    → AddsAtOnce b [] p q
miss b p q step event found old is other s = subst (λ es. AddsAtOnce b es p q) (is ∙ cond-false (eqb found old) (event ∷ []) [] (ne_eqb found old other)) s.did

-- under the bit an empty word is found empty
pub finds_nothing : (b : Board) (p q : Pass) (step : Step) (found bucket n : ℕ)
    → HasBit b.shape (trace p) (number p) bucket → IsItemAt b.shape (trace p) bucket n (cell step)
    → (bucket_after b.shape (trace p) bucket).items n ≡ nothing → Stepped b step found p q → found ≡ 0
finds_nothing b p q step found bucket n bit at none s =
    s.told.found_is ∙ (under_bit b.shape s.told.more (trace p) (number p) bucket n (cell step) s.told.before s.told.others bit.1 at ∙ ap (content_word (s.told.more ++ trace p)) none)

pub missed : (b : Board) (p q : Pass) (step : Step) (event : Event) (place : Place) (found old bucket n : ℕ)
    (a : Slot) → IsPassOf b p → HasBit b.shape (trace p) (number p) bucket → cell step ≡ cell_at b.shape place
    → IsItemAt b.shape (trace p) bucket n (cell_at b.shape place)
    → (bucket_after b.shape (trace p) bucket).items n ≡ item a
    → adds step (number p) found ≡ cond (eqb found old) (event ∷ []) [] → found ≢ old → Stepped b step found p q
    → Missed b place old found p q
missed b p q step event place found old bucket n a is bit of at here adds_is other s =
    let h : List Event = s.told.more ++ trace p in
    let now : trace q ≡ h = ap (λ (v : View). v.trace) s.told.now ∙ ap (λ es. es ++ h) (adds_is ∙ cond-false (eqb found old) (event ∷ []) [] (ne_eqb found old other)) in
    let found_is : found ≡ word b.shape h (cell_at b.shape place) = s.told.found_is ∙ ap (word b.shape h) of in record {
      did = miss b p q step event found old adds_is other s;
      other = other;
      is = found_is ∙ ap (λ t. word b.shape t (cell_at b.shape place)) (sym now);
      higher = λ same low. higher b.shape s.told.more (trace p) (number p) bucket n old found a
          (cell_at b.shape place) is.valid is.lawful s.told.before s.told.others bit at here same low found_is
          other;
    }

-- a draw that failed
pub drawn_few_enough : (b : Board) (p q : Pass) (bucket depth from found : ℕ) → IsPassOf b p → Stepped b (draw bucket depth from) found p q → found ≤ 65536
drawn_few_enough b p q bucket depth from found is s = let a = drawn_few b.shape (s.told.more ++ trace p) s.told.before in let c = few_drawn b.shape is.valid in let e = s.told.found_is in omega arith

pub counter_missed : (b : Board) (p q : Pass) (bucket depth from found : ℕ) → from ≤ drawn_in (trace p) → found ≢ from → Stepped b (draw bucket depth from) found p q → CounterMissed b from found p q
counter_missed b p q bucket depth from found low other s =
    let h : List Event = s.told.more ++ trace p in
    let now : trace q ≡ h = ap (λ (v : View). v.trace) s.told.now ∙ ap (λ es. es ++ h) (cond-false (eqb found from) (Drew (number p) bucket depth from ∷ []) [] (ne_eqb found from other)) in
    let grows = drawn_grows s.told.more (trace p) in let few = drawn_few b.shape h s.told.before in let is : found ≡ drawn_in h = s.told.found_is in record {
      did = miss b p q (draw bucket depth from) (Drew (number p) bucket depth from) found from refl other s;
      is = is ∙ ap drawn_in (sym now);
      over = omega arith;
      few = omega arith;
    }

-- a look at the counter finds no more than the most that a table has
pub counted_few : (b : Board) (p q : Pass) (found : ℕ) → IsPassOf b p → Stepped b counting found p q → found ≤ 65536
counted_few b p q found is s = let a = drawn_few b.shape (s.told.more ++ trace p) s.told.before in let c = few_drawn b.shape is.valid in let e = s.told.found_is in omega arith

-- the last word of a chain is one of its item words
pub last_at : (z : Shape) (h : List Event) (b : ℕ) (c : Cell) → IsAt h b (last (bucket_after z h b)) c → IsItemAt z h b (last (bucket_after z h b)) c
last_at z h b c at = let d = (bucket_after z h b).chained in
    ((omega arith, subst (λ n. 0 < n) (sym (ap (λ n. n % 8) (let e : 8 * d + 7 ≡ d * 8 + 7 = omega arith in e) ∙ mod-mul-add d 8 7 (omega arith))) (omega arith)), at)
