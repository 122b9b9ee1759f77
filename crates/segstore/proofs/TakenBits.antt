-- Which bits a call tried for: its tries come first, and what it does then has none.
use Rattle.std.proofs.Common.{◌≡◌, ℕ, ◌+◌, ◌<◌, eqb, List, [], ◌∷◌, ◌++◌, refl, ap, ◌∙◌, append_assoc, arith}
use Rattle.std.proofs.lemmas.Bool.{cond-true, eq-eqb}
use Rattle.segcore.specs.declared.event.Event.TheVariants.{Took, Bounced}
use Rattle.segcore.specs.Words.{bounced, count, Counted, Event, taken}
use Rattle.segbase.specs.Words.{AddsEvents, Board, IsReaderEvent, number, OnlyReads, Pass, trace}
use Rattle.segbase.specs.Passes as passes
use Rattle.segbase.proofs.Moves.{moved_count}
use Rattle.segstore.specs.Calls.{TakesNoBit, TakesOneBit}
use Rattle.segstore.specs.Taking.{bounces}
use Rattle.segstore.proofs.Bounces.{bounces_taken, bounces_counted, bounces_elsewhere}

abbrev pub IsNoTry : Event → Type 0
IsNoTry (Took p b) = ⊥
IsNoTry (Bounced p b) = ⊥
IsNoTry e = Unit {0}

abbrev pub AreNoTries : List Event → Type 0
AreNoTries [] = Unit {0}
AreNoTries (e ∷ own) = IsNoTry e × AreNoTries own

-- what tries for a bit are counted as
abbrev IsOfTries : Counted → Type 0
IsOfTries taken = Unit {0}
IsOfTries (bounced bucket) = Unit {0}
IsOfTries what = ⊥

one_untried : (what : Counted) (p : ℕ) (e : Event) (h : List Event) → IsOfTries what → IsNoTry e → count what p (e ∷ h) ≡ count what p h
one_untried taken p (Took q b) h is none = absurd none
one_untried (bounced c) p (Bounced q b) h is none = absurd none
one_untried taken p e h is none = refl
one_untried (bounced c) p e h is none = refl
one_untried what p e h is none = absurd is

untried : (what : Counted) (p : ℕ) (own h : List Event) → IsOfTries what → AreNoTries own → count what p (own ++ h) ≡ count what p h
untried what p [] h is none = refl
untried what p (e ∷ own) h is none = one_untried what p e (own ++ h) is none.0 ∙ untried what p own h is none.1

read_untried : (e : Event) → IsReaderEvent e → IsNoTry e
read_untried (Took p b) is = is
read_untried (Bounced p b) is = is
read_untried e is = tt

reads_untried : (own : List Event) → OnlyReads own → AreNoTries own
reads_untried [] only = tt
reads_untried (e ∷ own) only = (read_untried e only.0, reads_untried own only.1)

-- a reader tries for no bit
pub reader_takes_none : (b : Board) (own : List Event) (p q : Pass) → AddsEvents b own p q → OnlyReads own → TakesNoBit p q
reader_takes_none b own p q m only = record {
  taken = moved_count b own p q taken m ∙ untried taken (number p) own (trace p) tt (reads_untried own only);
  bounced = λ bucket. moved_count b own p q (bounced bucket) m ∙ untried (bounced bucket) (number p) own (trace p) tt (reads_untried own only);
}

pub both_no_tries : (xs ys : List Event) → AreNoTries xs → AreNoTries ys → AreNoTries (xs ++ ys)
both_no_tries [] ys i j = j
both_no_tries (e ∷ xs) ys i j = (i.0, both_no_tries xs ys i.1 j)

-- a call that took the bit of a bucket after so many tries
module _ (b : Board) (bucket times : ℕ) (own : List Event) (p q : Pass) (few : times < 64) (none : AreNoTries own)
    (m : AddsEvents b (own ++ (Took (number p) bucket ∷ bounces (number p) bucket times)) p q) where
  abbrev n : ℕ
  n = number p

  abbrev tries : List Event
  tries = Took n bucket ∷ bounces n bucket times

  abbrev before : List Event
  before = bounces n bucket times ++ trace p

  took_once : passes.count taken q ≡ passes.count taken p + 1
  took_once = moved_count b (own ++ tries) p q taken m ∙ (ap (count taken n) (append_assoc own tries (trace p)) ∙ (untried taken n own (tries ++ trace p) tt none
      ∙ (cond-true (eqb n n) (count taken n before + 1) (count taken n before) (eq-eqb n n refl) ∙ ap (λ m. m + 1) (bounces_taken n bucket times n (trace p)))))

  met : (c : ℕ) → passes.count (bounced c) q ≡ count (bounced c) n before
  met c = moved_count b (own ++ tries) p q (bounced c) m ∙ (ap (count (bounced c) n) (append_assoc own tries (trace p)) ∙ untried (bounced c) n own (tries ++ trace p) tt none)

  pub took_one : TakesOneBit bucket p q
  took_one = record {
    taken = took_once;
    tries = (let all = met bucket in let counted = bounces_counted n bucket times (trace p) in omega arith);
    others = λ other apart. met other ∙ bounces_elsewhere n bucket other times (trace p) apart;
  }
