-- How often a reader comes into segments, from try to try and from word to word; and that none but a hit raises a frequency.
use Rattle.std.proofs.Common.{◌≡◌, ℕ, ◌+◌, ◌%◌, ◌<◌, ◌≤◌, Bool, true, false, cond, eqb, ◌&&◌, List, [], ◌∷◌, ◌++◌, refl, ap, ◌∙◌, arith}
use Rattle.std.proofs.lemmas.Bool.{eq-eqb}
use Rattle.segword.specs.Words.{Info}
use Rattle.segcore.specs.declared.event.Event.TheVariants.{Glanced, Entered, Left}
use Rattle.segcore.specs.Count as traces
use Rattle.segcore.specs.Words.{entered, Event, glanced, raised, unless_own, View}
use Rattle.segbase.specs.Words.{AddsEvents, Board, count, Glances, has_bit, number, Pass, trace}
use Rattle.segbase.specs.Words.{view}
use Rattle.segbase.proofs.Moves.{moved_count}
use Rattle.segstore.specs.Words.{RaisesNothing}
use Rattle.segread.specs.Gets.{Attempts}
use Rattle.segread.specs.Hits.{GlancesFew, GlancesNothing, GlancesOnce, OnlyScans, TriesFew}
use Rattle.segread.specs.Scanning.{words_below, IsTry, Tries}

-- it came into no segment, and did nothing beside
abbrev pub StaysOut : Pass → Pass → Type 0
StaysOut p q = (count entered q ≡ count entered p) × OnlyScans p q

-- by one look at the information of a bucket it came into no segment, and may have found the bit set
abbrev pub LooksOnce : Pass → Pass → Type 0
LooksOnce p q = (count entered q ≡ count entered p) × RaisesNothing p q × GlancesOnce p q

pub raises_none : (p q : Pass) → OnlyScans p q → RaisesNothing p q
raises_none p q only = ap (λ x. x.0) only

pub glances_none : (p q : Pass) → OnlyScans p q → GlancesNothing p q
glances_none p q only bucket = ap (λ x. x.1 bucket) only

-- ---- single calls

only_scans : (b : Board) (own : List Event) (p q : Pass) → AddsEvents b own p q
    → traces.count raised (number p) (own ++ trace p) ≡ count raised p
    → ((bucket : ℕ) → traces.count (glanced bucket) (number p) (own ++ trace p) ≡ count (glanced bucket) p)
    → OnlyScans p q
only_scans b own p q m raises looks = λ i. ((moved_count b own p q raised m ∙ raises) i, λ bucket. (moved_count b own p q (glanced bucket) m ∙ looks bucket) i)

pub looked : (b : Board) (p q : Pass) → AddsEvents b [] p q → StaysOut p q
looked b p q m = (moved_count b [] p q entered m, only_scans b [] p q m refl (λ bucket. refl))

pub leaves : (b : Board) (segment : ℕ) (p q : Pass) → AddsEvents b (Left (number p) segment ∷ []) p q → StaysOut p q
leaves b segment p q m = (moved_count b _ p q entered m, only_scans b (Left (number p) segment ∷ []) p q m refl (λ bucket. refl))

pub looked_once : (p q : Pass) → StaysOut p q → LooksOnce p q
looked_once p q out = (out.0, raises_none p q out.1, λ bucket. let same = glances_none p q out.1 bucket in omega arith)

one_more : (t : Bool) (n : ℕ) → (let m : ℕ = cond t (n + 1) n in m) ≤ n + 1
one_more true n = omega arith
one_more false n = omega arith

-- a look at the information
set_found : (b : Board) (bucket : ℕ) (own : Bool) (p q : Pass) → AddsEvents b (unless_own own (Glanced (number p) bucket)) p q → LooksOnce p q
set_found b bucket true p q m = looked_once p q (looked b p q m)
set_found b bucket false p q m = (
  moved_count b _ p q entered m,
  moved_count b _ p q raised m,
  λ other. let now = moved_count b (Glanced (number p) bucket ∷ []) p q (glanced other) m in
      let one = one_more (eqb (number p) (number p) && eqb bucket other) (count (glanced other) p) in
      omega (arith, now, one),
)

by_bit : (b : Board) (bucket : ℕ) (info : Info) (p q : Pass) (held : Bool) → info.held ≡ held → Glances b bucket info p q → LooksOnce p q
by_bit b bucket info p q true is g = set_found b bucket (has_bit b p bucket) p q (g.1 is).moved
by_bit b bucket info p q false is g = looked_once p q (looked b p q (g.0 is).0.moved)

pub glance_once : (b : Board) (bucket : ℕ) (info : Info) (p q : Pass) → Glances b bucket info p q → LooksOnce p q
glance_once b bucket info p q g = by_bit b bucket info p q info.held refl g

-- it keeps in mind what it holds
pub same_view : (p q : Pass) → view q ≡ view p → StaysOut p q
same_view p q same = (
  ap (λ (v : View). traces.count entered v.number v.trace) same,
  λ i. (
    traces.count raised (same i).number (same i).trace,
    λ bucket. traces.count (glanced bucket) (same i).number (same i).trace,
  ),
)

pub came_in : (b : Board) (segment : ℕ) (p q : Pass) → AddsEvents b (Entered (number p) segment ∷ []) p q → IsTry p q
came_in b segment p q m = (moved_count b _ p q entered m ∙ rw (eq-eqb (number p) (number p) refl) refl, only_scans b (Entered (number p) segment ∷ []) p q m refl (λ bucket. refl))

-- ---- one after another

pub out_then : (p q r : Pass) → StaysOut p q → StaysOut q r → StaysOut p r
out_then p q r i j = (j.0 ∙ i.0, j.1 ∙ i.1)

pub try_out : (p q r : Pass) → IsTry p q → StaysOut q r → IsTry p r
try_out p q r i j = (j.0 ∙ i.0, j.1 ∙ i.1)

pub few_out : (p q r : Pass) → TriesFew p q → StaysOut q r → TriesFew p r
few_out p q r few j = let same = j.0 in omega (arith, few, same)

-- nothing was tried yet
pub tries_none : (at n : ℕ) (p : Pass) → Tries at at n n p p
tries_none at n p = record { comes_in = omega arith; onward = omega arith; only_scans = refl }

pub tries_out : (from to some more : ℕ) (p q r : Pass) → Tries from to some more p q → StaysOut q r → Tries from to some more p r
tries_out from to some more p q r i j = record { comes_in = (let a = i.comes_in in let c = j.0 in omega arith); onward = i.onward; only_scans = j.1 ∙ i.only_scans }

pub tries_once : (from to some count : ℕ) (p q r : Pass) → Tries from to some count p q → IsTry q r → Tries from to some (count + 1) p r
tries_once from to some count p q r i j = record { comes_in = (let a = i.comes_in in let c = j.0 in omega arith); onward = (let a = i.onward in omega arith); only_scans = j.1 ∙ i.only_scans }

pub tries_then : (from mid to some more most : ℕ) (p q r : Pass) → Tries from mid some more p q → Tries mid to more most q r → Tries from to some most p r
tries_then from mid to some more most p q r i j =
    record {
      comes_in = (let a = i.comes_in in let c = j.comes_in in omega arith);
      onward = (let a = i.onward in let c = j.onward in omega arith);
      only_scans = j.only_scans ∙ i.only_scans;
    }

-- more words, or more tries that may be counted
pub at_most : (from to end some more most : ℕ) (p q : Pass) → words_below to + more ≤ words_below end + most → Tries from to some more p q → Tries from end some most p q
at_most from to end some more most p q le i = record { comes_in = (let a = i.comes_in in omega (arith, le)); onward = (let a = i.onward in omega (arith, le)); only_scans = i.only_scans }

-- ---- scans for a version, with their looks at the bit

pub attempts : (from to some more : ℕ) (p q : Pass) → Tries from to some more p q → Attempts from to some more p q
attempts from to some more p q i = record {
  comes_in = i.comes_in;
  onward = i.onward;
  raises_nothing = raises_none p q i.only_scans;
}

pub once_then : (p q r : Pass) → LooksOnce p q → StaysOut q r → LooksOnce p r
once_then p q r once j = (
  j.0 ∙ once.0,
  raises_none q r j.1 ∙ once.1,
  λ bucket. let then = glances_none q r j.1 bucket in let one = once.2 bucket in omega arith,
)

-- nothing but scans, and one look at a bit
pub scans_once : (p q : Pass) → OnlyScans p q → GlancesOnce p q
scans_once p q only bucket = let same = glances_none p q only bucket in omega arith

pub scans_few : (p q : Pass) → OnlyScans p q → GlancesFew p q
scans_few p q only bucket = let same = glances_none p q only bucket in omega arith

pub glances_one : (p q r : Pass) → OnlyScans p q → LooksOnce q r → GlancesOnce p r
glances_one p q r only once bucket = let same = glances_none p q only bucket in let one = once.2 bucket in omega arith

pub glances_then : (p q r : Pass) → GlancesOnce p q → StaysOut q r → GlancesOnce p r
glances_then p q r once out bucket = let one = once bucket in let same = glances_none q r out.1 bucket in omega arith

-- a scan that found the item, and one look at the bit
pub attempts_once : (from to some more : ℕ) (p q r : Pass) → Tries from to some (more + 1) p q → LooksOnce q r → Attempts from to some (more + 1) p r
attempts_once from to some more p q r i once = record {
  comes_in = (let a = i.comes_in in let c = once.0 in omega arith);
  onward = i.onward;
  raises_nothing = once.1 ∙ raises_none p q i.only_scans;
}

pub attempts_out : (from to some more : ℕ) (p q r : Pass) → Attempts from to some more p q → StaysOut q r → Attempts from to some more p r
attempts_out from to some more p q r i j = record {
  comes_in = (let a = i.comes_in in let c = j.0 in omega arith);
  onward = i.onward;
  raises_nothing = raises_none q r j.1 ∙ i.raises_nothing;
}

pub attempts_then : (from mid to some more most : ℕ) (p q r : Pass) → Attempts from mid some more p q → Attempts mid to more most q r → Attempts from to some most p r
attempts_then from mid to some more most p q r i j = record {
  comes_in = (let a = i.comes_in in let c = j.comes_in in omega arith);
  onward = (let a = i.onward in let c = j.onward in omega arith);
  raises_nothing = j.raises_nothing ∙ i.raises_nothing;
}

pub attempts_at_most : (from to end some more most : ℕ) (p q : Pass) → words_below to + more ≤ words_below end + most → Attempts from to some more p q → Attempts from end some most p q
attempts_at_most from to end some more most p q le i = record {
  comes_in = (let a = i.comes_in in omega (arith, le));
  onward = (let a = i.onward in omega (arith, le));
  raises_nothing = i.raises_nothing;
}

-- a word of a bucket is passed
pub word_more : (at : ℕ) → 0 < at % 8 → words_below (at + 1) ≡ words_below at + 1
word_more at in' = omega (arith, in')

-- no chain has more than 28 words
pub words_few : (at : ℕ) → at < 32 → words_below at ≤ 27
words_few at few = omega (arith, few)

pub words_most : (at : ℕ) → at ≤ 32 → words_below at ≤ 28
words_most at few = omega (arith, few)
