-- The only pass of a board: all that has happened is its own, and it never finds a bit of another.
use Rattle.std.proofs.Common.{◌≡◌, ◌≢◌, ℕ, ◌+◌, ◌<◌, ◌≤◌, cond, eqb, ◌&&◌, List, [], ◌∷◌, ◌++◌, Some, refl, sym, ap, ◌∙◌, subst, ⊎_elim, arith, append-nil}
use Rattle.std.proofs.lemmas.Bool.{cases_eq, eq-eqb}
use Rattle.std.proofs.lemmas.Option.{none-some}
use Rattle.segword.specs.Words.{Shape}
use Rattle.segmodel.specs.History as history
use Rattle.segcore.specs.declared.event.Event.TheVariants.{Bounced, Glanced, Drew}
use Rattle.segcore.specs.Words.{AllBy, bounced, bucket_after, by, drawn_for, drew, Event, glanced}
use Rattle.segcore.specs.Words.{IsLawful, IsOther, NoneBy}
use Rattle.segcore.specs.Event as event
use Rattle.segcore.specs.Count as traces
use Rattle.segcore.specs.Mark as mark
use Rattle.segcore.proofs.Counts.{mine_own}
use Rattle.segcore.proofs.Quiet.{not_mine}
use Rattle.segbase.specs.Words.{Board, Pass}
use Rattle.segbase.specs.Passes.{number, trace, marked, seen, mine, count, IsPassOf, AddsEvents}
use Rattle.segbase.proofs.Owning.{own_all}

all_first : (h : List Event) → ((n : ℕ) → 1 ≤ n → NoneBy n h) → AllBy 0 h
all_first [] none = tt
all_first (e ∷ h) none = (⊎_elim (λ same. same) (λ other. absurd ((none (by e) (omega arith)).0 refl)) (cases_eq (by e) 0), all_first h (λ n some. (none n some).1))

-- where there is one pass, and nothing is of another
pub only_by : (passes p : ℕ) (h : List Event) → passes ≡ 1 → p < passes → ((n : ℕ) → passes ≤ n → NoneBy n h) → AllBy p h
only_by passes p h one few none = subst (λ n. AllBy n h) (let e : 0 ≡ p = omega arith in e) (all_first h (λ n some. none n (omega arith)))

pub none_by : (p q : ℕ) (h : List Event) → q ≢ p → AllBy p h → NoneBy q h
none_by p q [] other all = tt
none_by p q (e ∷ h) other all = ((λ is. other (sym is ∙ all.0)), none_by p q h other all.1)

-- no bit is another's
no_other : (z : Shape) (p a : ℕ) (h : List Event) → AllBy p h → ¬ (IsOther p (bucket_after z h a).holder)
no_other z p a h all (q, held, other) = subst (λ g. (bucket_after z g a).holder ≢ Some q) (append-nil h) (not_mine z h [] q a (none_by p q h other all) (λ e. none-some q e)) held

no_bounce : (z : Shape) (p b : ℕ) (h : List Event) → IsLawful z h → AllBy p h → traces.count (bounced b) p h ≡ 0
no_bounce z p b [] l all = refl
no_bounce z p b (Bounced q a ∷ h) l all = absurd (no_other z p a h all.1 (subst (λ n. IsOther n (bucket_after z h a).holder) all.0 l.1.suits))
no_bounce z p b (e ∷ h) l all = no_bounce z p b h l.0 all.1

no_glance : (z : Shape) (p b : ℕ) (h : List Event) → IsLawful z h → AllBy p h → traces.count (glanced b) p h ≡ 0
no_glance z p b [] l all = refl
no_glance z p b (Glanced q a ∷ h) l all = absurd (no_other z p a h all.1 (subst (λ n. IsOther n (bucket_after z h a).holder) all.0 l.1.suits))
no_glance z p b (e ∷ h) l all = no_glance z p b h l.0 all.1

-- each overflow bucket of a bucket was drawn by it
all_drew : (p b : ℕ) (h : List Event) → AllBy p h → drawn_for (mark.marked h) b ≡ traces.count (drew b) p h
all_drew p b [] all = refl
all_drew p b (Drew q a d m ∷ h) all = ap (λ n. cond (eqb a b) (n + 1) n) (all_drew p b h all.1)
    ∙ sym (ap (λ t. cond (t && eqb a b) (traces.count (drew b) p h + 1) (traces.count (drew b) p h)) (eq-eqb q p all.0))
all_drew p b (e ∷ h) all = all_drew p b h all.1

-- ---- of a pass

-- the history is its own
pub mine_alone : (b : Board) (p : Pass) → IsPassOf b p → b.shape.passes ≡ 1 → mine p ≡ seen p
mine_alone b p is one = let h = trace p in
    subst (λ g. history.mine (number p) (event.seen g) ≡ event.seen h) (append-nil h) (mine_own (number p) h [] (is.alone one) ∙ append-nil (event.seen h))

pub bounced_alone : (b : Board) (p : Pass) (bucket : ℕ) → IsPassOf b p → b.shape.passes ≡ 1 → count (bounced bucket) p ≡ 0
bounced_alone b p bucket is one = no_bounce b.shape (number p) bucket (trace p) is.lawful (is.alone one)

pub glanced_alone : (b : Board) (p : Pass) (bucket : ℕ) → IsPassOf b p → b.shape.passes ≡ 1 → count (glanced bucket) p ≡ 0
glanced_alone b p bucket is one = no_glance b.shape (number p) bucket (trace p) is.lawful (is.alone one)

pub drew_alone : (b : Board) (p : Pass) (bucket : ℕ) → IsPassOf b p → b.shape.passes ≡ 1 → drawn_for (marked p) bucket ≡ count (drew bucket) p
drew_alone b p bucket is one = all_drew (number p) bucket (trace p) (is.alone one)

all_front : (p : ℕ) (xs ys : List Event) → AllBy p (xs ++ ys) → AllBy p xs
all_front p [] ys all = tt
all_front p (e ∷ xs) ys all = (all.0, all_front p xs ys all.1)

-- a step or a call adds just its own events
pub moved_alone : (b : Board) (own : List Event) (p q : Pass) → AddsEvents b own p q → b.shape.passes ≡ 1 → trace q ≡ own ++ trace p
moved_alone b own p q m one =
    let all : AllBy (number p) (m.more ++ trace p) = subst (λ h. AllBy (number p) h) m.goes_on (subst (λ n. AllBy n (trace q)) m.same (m.pass.alone one)) in
    m.goes_on ∙ ap (λ es. es ++ trace p) (sym (own_all (number p) m.more (all_front (number p) m.more (trace p) all)) ∙ m.adds)
