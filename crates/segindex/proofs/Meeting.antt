-- What two passes that met know of each other.
use Rattle.std.proofs.Common.{◌≡◌, ℕ, ◌==◌, [], List, sym, ap, ◌∙◌, subst, inl, inr, ⊎_elim}
use Rattle.std.proofs.lemmas.List.Elements.{filter-append}
use Rattle.segmodel.specs.Words.{AreOne, Begins, Entry, pass_of}
use Rattle.segmodel.specs.History as history
use Rattle.segcore.specs.Words.{Event}
use Rattle.segcore.specs.Event as event
use Rattle.segcore.specs.Mark as mark
use Rattle.segcore.proofs.Moments.{marked_begins, seen_begins}
use Rattle.segbase.specs.Words.{AddsEvents, Board, mine, number, Pass, trace}
use Rattle.segbase.proofs.Begun.{begins_then}
use Rattle.segbase.proofs.Moves.{moved_on, moved_mine}
use Rattle.segstore.specs.Words.{IsQuiet, memo}
use Rattle.segstore.proofs.Costs.{idle_costs_nothing}
use Rattle.segstore.proofs.Idling.{goes_nowhere, does_nothing}
use Rattle.segindex.specs.Meeting.{Meets, OnlyLearns}

-- a pass's entries in a longer history go on from those in a shorter one
pub mine_begins : (n : ℕ) (h g : List Entry) → Begins h g → Begins (history.mine n h) (history.mine n g)
mine_begins n h g b = (history.mine n b.0, ap (history.mine n) b.1 ∙ filter-append (λ x. pass_of x == n) b.0 h)

pub one_of : {A : Type 0} (F : List Event → List A) → ((h g : List Event) → Begins h g → Begins (F h) (F g)) → (h g : List Event) → AreOne h g → AreOne (F h) (F g)
one_of F grows h g one = ⊎_elim (λ b. inl (grows h g b)) (λ b. inr (grows g h b)) one

-- what another had seen of a pass's entries, which now it has seen itself
pub mine_of : (b : Board) (h : List Event) (q q' : Pass) → AddsEvents b [] q q' → Begins h (trace q') → Begins (history.mine (number q) (event.seen h)) (mine q)
mine_of b h q q' m begins =
    let same : history.mine (number q) (event.seen (trace q')) ≡ mine q = ap (λ n. history.mine n (event.seen (trace q'))) (sym m.same) ∙ moved_mine b [] q q' m in
    subst (Begins (history.mine (number q) (event.seen h))) same (mine_begins (number q) (event.seen h) (event.seen (trace q')) (seen_begins h (trace q') begins))

pub meets : (b : Board) (p q p' q' : Pass) → AddsEvents b [] p p' → AddsEvents b [] q q' → AreOne (trace p) (trace q) → Begins (trace q) (trace p') → Begins (trace p') (trace q') → Meets p q p' q'
meets b p q p' q' m k one first second = record {
  one = one_of mark.marked marked_begins (trace p) (trace q) one;
  one_history = one_of event.seen seen_begins (trace p) (trace q) one;
  first = (marked_begins (trace q) (trace p') first, seen_begins (trace q) (trace p') first);
  second = (marked_begins (trace p') (trace q') second, seen_begins (trace p') (trace q') second);
  of_second = mine_of b (trace p) q q' k (begins_then (trace p) (trace p') (trace q') (moved_on b [] p p' m) second);
  of_first = mine_of b (trace q) p p' m first;
}

-- a pass that did nothing by itself
pub only_learns : (b : Board) (p q : Pass) → IsQuiet b p → AddsEvents b [] p q → q.plain ≡ p.plain → memo q ≡ memo p → OnlyLearns b p q
only_learns b p q quiet m plain same = record {
  on = goes_nowhere b p q quiet m plain same;
  keeps = does_nothing b p q quiet m plain same;
  costs_nothing = idle_costs_nothing b p q m;
}
