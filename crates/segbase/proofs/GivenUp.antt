-- All passes of a board are given up to one seat, so the table's rule has the view of each at its end.
use Rattle.std.proofs.Common.{◌≡◌, ℕ, zero, suc, ◌<◌, ◌≤◌, List, [], ◌∷◌, ◌++◌, get_or, length, map, set, Some, slice_get, true, false, refl, sym, ap, ◌∙◌, subst, ⊎_elim, append_assoc, arith}
use Rattle.std.proofs.lemmas.Bool.{cases_lt, false≢true}
use Rattle.std.proofs.lemmas.List.{map-append}
use Rattle.std.proofs.lemmas.Option.{same_Some, none-some}
use mathlib.Core.Option.{some}
use lib.ListN.{get_elem?}
use Rattle.atomic_table.specs.Table.{Me, Enters, Final, Joins, Seen}
use Rattle.atomic_table.proofs.Lists.{at_set, at_snoc}
use Rattle.std.specs.Slots.{slots_items}
use Rattle.segword.specs.Words.{Shape}
use Rattle.segbase.specs.declared.law.Constants.{Constants}
use Rattle.segbase.specs.Constants.{constants}
use Rattle.segmodel.proofs.ListPlaces.{front_of, last_of}
use Rattle.segcore.specs.Words.{address, by, Cell, Event, IsCell, Knows, NoneBy, View, word}
use Rattle.segbase.specs.Words.{Board, Pass}
use Rattle.segbase.specs.declared.law.Sight.{Sight}
use Rattle.segbase.specs.declared.closing.Words.{Words}
use Rattle.segbase.specs.Closing.{AreAll, ClosesAll, IsAtRest}
use Rattle.segbase.specs.Passes.{IsPassOf, number, trace, view}
use Rattle.segbase.specs.Ruled.{AreViews, ends, IsSight, Rule, spent}
use Rattle.segbase.proofs.Carried.{begins_all, one_longer, one_spent}
use Rattle.segbase.proofs.Ended.{apart_given, apart_longer}
use Rattle.segbase.proofs.Holders.{held_given, held_longer}

-- ---- the seat

spent_sight : (views : List View) (trace : List Event) → IsSight views trace spent
spent_sight views trace = record { seen = begins_all trace; met = begins_all trace; own = λ yes. absurd (false≢true yes); ended = tt }

-- a seat of no pass comes to the table
pub enters : (S : Type 0) (k : Constants) (slots place : ℕ) → Enters {S = S} (Rule k) slots place (λ _ w. ◌≡◌ {A = Me S Sight} (w, []) (spent, []))
enters S k slots place s rule _ _ = (
  spent,
  record {
    trace = rule.trace;
    views = rule.views;
    lawful = rule.lawful;
    within = rule.within;
    few = rule.few;
    sights = λ j y is. ⊎_elim (λ t. rule.sights j y t) (λ t. subst (IsSight rule.views rule.trace) t (spent_sight rule.views rule.trace)) (at_snoc s.views spent y j is);
    held = λ n v is. held_longer s.views spent v (rule.held n v is);
    one = one_longer s.views spent rule.one refl;
    apart = apart_longer s.views spent rule.apart refl refl;
  },
  refl,
)

-- a pass is given up to a seat of no pass
pub gives : (S : Type 0) (k : Constants) (id other : ℕ) (x w : Sight) → x.is_pass ≡ false → w.is_pass ≡ true → Joins {S = S} (Rule k) id x other w (ends x w) spent
gives S k id other x w off pass s rule at apart at' =
    let old = rule.sights id x at in
    let u : Sight = ends x w in
    let sights = set s.views id u in
    let there : get_elem? s.views other ≡ some w = ⊎_elim (λ t. absurd (apart t.0)) (λ t. t.1) (at_set s.views id other u w at') in
    record {
      trace = rule.trace;
      views = rule.views;
      lawful = rule.lawful;
      within = rule.within;
      few = rule.few;
      sights = λ j y is. ⊎_elim
          (λ t. subst (IsSight rule.views rule.trace) t.1 (spent_sight rule.views rule.trace))
          (λ t. ⊎_elim
          (λ o. subst (IsSight rule.views rule.trace) o.1 (record { seen = old.seen; met = old.met; own = old.own; ended = ((rule.sights other w there).own pass, old.ended) }))
          (λ o. rule.sights j y o.1)
          (at_set s.views id j u y t.1))
          (at_set sights other j spent y is);
      held = λ n v is. held_given s.views id other x w v off pass at apart there (rule.held n v is);
      one = one_spent sights other spent (one_spent s.views id u rule.one off) refl;
      apart = apart_given s.views id other x w rule.apart (λ j y is yes same. rule.one other j w y there is pass yes same) at off;
    }

-- the last of some passes is one of them
pub given : (b : Board) (passes rest : List Pass) (p : Pass) → passes ≡ rest ++ p ∷ [] → ((place : ℕ) (q : Pass) → slice_get passes place ≡ Some q → IsPassOf b q) → IsPassOf b p
given b passes rest p is each = each (length rest) p (ap (λ l. slice_get l (length rest)) is ∙ last_of rest p)

pub others : (b : Board) (passes rest : List Pass) (p : Pass) → passes ≡ rest ++ p ∷ []
    → ((place : ℕ) (q : Pass) → slice_get passes place ≡ Some q → IsPassOf b q) → (place : ℕ) (q : Pass)
    → slice_get rest place ≡ Some q → IsPassOf b q
others b passes rest p is each place q at = each place q (ap (λ l. slice_get l place) is ∙ front_of rest (p ∷ []) place q at)

-- and its view comes before those of the passes that were given up before it
pub views_then : (passes rest : List Pass) (p : Pass) (ended all : List View) → passes ≡ rest ++ p ∷ [] → map view passes ++ ended ≡ all → map view rest ++ (view p ∷ ended) ≡ all
views_then passes rest p ended all is were =
    sym (append_assoc (map view rest) (view p ∷ []) ended) ∙ (ap (λ l. l ++ ended) (sym (map-append view rest (p ∷ [])) ∙ ap (map view) (sym is)) ∙ were)

-- ---- the words

-- each view of these passes is one of the views
view_of : (views : List View) (passes : List Pass) (place : ℕ) (p : Pass) → AreViews views (map view passes) → slice_get passes place ≡ Some p → get_elem? views (number p) ≡ some (view p)
view_of views [] place p are at = absurd (none-some p at)
view_of views (q ∷ more) zero p are at = subst (λ (x : Pass). get_elem? views (number x) ≡ some (view x)) (same_Some q p at) are.0
view_of views (q ∷ more) (suc place) p are at = view_of views more place p are.1 at

-- the pass whose event is the newest has seen it all
newest : (p : Pass) (e : Event) (more h : List Event) → number p ≡ by e → e ∷ h ≡ more ++ trace p → NoneBy (number p) more → e ∷ h ≡ trace p
newest p e [] h same goes_on none = goes_on
newest p e (f ∷ more) h same goes_on none = absurd (none.0 (ap (λ (l : List Event). by (first l)) (sym goes_on) ∙ sym same))
  where
    first : List Event → Event
    first [] = e
    first (g ∷ l) = g

-- nothing has happened where nothing goes on from what a pass has seen
nothing : (more h : List Event) → [] ≡ more ++ h → [] ≡ h
nothing [] h is = is
nothing (e ∷ more) h is = absurd (empty is)
  where
    empty : [] ≡ e ∷ (more ++ h) → ⊥
    empty is = subst {A = List Event} Filled (sym is) tt
      where
        Filled : List Event → Type 0
        Filled [] = ⊥
        Filled (f ∷ l) = Unit {0}

module _ (b : Board) (passes : List Pass) (all : AreAll b passes) where
  -- one of them has seen it all
  has_seen_all : (now : List Event) → ((m : ℕ) → b.shape.passes ≤ m → NoneBy m now) → ((place : ℕ) (p : Pass) → slice_get passes place ≡ Some p → Knows (number p) (view p) now) → 0 < b.shape.passes
      → (place : ℕ) × (last : Pass) × (slice_get passes place ≡ Some last) × (now ≡ trace last)
  has_seen_all [] later knows more = let p = all.all 0 more in let known = knows p.0 p.1 p.2 in (p.0, p.1, p.2, nothing known.more (trace p.1) known.rest)
  has_seen_all (e ∷ h) later knows more =
      let few : by e < b.shape.passes = ⊎_elim (λ lt. lt) (λ le. absurd ((later (by e) le).0 refl)) (cases_lt (by e) b.shape.passes) in
      let p = all.all (by e) few in let known = knows p.0 p.1 p.2 in
      (p.0, p.1, p.2, newest p.1 e known.more h p.3 known.rest known.others)

  pub closes_all : (id : ℕ) (sight : Sight) (words : Words) (xs : List (Unit {0})) → words.shape ≡ b.shape → sight.ended ≡ map view passes
      → Final {S = Unit {0}} (Seen (Rule b.table.shared.key) id sight) (slots_items words.closed.words) xs → ClosesAll b passes words
  closes_all id sight words xs of ended final =
      let z = b.shape in
      let ruled : Rule (constants b.shape b.limits) final.0 = subst (λ (k : Constants). Rule k final.0) b.same final.1.0 in
      let now = ruled.trace in let l = ruled.lawful in let few = ruled.few in
      let are = subst (AreViews ruled.views) ended (ruled.sights id sight final.1.1).ended in
      let knows : (place : ℕ) (p : Pass) → slice_get passes place ≡ Some p → Knows (number p) (view p) now = λ place p at. l.knows (number p) (view p) (view_of ruled.views passes place p are at) in
      let none : (m : ℕ) → z.passes ≤ m → NoneBy m now = λ m past. l.later m (omega (arith, few, past)) in
      let one = has_seen_all now none knows l.valid.0.0.0.1.0 in
      let at_rest : IsAtRest words now = record {
        valid = rw of l.valid;
        lawful = rw of l.legal;
        each = subst (λ (k : Shape). (cell : Cell) → IsCell k cell
            → get_or (slots_items words.closed.words) (address k cell) 0 ≡ word k now cell) (sym of)
            (λ cell within. ap (λ (l : List ℕ). get_or l (address z cell) 0) (sym final.2) ∙ l.each cell within);
      } in record {
        of = of;
        place = one.0;
        last = one.1;
        there = one.2;
        rest = subst (IsAtRest words) one.3 at_rest;
        each = λ at p is. subst (Knows (number p) (view p)) one.3 (knows at p is);
        among = λ m past. subst (NoneBy m) one.3 (none m past);
      }
