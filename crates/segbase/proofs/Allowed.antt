-- A step that its pass may take is allowed by the table's rule, and tells what its kind says.
use Rattle.std.proofs.Common.{◌≡◌, ℕ, suc, ◌<◌, ◌≤◌, List, [], ◌∷◌, ◌++◌, get_or, set, true, refl, sym, ap, ◌∙◌, subst, inl, ⊎_elim, arith, length-set}
use mathlib.Core.Option.{some}
use lib.ListN.{get_elem?}
use Rattle.atomic_table.specs.Table.{State, Me, keeps, stepped, Allows}
use Rattle.atomic_table.proofs.Lists.{at_set, set_here, set_else}
use Rattle.segcore.specs.Words.{address, adds, AreWithin, becomes, cell, Event, IsLawful, LinksWithin, May, seen, Step, Told}
use Rattle.segcore.specs.Words.{steps_of, View, word}
use Rattle.segcore.proofs.KeepsLaw.{steps, inside_list}
use Rattle.segcore.proofs.Schedules.{kept_at}
use Rattle.segcore.proofs.Within.{steps_within}
use Rattle.segbase.specs.declared.law.Constants.{Constants}
use Rattle.segbase.specs.Constants.{constants}
use Rattle.segbase.specs.declared.law.Sight.{Sight}
use Rattle.segbase.specs.Words.{Board, Pass}
use Rattle.segbase.specs.declared.place.Spot.{Spot}
use Rattle.segbase.specs.Ruled.{IsHeld, IsSight, Rule, Learns}
use Rattle.segbase.specs.Spots.{cell_of}
use Rattle.segbase.specs.Passes.{CanStep}
use Rattle.segbase.proofs.Begun.{begins_on}
use Rattle.segbase.proofs.Ended.{views_kept, apart_moved}
use Rattle.segbase.proofs.Holders.{held_moved, pass_only}

-- a seat that keeps its number, and stays a pass if it is one, keeps the passes' numbers apart
pub apart_kept : (views : List Sight) (id : ℕ) (x u : Sight)
    → ((i j : ℕ) (a b : Sight) → get_elem? views i ≡ some a → get_elem? views j ≡ some b → a.is_pass ≡ true
    → b.is_pass ≡ true → a.view.number ≡ b.view.number → i ≡ j)
    → get_elem? views id ≡ some x → x.is_pass ≡ true → u.view.number ≡ x.view.number
    → (i j : ℕ) (a b : Sight) → get_elem? (set views id u) i ≡ some a → get_elem? (set views id u) j ≡ some b → a.is_pass ≡ true → b.is_pass ≡ true → a.view.number ≡ b.view.number → i ≡ j
apart_kept views id x u one at pass same i j a b ai bj pa pb e = ⊎_elim
    (λ t. ⊎_elim
    (λ o. t.0 ∙ sym o.0)
    (λ o. t.0 ∙ one id j x b at o.1 pass pb (sym same ∙ (ap (λ (y : Sight). y.view.number) t.1 ∙ e)))
    (at_set views id j u b bj))
    (λ t. ⊎_elim
    (λ o. one i id a x t.1 at pa pass (e ∙ (sym (ap (λ (y : Sight). y.view.number) o.1) ∙ same)) ∙ sym o.0)
    (λ o. one i j a b t.1 o.1 pa pb e)
    (at_set views id j u b bj))
    (at_set views id i u a ai)

module _ {S : Type 0} where
  -- a pass whose view alone changes, with its number kept, keeps what the rule says of the seats
  sights_kept : (c : Constants) (s : State S Sight) (rule : Rule c s) (id : ℕ) (x : Sight) (w : View) (es : List Event)
      → get_elem? s.views id ≡ some x → x.is_pass ≡ true → w.number ≡ x.view.number → w.trace ≡ es ++ rule.trace
      → (j : ℕ) (y : Sight) → get_elem? (set s.views id (record x { view = w })) j ≡ some y → IsSight (set rule.views x.view.number w) (es ++ rule.trace) y
  sights_kept c s rule id x w es at pass same all j y is =
      let old = rule.sights id x at in ⊎_elim
      (λ t. subst (IsSight (set rule.views x.view.number w) (es ++ rule.trace)) t.1 (record {
        seen = ([], sym all);
        met = begins_on es x.met rule.trace old.met;
        own = λ _. subst (λ n. get_elem? (set rule.views x.view.number w) n ≡ some w) (sym same) (set_here rule.views x.view.number w (inside_list rule.views x.view.number x.view (old.own pass)));
        ended = views_kept rule.views x.view.number w x.ended (rule.apart id id x x at at pass) old.ended;
      }))
      (λ t. let o = rule.sights j y t.1 in record {
        seen = begins_on es y.view.trace rule.trace o.seen;
        met = begins_on es y.met rule.trace o.met;
        own = λ yes. set_else rule.views x.view.number y.view.number w (λ e. t.0 (rule.one j id y x t.1 at yes pass e)) ∙ o.own yes;
        ended = views_kept rule.views x.view.number w y.ended (rule.apart j id y x t.1 at pass) o.ended;
      })
      (at_set s.views id j (record x { view = w }) y is)

  -- the function f is the step's, as the table's own contract writes it
  pub allows : (c : Constants) (st : Step) (slots id i : ℕ) (me : Me S Sight) (f : ℕ → ℕ) → me.0.is_pass ≡ true → May c.shape me.0.view.trace me.0.view.number st
      → LinksWithin c.limits st → i ≡ address c.shape (cell st) → becomes st ≡ f
      → Allows (Rule c) slots id me i f (λ found me'. Learns c st found me.0 me'.0 × (me'.1 ≡ me.1))
  allows c st slots id i me f pass may links place same s rule _ at _ =
      let z = c.shape in
      let v : View = me.0.view in
      let p = v.number in
      let old = rule.sights id me.0 at in
      let here : get_elem? rule.views p ≡ some v = old.own pass in
      let l = rule.lawful in
      let k = l.knows p v here in
      let kept = kept_at z s.words rule.views rule.trace p v st l here may in
      let found = get_or s.words i 0 in
      let es : List Event = adds st p found in
      let w : View = record v { trace = es ++ rule.trace; looks = rule.trace ∷ v.looks; turn = suc (steps_of rule.views) } in
      let x : Sight = record me.0 { view = w } in
      let after = steps z s.words rule.views rule.trace p v st l here kept in
      let is : found ≡ word z rule.trace (cell st) = rw place (l.each (cell st) kept.inside) in
      let within : AreWithin c.limits (seen (es ++ rule.trace)) = steps_within c.limits st p found rule.trace links rule.within in
      let ruled : Rule c (stepped s i (f found) id me.1 x keeps) = record {
        trace = es ++ rule.trace;
        views = set rule.views p w;
        lawful = rw (← same, place) after;
        within = within;
        few = subst (λ n. n ≤ z.passes) (sym (length-set rule.views p w)) rule.few;
        sights = sights_kept c s rule id me.0 w es at pass refl refl;
        held = λ n u is. ⊎_elim
            (λ t. subst (IsHeld (set s.views id x)) t.1 (id, x, set_here s.views id x (inside_list s.views id me.0 at), inl (pass, refl)))
            (λ t. held_moved s.views id me.0 x u at (λ has. absurd (t.0 (sym (l.knows n u t.1).number ∙ ap (λ (y : View). y.number) (sym (pass_only me.0 u pass has))))) (rule.held n u t.1))
            (at_set rule.views p n w u is);
        one = apart_kept s.views id me.0 x rule.one at pass refl;
        apart = apart_moved s.views id me.0 x rule.apart at pass refl refl;
      } in
      let told : Told z st found v w = record {
        more = k.more;
        others = k.others;
        before = subst (IsLawful z) k.rest l.legal;
        found_is = is ∙ ap (λ y. word z y (cell st)) k.rest;
        turn = suc (steps_of rule.views);
        now = (λ j. record v { trace = es ++ k.rest j; looks = k.rest j ∷ v.looks; turn = suc (steps_of rule.views) });
        legal = rw is kept.legal;
      } in (
        x,
        keeps,
        tt,
        ruled,
        (
          record {
            told = told;
            within = within;
            met = begins_on es me.0.met rule.trace old.met;
            among = λ n past. ruled.lawful.later n (let few = ruled.few in omega arith);
            is_pass = refl;
            memo = refl;
          },
          refl,
        ),
      )

-- the same over a board's own table, as a step of it asks
pub step_of : (b : Board) (p : Pass) (st : Step) (spot : Spot) (i : ℕ) (f : ℕ → ℕ) → CanStep b p st spot f → i ≡ address b.shape (cell_of b.shape spot) → i < b.table.shared.table_id.words
    → (p.seat.table_id ≡ b.table.shared.table_id) × (i < b.table.shared.table_id.words)
    × Allows (Rule b.table.shared.key) b.table.shared.table_id.slots p.seat.id p.seat.me i f
    (λ found me'. Learns b.table.shared.key st found p.seat.me.0 me'.0 × (me'.1 ≡ p.seat.me.1))
step_of b p st spot i f can place within = (
  can.pass.table,
  within,
  subst (λ k. Allows (Rule k) b.table.shared.table_id.slots p.seat.id p.seat.me i f (λ found me'. Learns k st found p.seat.me.0 me'.0 × (me'.1 ≡ p.seat.me.1))) (sym b.same)
      (allows (constants b.shape b.limits) st b.table.shared.table_id.slots p.seat.id i p.seat.me f can.pass.is_pass can.may can.links (place ∙ ap (address b.shape) (sym can.at)) can.by),
)

pub store_of : (b : Board) (p : Pass) (st : Step) (spot : Spot) (i : ℕ) (f : ℕ → ℕ) → CanStep b p st spot f → i ≡ address b.shape (cell_of b.shape spot) → i < b.table.shared.table_id.words
    → (p.seat.table_id ≡ b.table.shared.table_id) × (i < b.table.shared.table_id.words)
    × Allows (Rule b.table.shared.key) b.table.shared.table_id.slots p.seat.id p.seat.me i f
    (λ _ me'. ((found : ℕ) × Learns b.table.shared.key st found p.seat.me.0 me'.0) × (me'.1 ≡ p.seat.me.1))
store_of b p st spot i f can place within = let s = step_of b p st spot i f can place within in
    (s.0, s.1, λ x rule homes at fits. let r = s.2 x rule homes at fits in (r.0, r.1, r.2, r.3, ((get_or x.words i 0, r.4.0), r.4.1)))
