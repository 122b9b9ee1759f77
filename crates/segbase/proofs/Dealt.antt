-- The seats at the start, and a further pass.
use Rattle.std.proofs.Common.{◌≡◌, ℕ, zero, suc, ◌+◌, ◌<◌, ◌⊎◌, List, [], ◌∷◌, ◌++◌, length, set, true, refl, sym, ap, ◌∙◌, subst, inl, inr, ⊎_elim, arith, append-nil, length-append, length-set}
use mathlib.Core.Option.{some, some-injective, some-ne-none}
use lib.ListN.{get_elem?}
use Rattle.atomic_table.specs.Table.{opening, Splits}
use Rattle.atomic_table.proofs.Lists.{at_set, at_longer, at_last, set_here, set_else}
use Rattle.segword.specs.Words.{IsValid, Shape}
use Rattle.segcore.specs.Words.{Event, Knows, Lawful, NoneBy, View}
use Rattle.segbase.specs.declared.law.Constants.{Constants}
use Rattle.segbase.specs.declared.law.Sight.{Sight}
use Rattle.segbase.specs.Opening.{IsOpened}
use Rattle.segbase.specs.Ruled.{AreViews, IsHeld, NoneNumbered, Rule, IsSight, first_sight, dealer, newcomer}
use Rattle.segbase.proofs.Allowed.{apart_kept}
use Rattle.segbase.proofs.Ended.{apart_moved, none_new, stood, views_kept, views_longer}
use Rattle.segbase.proofs.Holders.{held_longer, held_moved, pass_only}
use Rattle.segcore.proofs.KeepsLaw.{inside_list}
use Rattle.segcore.proofs.Timed.{timed_first, timed_longer, timed_same}

only : (p : ℕ) (v : View) → get_elem? (first_sight.view ∷ []) p ≡ some v → Knows p v []
only zero v at = subst (λ (u : View). Knows 0 u []) (some-injective first_sight.view v at) (record { number = refl; more = []; rest = refl; others = tt })
only (suc p) v at = absurd (some-ne-none v (sym at))

one_sight : (id : ℕ) (x : Sight) → get_elem? (first_sight ∷ []) id ≡ some x → IsSight (first_sight.view ∷ []) [] x
one_sight zero x at = subst (IsSight (first_sight.view ∷ []) []) (some-injective first_sight x at) (record { seen = ([], refl); met = ([], refl); own = λ _. refl; ended = tt })
one_sight (suc id) x at = absurd (some-ne-none x (sym at))

one_id : (i : ℕ) (x : Sight) → get_elem? (first_sight ∷ []) i ≡ some x → i ≡ 0
one_id zero x at = refl
one_id (suc i) x at = absurd (some-ne-none x (sym at))

none_ended : (i : ℕ) (x : Sight) → get_elem? (first_sight ∷ []) i ≡ some x → (n : ℕ) → NoneNumbered n x.ended
none_ended zero x at n = subst (λ (s : Sight). NoneNumbered n s.ended) (some-injective first_sight x at) tt
none_ended (suc i) x at n = absurd (some-ne-none x (sym at))

held_first : (n : ℕ) (v : View) → get_elem? (first_sight.view ∷ []) n ≡ some v → IsHeld (first_sight ∷ []) v
held_first zero v at = (0, first_sight, refl, inl (refl, some-injective first_sight.view v at))
held_first (suc n) v at = absurd (some-ne-none v (sym at))

untimed : (p : ℕ) (v : View) → get_elem? (first_sight.view ∷ []) p ≡ some v → (v.looks ≡ []) × (v.turn ≡ 0)
untimed zero v at = let same = sym (some-injective first_sight.view v at) in (ap (λ (u : View). u.looks) same, ap (λ (u : View). u.turn) same)
untimed (suc p) v at = absurd (some-ne-none v (sym at))

pub rule_opens : (S : Type 0) (k : Constants) (words : List ℕ) → IsValid k.shape → IsOpened k.shape words → Rule {S = S} k (opening words [] first_sight)
rule_opens S k words valid opened = record {
  trace = [];
  views = first_sight.view ∷ [];
  lawful = record {
    valid = valid;
    legal = tt;
    long = opened.long;
    each = opened.each;
    knows = only;
    later = λ p _. tt;
    dealt = λ v at. ap (λ (u : View). u.dealt) (sym (some-injective first_sight.view v at));
    timed = timed_first (first_sight.view ∷ []) untimed;
  };
  within = tt;
  few = valid.0.0.0.1.0;
  sights = one_sight;
  held = held_first;
  one = λ i j x y at at' _ _ _. one_id i x at ∙ sym (one_id j y at');
  apart = λ i j x y at at' _. none_ended i x at y.view.number;
}

snoc_at : {A : Type 0} (l : List A) (a b : A) (j : ℕ) → get_elem? (l ++ a ∷ []) j ≡ some b → (get_elem? l j ≡ some b) ⊎ ((j ≡ length l) × (a ≡ b))
snoc_at [] a b zero e = inr (refl, some-injective a b e)
snoc_at [] a b (suc j) e = absurd (some-ne-none b (sym e))
snoc_at (x ∷ xs) a b zero e = inl e
snoc_at (x ∷ xs) a b (suc j) e = ⊎_elim (λ t. inl t) (λ t. inr (ap suc t.0, t.1)) (snoc_at xs a b j e)

-- the views with one pass more
more_views : (z : Shape) (words : List ℕ) (views : List View) (h : List Event) (v : View) → Lawful z words views h → get_elem? views 0 ≡ some v
    → Lawful z words (set views 0 (record v { dealt = v.dealt + 1 }) ++ record { number = v.dealt; trace = []; looks = []; turn = 0; dealt = 0 } ∷ []) h
more_views z words views h v l at =
    let k = l.knows 0 v at in
    let w : View = record v { dealt = v.dealt + 1 } in
    let new : View = record { number = v.dealt; trace = []; looks = []; turn = 0; dealt = 0 } in
    let there = set views 0 w in
    let all : v.dealt ≡ length views = l.dealt v at in
    let long : length there ≡ length views = length-set views 0 w in
    let more : length (there ++ new ∷ []) ≡ length views + 1 = length-append there (new ∷ []) ∙ ap (λ n. n + 1) long in record {
      valid = l.valid;
      legal = l.legal;
      long = l.long;
      each = l.each;
      knows = λ p u is. ⊎_elim
          (λ t. ⊎_elim
          (λ o. subst (λ (x : View). Knows p x h) o.1 (record { number = k.number ∙ sym o.0; more = k.more; rest = k.rest; others = subst (λ n. NoneBy n k.more) (sym o.0) k.others }))
          (λ o. l.knows p u o.1)
          (at_set views 0 p w u t))
          (λ t. subst (λ (x : View). Knows p x h) t.1 (record { number = all ∙ (sym long ∙ sym t.0); more = h; rest = sym (append-nil h); others = l.later p (let e = t.0 in omega arith) }))
          (snoc_at there new u p is);
      later = λ p past. l.later p (omega arith);
      dealt = λ u is. ⊎_elim
          (λ t. ⊎_elim
          (λ o. subst (λ (x : View). x.dealt ≡ length (there ++ new ∷ [])) o.1 (ap (λ n. n + 1) all ∙ sym more))
          (λ o. absurd (o.0 refl))
          (at_set views 0 0 w u t))
          (λ t. let i = inside_list views 0 v at in let e = t.0 in absurd (omega arith))
          (snoc_at there new u 0 is);
      timed = timed_longer there new (timed_same views 0 v w l.timed at refl refl refl) refl refl refl;
    }

pub deals : (S : Type 0) (k : Constants) (id : ℕ) (x : Sight) → x.is_pass ≡ true → x.view.number ≡ 0 → x.view.dealt < k.shape.passes → Splits {S = S} (Rule k) id x (dealer x) (newcomer x)
deals S k id x pass first fewer s rule at =
    let z = k.shape in
    let h = rule.trace in let l = rule.lawful in
    let v : View = x.view in
    let old = rule.sights id x at in
    let here : get_elem? rule.views 0 ≡ some v = subst (λ n. get_elem? rule.views n ≡ some v) first (old.own pass) in
    let w : View = record v { dealt = v.dealt + 1 } in
    let new : View = record { number = v.dealt; trace = []; looks = []; turn = 0; dealt = 0 } in
    let all : v.dealt ≡ length rule.views = l.dealt v here in
    let there = set rule.views 0 w in
    let long : length there ≡ length rule.views = length-set rule.views 0 w in
    let views = there ++ new ∷ [] in
    let known : (n : ℕ) (u : View) → get_elem? there n ≡ some u → get_elem? views n ≡ some u = λ n u e. at_longer there (new ∷ []) n u e in
    let old_number : (y : Sight) (j : ℕ) → get_elem? s.views j ≡ some y → y.is_pass ≡ true
    → y.view.number < length rule.views = λ y j e yes. inside_list rule.views y.view.number y.view
    ((rule.sights j y e).own yes) in
    let set_number : (y : Sight) (j : ℕ) → get_elem? (set s.views id (dealer x)) j ≡ some y → y.is_pass ≡ true → y.view.number < length rule.views = λ y j e yes. ⊎_elim
    (λ t. subst (λ (u : Sight). u.view.number < length rule.views) t.1 (old_number x id at pass))
    (λ t. old_number y j t.1 yes)
    (at_set s.views id j (dealer x) y e) in
    let one = apart_kept s.views id x (dealer x) rule.one at pass refl in
    let apart = apart_moved s.views id x (dealer x) rule.apart at pass refl refl in
    let still : (y : Sight) (j : ℕ) → get_elem? s.views j ≡ some y → AreViews views y.ended = λ y j e.
    views_longer there new y.ended (views_kept rule.views 0 w y.ended (subst (λ n. NoneNumbered n y.ended) first (rule.apart j id y x e at pass)) (rule.sights j y e).ended) in
    let none_of : (y : Sight) (j : ℕ) → get_elem? (set s.views id (dealer x)) j ≡ some y → NoneNumbered v.dealt y.ended = λ y j e.
    let was = stood s.views id x (dealer x) at pass refl refl j y e in
    subst (NoneNumbered v.dealt) was.3 (none_new rule.views v.dealt was.0.ended (omega (arith, all)) (rule.sights j was.0 was.1).ended) in
    record {
      trace = h;
      views = views;
      lawful = more_views z s.words rule.views h v l here;
      within = rule.within;
      few = let more : length views ≡ length rule.views + 1 = length-append there (new ∷ []) ∙ ap (λ n. n + 1) long in omega arith;
      sights = λ j y is. ⊎_elim
          (λ t. ⊎_elim
          (λ o. subst (IsSight views h) o.1 (record {
            seen = old.seen;
            met = old.met;
            own = λ _. subst (λ n. get_elem? views n ≡ some w) (sym first)
                (known 0 w (set_here rule.views 0 w (inside_list rule.views 0 v here)));
            ended = still x id at;
          }))
          (λ o. let a = rule.sights j y o.1 in record {
            seen = a.seen;
            met = a.met;
            own = λ yes. known y.view.number y.view (set_else rule.views 0 y.view.number w
                (λ e. o.0 (rule.one j id y x o.1 at yes pass (e ∙ sym first))) ∙ a.own yes);
            ended = still y j o.1;
          })
          (at_set s.views id j (dealer x) y t))
          (λ t. subst (IsSight views h) t.1 (record { seen = (h, sym (append-nil h)); met = (h, sym (append-nil h)); own = λ _. at_last there new v.dealt (long ∙ sym all); ended = tt }))
          (snoc_at (set s.views id (dealer x)) (newcomer x) y j is);
      held = λ n u is. ⊎_elim
          (λ t. held_longer (set s.views id (dealer x)) (newcomer x) u (⊎_elim
          (λ o. subst (IsHeld (set s.views id (dealer x))) o.1 (id, dealer x, set_here s.views id (dealer x) (inside_list s.views id x at), inl (pass, refl)))
          (λ o. held_moved s.views id x (dealer x) u at (λ has. absurd (o.0 (sym (l.knows n u o.1).number ∙ (ap (λ (y : View). y.number) (sym (pass_only x u pass has)) ∙ first)))) (rule.held n u o.1))
          (at_set rule.views 0 n w u t)))
          (λ t. subst (IsHeld (set s.views id (dealer x) ++ newcomer x ∷ [])) t.1 (
            length (set s.views id (dealer x)),
            newcomer x,
            at_last (set s.views id (dealer x)) (newcomer x) (length (set s.views id (dealer x))) refl,
            inl (refl, refl),
          ))
          (snoc_at there new u n is);
      one = λ i j a b ai bj pa pb e. ⊎_elim
          (λ t. ⊎_elim
          (λ o. one i j a b t o pa pb e)
          (λ o. let lt = set_number a i t pa in let f = ap (λ (u : Sight). u.view.number) o.1 in absurd (omega arith))
          (snoc_at (set s.views id (dealer x)) (newcomer x) b j bj))
          (λ t. ⊎_elim
          (λ o. let lt = set_number b j o pb in let f = ap (λ (u : Sight). u.view.number) t.1 in absurd (omega arith))
          (λ o. t.0 ∙ sym o.0)
          (snoc_at (set s.views id (dealer x)) (newcomer x) b j bj))
          (snoc_at (set s.views id (dealer x)) (newcomer x) a i ai);
      apart = λ i j a b ai bj pb. ⊎_elim
          (λ t. ⊎_elim
          (λ o. apart i j a b t o pb)
          (λ o. subst (λ (u : Sight). NoneNumbered u.view.number a.ended) o.1 (none_of a i t))
          (snoc_at (set s.views id (dealer x)) (newcomer x) b j bj))
          (λ t. subst (λ (u : Sight). NoneNumbered b.view.number u.ended) t.1 tt)
          (snoc_at (set s.views id (dealer x)) (newcomer x) a i ai);
    }
