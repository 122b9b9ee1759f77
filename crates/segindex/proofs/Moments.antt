-- The moments of a run: which step is a call's first, and where a history or an entry came in.
use Rattle.std.proofs.Common.{◌≡◌, ◌≢◌, ℕ, zero, suc, ◌+◌, ◌<◌, ◌≤◌, ◌⊎◌, List, [], ◌∷◌, ◌++◌, length, set, sym, ap, ◌∙◌, subst, inl, inr, ⊎_elim, arith, length-append}
use Rattle.std.proofs.lemmas.Bool.{cases_eq}
use mathlib.Core.Option.{some, some-injective}
use lib.ListN.{get_elem?}
use Rattle.atomic_table.proofs.Lists.{set_here, set_else}
use Rattle.segmodel.specs.Words.{Begins, Entry}
use Rattle.segcore.specs.Event as event
use Rattle.segcore.specs.Words.{Event, IsSeenRun, IsSeenStep, IsSeenWorld, View, World}
use Rattle.segcore.proofs.KeepsLaw.{inside_list}
use Rattle.segcore.proofs.Moments.{seen_begins}
use Rattle.segcore.proofs.Whole.{seen_step_sees_all}

-- the history of a moment of a run
abbrev pub history_at : (ℕ → World) → ℕ → List Entry
history_at world moment = event.seen (world moment).trace

same_tail : {A : Type 0} (x y : A) (xs ys : List A) → x ∷ xs ≡ y ∷ ys → xs ≡ ys
same_tail x y xs ys e = cc

same_head : {A : Type 0} (x y : A) (xs ys : List A) → x ∷ xs ≡ y ∷ ys → x ≡ y
same_head x y xs ys e = cc

-- ---- a step adds one entry at most

one_more : (more h g : List Entry) → length g ≤ suc (length h) → g ≡ more ++ h → (g ≡ h) ⊎ ((e : Entry) × (g ≡ e ∷ h))
one_more [] h g few is = inl is
one_more (e ∷ []) h g few is = inr (e, is)
one_more (e ∷ (x ∷ more)) h g few is =
    let long : length g ≡ suc (suc (length more)) + length h = ap length is ∙ length-append (e ∷ (x ∷ more)) h in absurd (omega (arith, few, long))

-- ---- lists

-- what is longer than a list doesn't begin it
not_longer : (x : Entry) (more h g : List Entry) → g ≡ x ∷ (more ++ h) → ¬ (Begins g h)
not_longer x more h g is b =
    let long : length g ≡ suc (length more + length h) = ap length is ∙ ap suc (length-append more h) in
    let short : length h ≡ length b.0 + length g = ap length b.1 ∙ length-append b.0 g in absurd (omega (arith, long, short))

module _ (world : ℕ → World) (n : ℕ) (run : IsSeenRun world n) where
  seen_at : (t : ℕ) → t ≤ n → IsSeenWorld (world t)
  seen_at zero le = run.begins
  seen_at (suc t) le = (run.each t (omega (arith, le))).1.still

  sees : (t : ℕ) (lt : t < n) → let s = run.each t lt in (s.1.new.looks ≡ (world t).trace ∷ s.1.old.looks) × (s.1.new.trace ≡ (world (suc t)).trace)
  sees t lt = let s = run.each t lt in seen_step_sees_all s.0 (world t) (world (suc t)) (seen_at t (omega (arith, lt))) s.1

  -- a step leaves the history as it was, or adds an entry
  grows : (t : ℕ) → t < n → (history_at world (suc t) ≡ history_at world t) ⊎ ((e : Entry) × (history_at world (suc t) ≡ e ∷ history_at world t))
  grows t lt =
      let s = run.each t lt in let saw = sees t lt in
      let look : List Event = s.1.more ++ s.1.old.trace in
      let same : look ≡ (world t).trace = same_head look (world t).trace s.1.old.looks s.1.old.looks (sym s.1.looked ∙ saw.0) in
      let next : (world (suc t)).trace ≡ s.1.own ++ (world t).trace = sym saw.1 ∙ (s.1.now ∙ ap (λ h. s.1.own ++ h) same) in
      let before = ap (λ h. length (event.seen h)) same in let after = ap (λ h. length (event.seen h)) saw.1 in let few = s.1.few in
      let more = seen_begins (world t).trace (world (suc t)).trace (s.1.own, next) in
      one_more more.0 (history_at world t) (history_at world (suc t)) (omega (arith, before, after, few)) more.1

  -- ---- where a history came, and where an entry came in

  pub came : (s u : ℕ) (h more : List Entry) → s ≤ u → u ≤ n → Begins (history_at world s) h → history_at world u ≡ more ++ h → (t : ℕ) × (s ≤ t) × (t ≤ u) × (history_at world t ≡ h)
  came s u h [] le in_run from is = (u, le, omega arith, is)
  came s zero h (x ∷ more) le in_run from is = absurd (not_longer x more h (history_at world s) (ap (λ t. history_at world t) (let e : s ≡ 0 = omega (arith, le) in e) ∙ is) from)
  came s (suc u) h (x ∷ more) le in_run from is = ⊎_elim
      (λ e. absurd (not_longer x more h (history_at world s) (ap (λ t. history_at world t) e ∙ is) from))
      (λ ne. let low : s ≤ u = omega (arith, le, ne) in let within : u ≤ n = omega (arith, in_run) in ⊎_elim
      (λ same. wider (came s u h (x ∷ more) low within from (sym same ∙ is)))
      (λ new. wider (came s u h more low within from (same_tail new.0 x (history_at world u) (more ++ h) (sym new.1 ∙ is))))
      (grows u (omega (arith, in_run))))
      (cases_eq s (suc u))
    where
      wider : (t : ℕ) × (s ≤ t) × (t ≤ u) × (history_at world t ≡ h) → (t : ℕ) × (s ≤ t) × (t ≤ suc u) × (history_at world t ≡ h)
      wider c = let le = c.2 in (c.0, c.1, omega (arith, le), c.3)

  abbrev Enters : ℕ → ℕ → Entry → List Entry → Type 0
  Enters s u e h = (t : ℕ) × (s ≤ t) × (t < u) × (history_at world t ≡ h) × (history_at world (suc t) ≡ e ∷ h)

  one_later : (s u : ℕ) (e : Entry) (h : List Entry) → Enters s u e h → Enters s (suc u) e h
  one_later s u e h c = let lt = c.2 in (c.0, c.1, omega (arith, lt), c.3, c.4)

  not_yet : (more h : List Entry) (e : Entry) (g : List Entry) → g ≡ more ++ (e ∷ h) → ¬ (Begins g h)
  not_yet more h e g is b =
      let long : length g ≡ length more + suc (length h) = ap length is ∙ length-append more (e ∷ h) in
      let short : length h ≡ length b.0 + length g = ap length b.1 ∙ length-append b.0 g in absurd (omega (arith, long, short))

  pub entered : (s u : ℕ) (e : Entry) (h more : List Entry) → s ≤ u → u ≤ n → Begins (history_at world s) h → history_at world u ≡ more ++ (e ∷ h) → Enters s u e h
  entered s zero e h more le in_run from is = absurd (not_yet more h e (history_at world s) (ap (λ t. history_at world t) (let x : s ≡ 0 = omega (arith, le) in x) ∙ is) from)
  entered s (suc u) e h more le in_run from is = ⊎_elim
      (λ same. absurd (not_yet more h e (history_at world s) (ap (λ t. history_at world t) same ∙ is) from))
      (λ ne. let low : s ≤ u = omega (arith, le, ne) in let within : u ≤ n = omega (arith, in_run) in
      by_step more is low (λ rest is'. entered s u e h rest low within from is') (grows u (omega (arith, in_run))))
      (cases_eq s (suc u))
    where
      by_step : (more : List Entry) → history_at world (suc u) ≡ more ++ (e ∷ h) → s ≤ u → ((rest : List Entry) → history_at world u ≡ rest ++ (e ∷ h) → Enters s u e h)
          → (history_at world (suc u) ≡ history_at world u) ⊎ ((x : Entry) × (history_at world (suc u) ≡ x ∷ history_at world u)) → Enters s (suc u) e h
      by_step more is low again (inl same) = one_later s u e h (again more (sym same ∙ is))
      by_step [] is low again (inr new) = (u, low, omega arith, same_tail new.0 e (history_at world u) h (sym new.1 ∙ is), is)
      by_step (x ∷ more) is low again (inr new) = one_later s u e h (again more (same_tail new.0 x (history_at world u) (more ++ (e ∷ h)) (sym new.1 ∙ is)))

  -- ---- the steps of a call

  -- the first step of a call and its last one
  pub record Takes (from to : ℕ) (w : View) (start : List Event) : Type 0 where
    pub first : ℕ
    pub last : ℕ
    pub since : from ≤ first
    pub onward : first ≤ last
    pub until : last < to
    pub began : start ≡ (world first).trace
    pub ended : w.trace ≡ (world (suc last)).trace

  not_same : (later : List (List Event)) (start : List Event) (looks : List (List Event)) → ¬ (looks ≡ later ++ (start ∷ looks))
  not_same later start looks is =
      let long : length looks ≡ length later + suc (length looks) = ap length is ∙ length-append later (start ∷ looks) in absurd (omega (arith, long))

  -- the same of a shorter part of the run
  abbrev Again : ℕ → ℕ → ℕ → View → List Event → Type 0
  Again p from t v start = (w : View) (rest : List (List Event)) → get_elem? (world t).views p ≡ some w → w.looks ≡ rest ++ (start ∷ v.looks) → Takes from t w start

  pub takes : (p from to : ℕ) (v w : View) (later : List (List Event)) (start : List Event) → from ≤ to → to ≤ n → get_elem? (world from).views p ≡ some v → get_elem? (world to).views p ≡ some w
      → w.looks ≡ later ++ (start ∷ v.looks) → Takes from to w start
  takes p from zero v w later start le in_run at at' looked =
      let same : v ≡ w = some-injective v w (sym at ∙ (ap (λ t. get_elem? (world t).views p) (let x : from ≡ 0 = omega (arith, le) in x) ∙ at')) in
      absurd (not_same later start v.looks (ap (λ (x : View). x.looks) same ∙ looked))
  takes p from (suc t) v w later start le in_run at at' looked = ⊎_elim
      (λ e. let same : v ≡ w = some-injective v w (sym at ∙ (ap (λ m. get_elem? (world m).views p) e ∙ at')) in
      absurd (not_same later start v.looks (ap (λ (x : View). x.looks) same ∙ looked)))
      (λ ne. let low : from ≤ t = omega (arith, le, ne) in
      by_step low (λ w' rest there looked'. takes p from t v w' rest start low (omega (arith, in_run)) at there looked') (cases_eq p s.0))
      (cases_eq from (suc t))
    where
      lt : t < n
      lt = omega (arith, in_run)

      s : (pass : ℕ) × IsSeenStep pass (world t) (world (suc t))
      s = run.each t lt

      by_looks : (later : List (List Event)) (old : View) → from ≤ t → Again p from t v start
          → get_elem? (world t).views p ≡ some old → later ++ (start ∷ v.looks) ≡ (world t).trace ∷ old.looks
          → w.trace ≡ (world (suc t)).trace → Takes from (suc t) w start
      by_looks [] old low again there is now = record {
        first = t;
        last = t;
        since = low;
        onward = omega arith;
        until = omega arith;
        began = same_head start (world t).trace v.looks old.looks is;
        ended = now;
      }
      by_looks (l ∷ later) old low again there is now =
          let early = again old later there (sym (same_tail l (world t).trace (later ++ (start ∷ v.looks)) old.looks is)) in
          let until = early.until in let onward = early.onward in
          record { first = early.first; last = t; since = early.since; onward = omega (arith, onward, until); until = omega arith; began = early.began; ended = now }

      by_step : from ≤ t → Again p from t v start → (p ≡ s.0) ⊎ (p ≢ s.0) → Takes from (suc t) w start
      by_step low again (inl e) =
          let old : View = s.1.old in let new : View = s.1.new in
          let there : get_elem? (world t).views p ≡ some old = subst (λ m. get_elem? (world t).views m ≡ some old) (sym e) s.1.there in
          let here : get_elem? (world (suc t)).views p ≡ some new = ap (λ l. get_elem? l p) s.1.apart
          ∙ subst (λ m. get_elem? (set (world t).views s.0 new) m ≡ some new) (sym e)
          (set_here (world t).views s.0 new (inside_list (world t).views s.0 old s.1.there)) in
          let same : w ≡ new = some-injective w new (sym at' ∙ here) in let saw = sees t lt in
          by_looks later old low again there (sym looked ∙ (ap (λ (x : View). x.looks) same ∙ saw.0)) (ap (λ (x : View). x.trace) same ∙ saw.1)
      by_step low again (inr ne) =
          let there : get_elem? (world t).views p ≡ some w = sym (set_else (world t).views s.0 p s.1.new ne) ∙ (ap (λ l. get_elem? l p) (sym s.1.apart) ∙ at') in
          let early = again w later there looked in let until = early.until in
          record { first = early.first; last = early.last; since = early.since; onward = early.onward; until = omega (arith, until); began = early.began; ended = early.ended }
