-- Calls are linearizable: each has a point in its time, and by their points they are in order.
use Rattle.std.proofs.Common.{◌≡◌, ℕ, suc, ◌+◌, ◌*◌, ◌<◌, ◌≤◌, All, IsPermutation, List, [], ◌∷◌, map, sym, refl, ap, ◌∙◌, subst, inl, inr, arith}
use Rattle.std.proofs.lemmas.List.Elements.{All-cons, All-head, All-nil, All-tail, All-weaker}
use Rattle.std.proofs.lemmas.List.Sorted.{All-permutation, IsPermutation-map}
use Rattle.segword.specs.Words.{Shape}
use Rattle.segmodel.specs.Words.{after, Begins, Entry, reads, reads_version, reply_in}
use Rattle.segmodel.specs.declared.entry.Entry.TheVariants.{Wrote}
use Rattle.segcore.specs.Event as event
use Rattle.segcore.specs.Words.{IsSeenRun, World}
use Rattle.segbase.specs.Words.{seen, view}
use Rattle.segindex.specs.Linearizable.{Call, CallsAreLinearizable, Effect, gets_value, gets_version, HasEffect, IsCallOf, IsOrdered, IsPlaced, IsRightAt, MayPrecede, Placed, writes}
use Rattle.segindex.specs.Linearizable as linear
use Rattle.segindex.proofs.Moments.{came, entered, history_at, takes}
use Rattle.segindex.proofs.Ordering.{call_of, Comes, in_order, Sorted}

-- whose entry a history ends with, if that is a write's
abbrev writer : List Entry → ℕ
writer (Wrote pass request said segment ∷ history) = pass
writer history = 0

module _ (z : Shape) (world : ℕ → World) (n : ℕ) (run : IsSeenRun world n) where
  -- the point of an effect, from the first step of its call on
  record HasPoint (pass from to : ℕ) (effect : Effect) : Type 0 where
    pub point : ℕ
    pub since : 2 * from ≤ linear.place effect point
    pub until : linear.place effect point ≤ 2 * to
    pub right : IsRightAt z pass effect (history_at world point) (history_at world (suc point))

  pointed : (pass from to : ℕ) (effect : Effect) (old new : List Entry) → from ≤ to → to ≤ n
      → history_at world from ≡ old → history_at world to ≡ new → HasEffect z pass effect old new
      → HasPoint pass from to effect
  pointed pass from to (gets_value key now read) old new le in_run is is' e =
      let at = came world n run from to e.0 e.1.1.0 le in_run (subst (λ h. Begins h e.0) (sym is) e.1.0) (is' ∙ e.1.1.1) in
      let low = at.1 in let high = at.2 in record { point = at.0; since = omega (arith, low); until = omega (arith, high); right = ap (λ h. reads (after z h) now key) at.3 ∙ e.2 }
  pointed pass from to (gets_version key now read) old new le in_run is is' e =
      let at = came world n run from to e.0 e.1.1.0 le in_run (subst (λ h. Begins h e.0) (sym is) e.1.0) (is' ∙ e.1.1.1) in
      let low = at.1 in let high = at.2 in record { point = at.0; since = omega (arith, low); until = omega (arith, high); right = ap (λ h. reads_version z (after z h) now key) at.3 ∙ e.2 }
  pointed pass from to (writes request said) old new le in_run is is' e =
      let segment = e.0 in let h = e.1.0 in let told = e.1.1 in let entry : Entry = Wrote pass request said segment in
      let at = entered world n run from to entry h told.entered.0 le in_run (subst (λ g. Begins g h) (sym is) told.since) (is' ∙ told.entered.1) in
      let low = at.1 in let high = at.2 in record {
        point = at.0;
        since = omega (arith, low);
        until = omega (arith, high);
        right = (told.replied ∙ ap (λ g. reply_in z (after z g) request) (sym at.3), (segment, at.4 ∙ ap (λ g. entry ∷ g) (sym at.3)));
      }

  -- a call with its point, which takes a step
  abbrev IsSound : Placed → Type 0
  IsSound placed = IsPlaced z world placed × (placed.call.began < placed.call.returned)

  placed : (call : Call) → IsCallOf z world n call → (it : Placed) × (it.call ≡ call) × IsSound it
  placed call is =
      let start = is.had.0 in let starts = is.had.1 in
      let steps = takes world n run call.pass call.began call.returned (view is.before) (view is.after) starts.later start is.in_time.0 is.in_time.1 is.began is.returned starts.looked in
      let since = steps.since in let onward = steps.onward in let until = steps.until in let in_run = is.in_time.1 in
      let at = pointed call.pass steps.first (suc steps.last) call.effect (event.seen start) (seen is.after)
      (omega (arith, onward)) (omega (arith, until, in_run)) (ap event.seen (sym steps.began))
      (ap event.seen (sym steps.ended)) (subst (λ m. HasEffect z m call.effect (event.seen start)
      (seen is.after)) is.number is.had.2) in
      let low = at.since in let high = at.until in
      (record { call = call; point = at.point }, refl, (record { since = omega (arith, low, since); until = omega (arith, high, until); right = at.right }, omega (arith, since, onward, until)))

  record ArePlaced (calls : List Call) : Type 0 where
    pub placed : List Placed
    pub same : map call_of placed ≡ calls
    pub sound : All IsSound placed

  all_placed : (calls : List Call) → All (IsCallOf z world n) calls → ArePlaced calls
  all_placed [] all = record { placed = []; same = refl; sound = All-nil IsSound }
  all_placed (call ∷ calls) all =
      let first = placed call (All-head (IsCallOf z world n) call calls all) in let rest = all_placed calls (All-tail (IsCallOf z world n) call calls all) in
      record { placed = first.0 ∷ rest.placed; same = (λ j. first.1 j ∷ rest.same j); sound = All-cons IsSound first.0 rest.placed first.2 rest.sound }

  -- at one point two writes add one entry, so they are of one pass
  one_writer : (pass other : ℕ) (effect effect' : Effect) (at at' point : ℕ)
      → linear.place effect at ≡ 2 * point + 1 → linear.place effect' at' ≡ 2 * point + 1
      → IsRightAt z pass effect (history_at world at) (history_at world (suc at))
      → IsRightAt z other effect' (history_at world at') (history_at world (suc at')) → pass ≡ other
  one_writer pass other (writes request said) (writes request' said') at at' point here here' right right' =
      let same : at ≡ at' = omega (arith, here, here') in
      ap writer (sym right.1.1 ∙ (ap (λ t. history_at world (suc t)) same ∙ right'.1.1))
  one_writer pass other (writes request said) (gets_value key now read) at at' point here here' right right' = absurd (omega (arith, here'))
  one_writer pass other (writes request said) (gets_version key now read) at at' point here here' right right' = absurd (omega (arith, here'))
  one_writer pass other (gets_value key now read) effect' at at' point here here' right right' = absurd (omega (arith, here))
  one_writer pass other (gets_version key now read) effect' at at' point here here' right right' = absurd (omega (arith, here))

  own_points : (a b : Placed) → IsSound a → IsSound b → (point : ℕ)
      → linear.place a.call.effect a.point ≡ 2 * point + 1 → linear.place b.call.effect b.point ≡ 2 * point + 1
      → (a.call.pass ≡ b.call.pass) × (b.call.began < a.call.returned)
  own_points a b s t point here here' = let high = s.0.until in let low = t.0.since in
      (one_writer a.call.pass b.call.pass a.call.effect b.call.effect a.point b.point point here here' s.0.right t.0.right, omega (arith, here, here', high, low))

  -- of two calls in order the second hadn't returned when the first began
  precedes : (a b : Placed) → IsSound a → IsSound b → Comes a b → MayPrecede a b
  precedes a b s t (inl lt) = let low = s.0.since in let high = t.0.until in (omega (arith, lt), (λ back. omega (arith, lt, low, high, back)), own_points a b s t)
  precedes a b s t (inr same) = let e = same.0 in let order = same.1 in let took = t.1 in let low = s.0.since in
      let high = t.0.until in (omega (arith, e), (λ back. omega (arith, order, took, back)), own_points a b s t)

  all_precede : (a : Placed) (l : List Placed) → IsSound a → All IsSound l → All (Comes a) l → All (MayPrecede a) l
  all_precede a [] s t c = All-nil (MayPrecede a)
  all_precede a (b ∷ l) s t c = All-cons (MayPrecede a) b l (precedes a b s (All-head IsSound b l t) (All-head (Comes a) b l c)) (all_precede a l s (All-tail IsSound b l t) (All-tail (Comes a) b l c))

  ordered : (l : List Placed) → All IsSound l → Sorted l → IsOrdered l
  ordered [] s c = tt
  ordered (a ∷ l) s c = (all_precede a l (All-head IsSound a l s) (All-tail IsSound a l s) c.0, ordered l (All-tail IsSound a l s) c.1)

  all_right : (l : List Placed) → All IsSound l → All (IsPlaced z world) l
  all_right l s = All-weaker IsSound (IsPlaced z world) (λ a is. is.0) l s

pub linearizable : CallsAreLinearizable
linearizable z world n calls run all =
    let at = all_placed z world n run calls all in let put = in_order at.placed in
    let sound = All-permutation (IsSound z world n run) at.placed put.order put.same at.sound in record {
      order = put.order;
      all = subst (λ l. IsPermutation l (map call_of put.order)) at.same (IsPermutation-map call_of at.placed put.order put.same);
      each = all_right z world n run put.order sound;
      in_time = ordered z world n run put.order sound put.sorted;
    }
