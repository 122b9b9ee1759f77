-- Calls of all shards stand in one order: each has a point of the run of all shards,
-- since it has one of the run of its own.
use Rattle.std.proofs.Common.{◌≡◌, ◌≢◌, ℕ, suc, ◌+◌, ◌*◌, ◌<◌, ◌≤◌, ◌==◌, Bool, true, false, All, IsPermutation, List, [], ◌∷◌, ◌++◌, length, length-append, map, sym, refl, ap, ◌∙◌, subst, inl, inr, ⊎_elim, arith}
use Rattle.std.proofs.lemmas.Bool.{cases_lt, eqb-true}
use Rattle.std.proofs.lemmas.List.Elements.{All-cons, All-head, All-nil, All-tail}
use Rattle.std.proofs.lemmas.List.Sorted.{All-permutation, IsPermutation-map, IsPermutation-sym}
use mathlib.Core.Option.{some, some-injective}
use lib.ListN.{get_elem?}
use Rattle.segword.specs.Words.{Shape}
use Rattle.segmodel.specs.declared.entry.Entry.TheVariants.{Wrote}
use Rattle.segmodel.specs.Words.{after, Entry, reads, reads_version}
use Rattle.segcore.specs.Event as event
use Rattle.segcore.specs.Words.{Event, View, World}
use Rattle.segbase.specs.Words.{view}
use Rattle.segindex.specs.Linearizable.{Call, Effect, gets_value, gets_version, IsCallOf, IsOrdered, IsPlaced, IsRightAt, MayPrecede, Placed, writes}
use Rattle.segindex.specs.Linearizable as linear
use Rattle.segindex.proofs.Linear.{linearizable}
use Rattle.segshards.specs.Locality.{call_of, calls_in, CallsAreInOneOrder, IsRunOfShards, IsShardCallOf, placed_in, ShardCall, ShardPlaced, with_one}
use Rattle.segshards.proofs.Clock.{before, came, grows, here, latest, own_run, own_world, same_world, since, when}
use Rattle.segshards.proofs.ShardOrder.{Comes, in_order, Sorted}

-- whose entry a history ends with, if that is a write's
abbrev writer : List Entry → ℕ
writer (Wrote pass request said segment ∷ history) = pass
writer history = 0

-- ---- one call of an index has a point

-- a call that has a point in these worlds
abbrev Pointed : Shape → (ℕ → World) → Call → Type 0
Pointed z world call = (point : ℕ) × IsPlaced z world (record { call = call; point = point })

all_pointed : (z : Shape) (world : ℕ → World) (order : List Placed) → All (IsPlaced z world) order → All (Pointed z world) (map (λ placed. placed.call) order)
all_pointed z world [] all = All-nil (Pointed z world)
all_pointed z world (placed ∷ order) all =
    All-cons (Pointed z world) placed.call (map (λ placed. placed.call) order) (
      placed.point,
      All-head (IsPlaced z world) placed order all,
    )
    (all_pointed z world order (All-tail (IsPlaced z world) placed order all))

-- ---- a call takes a step

not_same : (later : List (List Event)) (start : List Event) (looks : List (List Event)) → ¬ (looks ≡ later ++ (start ∷ looks))
not_same later start looks is =
    let long : length looks ≡ length later + suc (length looks) = ap length is ∙ length-append later (start ∷ looks) in absurd (omega (arith, long))

takes_step : (z : Shape) (world : ℕ → World) (steps : ℕ) (call : Call) → IsCallOf z world steps call → call.began < call.returned
takes_step z world steps call is = ⊎_elim
    (λ lt. lt)
    (λ ge. let le = is.in_time.0 in let e : call.began ≡ call.returned = omega (arith, le, ge) in
    let same : view is.before ≡ view is.after = some-injective (view is.before) (view is.after) (sym is.began ∙ (ap (λ t. get_elem? (world t).views call.pass) e ∙ is.returned)) in
    absurd (not_same is.had.1.later is.had.0 (view is.before).looks (ap (λ (v : View). v.looks) same ∙ is.had.1.looked)))
    (cases_lt call.began call.returned)

module _ (z : Shape) (count : ℕ) (world : ℕ → ℕ → World) (steps : ℕ) (run : IsRunOfShards count world steps) where
  -- ---- a call in the run of its shard

  abbrev steps_of : ℕ → ℕ → ℕ
  steps_of n t = came run.taken n t

  abbrev worlds_of : ℕ → ℕ → World
  worlds_of n = own_world count world steps run n

  abbrev own_call : ShardCall → Call
  own_call it = record {
    pass = it.call.pass;
    began = steps_of it.shard it.call.began;
    returned = steps_of it.shard it.call.returned;
    effect = it.call.effect;
  }

  is_own : (it : ShardCall) → IsShardCallOf z count world steps it → IsCallOf z (worlds_of it.shard) (steps_of it.shard steps) (own_call it)
  is_own it is =
      let call = is.1 in let le = call.in_time.0 in let in_run = call.in_time.1 in record {
        in_time = (grows run.taken it.shard it.call.began it.call.returned le, grows run.taken it.shard it.call.returned steps in_run);
        before = call.before;
        after = call.after;
        number = call.number;
        began = subst (λ (w : World). get_elem? w.views it.call.pass ≡ some (view call.before)) (here count world steps run it.shard it.call.began (omega (arith, le, in_run))) call.began;
        returned = subst (λ (w : World). get_elem? w.views it.call.pass ≡ some (view call.after)) (here count world steps run it.shard it.call.returned in_run) call.returned;
        had = call.had;
      }

  own_point : (it : ShardCall) → IsShardCallOf z count world steps it → Pointed z (worlds_of it.shard) (own_call it)
  own_point it is =
      let n = it.shard in
      let all = linearizable z (worlds_of n) (steps_of n steps) (own_call it ∷ [])
      (own_run count world steps run n is.0) (All-cons (IsCallOf z (worlds_of n) (steps_of n steps))
      (own_call it) [] (is_own it is) (All-nil (IsCallOf z (worlds_of n) (steps_of n steps)))) in
      All-head (Pointed z (worlds_of n)) (own_call it) []
      (All-permutation (Pointed z (worlds_of n)) (map (λ (p : Placed). p.call) all.order) (own_call it ∷ [])
      (IsPermutation-sym (own_call it ∷ []) (map (λ (p : Placed). p.call) all.order) all.all)
      (all_pointed z (worlds_of n) all.order all.each))

  -- ---- its point in the run of all

  record HasPoint (n pass from to : ℕ) (effect : Effect) : Type 0 where
    pub point : ℕ
    pub since : 2 * from ≤ linear.place effect point
    pub until : linear.place effect point ≤ 2 * to
    pub right : IsRightAt z pass effect (event.seen (world n point).trace) (event.seen (world n (suc point)).trace)

  abbrev OwnRight : ℕ → ℕ → Effect → ℕ → Type 0
  OwnRight n pass effect k = IsRightAt z pass effect (event.seen (worlds_of n k).trace) (event.seen (worlds_of n (suc k)).trace)

  -- the world of the shard after so many of its steps, at the last moment of the call with as many
  there : (n to k : ℕ) → to ≤ steps → k ≤ steps_of n to → worlds_of n k ≡ world n (when run.taken n to k)
  there n to k in_run le =
      let up = grows run.taken n to steps in_run in
      let own = latest run.taken n steps k (omega (arith, le, up)) in let is = latest run.taken n to k le in let until = is.until in
      same_world count world steps run n (when run.taken n steps k) (when run.taken n to k) own.until (omega (arith, until, in_run)) (own.is ∙ sym is.is)

  all_point : (n pass from to : ℕ) (effect : Effect) (k : ℕ) → from ≤ to → to ≤ steps
      → 2 * steps_of n from ≤ linear.place effect k → linear.place effect k ≤ 2 * steps_of n to
      → OwnRight n pass effect k → HasPoint n pass from to effect
  all_point n pass from to (gets_value key now read) k le in_run low high right =
      let few : k ≤ steps_of n to = omega (arith, high) in
      let is = latest run.taken n to k few in let until = is.until in
      let onward = since run.taken n to k (when run.taken n to k) from is le (omega (arith, low)) in record {
        point = when run.taken n to k;
        since = omega (arith, onward);
        until = omega (arith, until);
        right = subst (λ (w : World). reads (after z (event.seen w.trace)) now key ≡ read) (there n to k in_run few) right;
      }
  all_point n pass from to (gets_version key now read) k le in_run low high right =
      let few : k ≤ steps_of n to = omega (arith, high) in
      let is = latest run.taken n to k few in let until = is.until in
      let onward = since run.taken n to k (when run.taken n to k) from is le (omega (arith, low)) in record {
        point = when run.taken n to k;
        since = omega (arith, onward);
        until = omega (arith, until);
        right = subst (λ (w : World). reads_version z (after z (event.seen w.trace)) now key ≡ read) (there n to k in_run few) right;
      }
  all_point n pass from to (writes request said) k le in_run low high right =
      let few : k < steps_of n to = omega (arith, high) in
      let t = when run.taken n to k in
      let is = latest run.taken n to k (omega (arith, few)) in
      let early = before run.taken n to k t is few in
      let onward = since run.taken n to k t from is le (omega (arith, low)) in
      let own = latest run.taken n steps (suc k) (let up = grows run.taken n to steps in_run in omega (arith, few, up)) in
      let next : worlds_of n (suc k) ≡ world n (suc t) =
      same_world count world steps run n (when run.taken n steps (suc k)) (suc t) own.until
      (omega (arith, early, in_run)) (own.is ∙ sym (is.next early)) in record {
        point = t;
        since = omega (arith, onward);
        until = omega (arith, early);
        right = subst (λ (w : World). IsRightAt z pass (writes request said) (event.seen w.trace) (event.seen (world n (suc t)).trace)) (there n to k in_run (omega (arith, few)))
            (subst (λ (w : World). IsRightAt z pass (writes request said) (event.seen (worlds_of n k).trace) (event.seen w.trace)) next right);
      }

  -- ---- in order

  abbrev IsRight : ShardPlaced → Type 0
  IsRight it = IsPlaced z (world it.shard) it.placed

  -- a call with its point, which takes a step
  abbrev IsSound : ShardPlaced → Type 0
  IsSound it = IsRight it × (it.placed.call.began < it.placed.call.returned) × (it.placed.call.returned ≤ steps)

  placed : (call : ShardCall) → IsShardCallOf z count world steps call → (it : ShardPlaced) × (call_of it ≡ call) × IsSound it
  placed it is =
      let own = own_point it is in
      let at = all_point it.shard it.call.pass it.call.began it.call.returned it.call.effect own.0 is.1.in_time.0 is.1.in_time.1 own.1.since own.1.until own.1.right in (
        record { shard = it.shard; placed = record { call = it.call; point = at.point } },
        refl,
        (
          record { since = at.since; until = at.until; right = at.right },
          takes_step z (world it.shard) steps it.call is.1,
          is.1.in_time.1,
        ),
      )

  record ArePlaced (calls : List ShardCall) : Type 0 where
    pub placed : List ShardPlaced
    pub same : map call_of placed ≡ calls
    pub sound : All IsSound placed

  all_placed : (calls : List ShardCall) → All (IsShardCallOf z count world steps) calls → ArePlaced calls
  all_placed [] all = record { placed = []; same = refl; sound = All-nil IsSound }
  all_placed (call ∷ calls) all =
      let first = placed call (All-head (IsShardCallOf z count world steps) call calls all) in let rest = all_placed calls (All-tail (IsShardCallOf z count world steps) call calls all) in
      record { placed = first.0 ∷ rest.placed; same = (λ j. first.1 j ∷ rest.same j); sound = All-cons IsSound first.0 rest.placed first.2 rest.sound }

  -- ---- at one point one shard takes a step, so two writes there are of one pass

  abbrev history_of : ℕ → ℕ → List Entry
  history_of n t = event.seen (world n t).trace

  stepped : (n t : ℕ) (entry : Entry) → t < steps → history_of n (suc t) ≡ entry ∷ history_of n t → n ≡ run.taken t
  stepped n t entry few grew = ⊎_elim
      (λ lt. absurd (still (λ same. omega (arith, lt, same))))
      (λ ge. ⊎_elim (λ lt. absurd (still (λ same. omega (arith, lt, same)))) (λ le. omega (arith, ge, le)) (cases_lt (run.taken t) n))
      (cases_lt n (run.taken t))
    where
      still : n ≢ run.taken t → ⊥
      still other =
          let longer : length (history_of n (suc t)) ≡ suc (length (history_of n t)) = ap length grew in
          let same : length (history_of n (suc t)) ≡ length (history_of n t) = ap (λ (w : World). length (event.seen w.trace)) (run.apart t n few other) in
          omega (arith, longer, same)

  one_writer : (m n pass other : ℕ) (effect effect' : Effect) (at at' point : ℕ) → point < steps → linear.place effect at ≡ 2 * point + 1 → linear.place effect' at' ≡ 2 * point + 1
      → IsRightAt z pass effect (history_of m at) (history_of m (suc at)) → IsRightAt z other effect' (history_of n at') (history_of n (suc at')) → pass ≡ other
  one_writer m n pass other (writes request said) (writes request' said') at at' point few here here' right right' =
      let same : at ≡ at' = omega (arith, here, here') in
      let one = stepped m at (Wrote pass request said right.1.0) (omega (arith, few, here)) right.1.1 in
      let two = stepped n at' (Wrote other request' said' right'.1.0) (omega (arith, few, here')) right'.1.1 in
      let shard : m ≡ n = one ∙ (ap run.taken same ∙ sym two) in
      ap writer (sym right.1.1 ∙ (ap (λ t. history_of m (suc t)) same ∙ (ap (λ k. history_of k (suc at')) shard ∙ right'.1.1)))
  one_writer m n pass other (writes request said) (gets_value key now read) at at' point few here here' right right' = absurd (omega (arith, here'))
  one_writer m n pass other (writes request said) (gets_version key now read) at at' point few here here' right right' = absurd (omega (arith, here'))
  one_writer m n pass other (gets_value key now read) effect' at at' point few here here' right right' = absurd (omega (arith, here))
  one_writer m n pass other (gets_version key now read) effect' at at' point few here here' right right' = absurd (omega (arith, here))

  abbrev place_of : ShardPlaced → ℕ
  place_of it = linear.place it.placed.call.effect it.placed.point

  own_points : (a b : ShardPlaced) → IsSound a → IsSound b → (point : ℕ) → place_of a ≡ 2 * point + 1
      → place_of b ≡ 2 * point + 1 → (a.placed.call.pass ≡ b.placed.call.pass)
      × (b.placed.call.began < a.placed.call.returned)
  own_points a b s t point here here' = let high = s.0.until in let low = t.0.since in let end = s.2 in (
    one_writer a.shard b.shard a.placed.call.pass b.placed.call.pass a.placed.call.effect b.placed.call.effect
        a.placed.point b.placed.point point (omega (arith, here, high, end)) here here' s.0.right t.0.right,
    omega (arith, here, here', high, low),
  )

  -- of two calls in order the second hadn't returned when the first began
  precedes : (a b : ShardPlaced) → IsSound a → IsSound b → Comes a b → MayPrecede a.placed b.placed
  precedes a b s t (inl lt) = let low = s.0.since in let high = t.0.until in (omega (arith, lt), (λ back. omega (arith, lt, low, high, back)), own_points a b s t)
  precedes a b s t (inr same) = let e = same.0 in let order = same.1 in let took = t.1 in (omega (arith, e), (λ back. omega (arith, order, took, back)), own_points a b s t)

  all_precede : (a : ShardPlaced) (l : List ShardPlaced) → IsSound a → All IsSound l → All (Comes a) l → All (MayPrecede a.placed) (map (λ it. it.placed) l)
  all_precede a [] s t c = All-nil (MayPrecede a.placed)
  all_precede a (b ∷ l) s t c = All-cons (MayPrecede a.placed) b.placed (map (λ (it : ShardPlaced). it.placed) l)
      (precedes a b s (All-head IsSound b l t) (All-head (Comes a) b l c))
      (all_precede a l s (All-tail IsSound b l t) (All-tail (Comes a) b l c))

  ordered : (l : List ShardPlaced) → All IsSound l → Sorted l → IsOrdered (map (λ it. it.placed) l)
  ordered [] s c = tt
  ordered (a ∷ l) s c = (all_precede a l (All-head IsSound a l s) (All-tail IsSound a l s) c.0, ordered l (All-tail IsSound a l s) c.1)

  -- ---- those of one shard

  right_if : (b : Bool) (n : ℕ) (it : ShardPlaced) (l : List Placed) → b ≡ (it.shard == n) → IsRight it → All (IsPlaced z (world n)) l → All (IsPlaced z (world n)) (with_one b it.placed l)
  right_if true n it l is right all = All-cons (IsPlaced z (world n)) it.placed l (subst (λ m. IsPlaced z (world m) it.placed) (eqb-true it.shard n (sym is)) right) all
  right_if false n it l is right all = all

  all_right : (n : ℕ) (l : List ShardPlaced) → All IsSound l → All (IsPlaced z (world n)) (placed_in n l)
  all_right n [] s = All-nil (IsPlaced z (world n))
  all_right n (it ∷ l) s = right_if (it.shard == n) n it (placed_in n l) refl (All-head IsSound it l s).0 (all_right n l (All-tail IsSound it l s))

-- what is so of all is so of those of one shard
all_if : (P : Placed → Type 0) (b : Bool) (p : Placed) (l : List Placed) → P p → All P l → All P (with_one b p l)
all_if P true p l one all = All-cons P p l one all
all_if P false p l one all = all

all_in : (P : Placed → Type 0) (n : ℕ) (l : List ShardPlaced) → All P (map (λ it. it.placed) l) → All P (placed_in n l)
all_in P n [] all = All-nil P
all_in P n (it ∷ l) all =
    let rest = map (λ (x : ShardPlaced). x.placed) l in
    all_if P (it.shard == n) it.placed (placed_in n l) (All-head P it.placed rest all) (all_in P n l (All-tail P it.placed rest all))

ordered_if : (b : Bool) (p : Placed) (l : List Placed) → All (MayPrecede p) l → IsOrdered l → IsOrdered (with_one b p l)
ordered_if true p l all rest = (all, rest)
ordered_if false p l all rest = rest

ordered_in : (n : ℕ) (l : List ShardPlaced) → IsOrdered (map (λ it. it.placed) l) → IsOrdered (placed_in n l)
ordered_in n [] is = tt
ordered_in n (it ∷ l) is = ordered_if (it.shard == n) it.placed (placed_in n l) (all_in (MayPrecede it.placed) n l is.0) (ordered_in n l is.1)

abbrev one_call : Placed → Call
one_call placed = placed.call

same_if : (b : Bool) (p : Placed) (l : List Placed) (calls : List Call) → calls ≡ map one_call l → with_one b p.call calls ≡ map one_call (with_one b p l)
same_if true p l calls same = λ j. p.call ∷ same j
same_if false p l calls same = same

same_in : (n : ℕ) (l : List ShardPlaced) → calls_in n (map call_of l) ≡ map one_call (placed_in n l)
same_in n [] = refl
same_in n (it ∷ l) = same_if (it.shard == n) it.placed (placed_in n l) (calls_in n (map call_of l)) (same_in n l)

pub in_one_order : CallsAreInOneOrder
in_one_order z count world steps calls run all =
    let at = all_placed z count world steps run calls all in let put = in_order at.placed in
    let sound = All-permutation (IsSound z count world steps run) at.placed put.order put.same.same at.sound in
    let in_time = ordered z count world steps run put.order sound put.sorted in record {
      order = put.order;
      all = subst (λ l. IsPermutation l (map call_of put.order)) at.same (IsPermutation-map call_of at.placed put.order put.same.same);
      in_time = in_time;
      shards = λ n. (
        record {
          order = placed_in n put.order;
          all = subst (λ l. IsPermutation l (map one_call (placed_in n put.order))) (sym (same_in n at.placed) ∙ ap (calls_in n) at.same)
              (IsPermutation-map one_call (placed_in n at.placed) (placed_in n put.order) (put.same.parts n));
          each = all_right z count world steps run n put.order sound;
          in_time = ordered_in n put.order in_time;
        },
        refl,
      );
    }
