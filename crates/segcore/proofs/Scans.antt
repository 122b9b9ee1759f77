-- A scan that finds what it seeks at none of its looks passed a point at which that was nowhere.
use Rattle.std.proofs.Common.{◌≡◌, ◌≢◌, ℕ, ◌+◌, ◌*◌, ◌%◌, ◌≤◌, cond, eqb, ◌⊎◌, List, [], ◌∷◌, ◌++◌, Option, Some, None, sym, refl, ap, ◌∙◌, subst, inl, inr, ⊎_elim, option_map, arith}
use Rattle.std.proofs.lemmas.Bool.{cases_Bool, cases_eq, cond-true, cond-false, eqb-true}
use Rattle.std.proofs.lemmas.Option.{same_Some, none-some}
use Rattle.segword.specs.Words.{Shape}
use Rattle.segmodel.specs.declared.request.Reply.TheVariants.{Stored, NotStored, Exists, NotFound, Deleted}
use Rattle.segmodel.specs.declared.entry.Entry.TheVariants as entry
use Rattle.segmodel.specs.Words.{Begins, bucket_of, Cached, Entry, key_of, Reply, Request}
use Rattle.segmodel.specs.Cache.{with_segment}
use Rattle.segcore.proofs.Caches.{put, stands, stands_wrote, stands_evicted, stands_moved}
use Rattle.segcore.specs.Mark.{same_key, Mark, enters, drawn, chained, at, bumped, entered, left, entries, chained_to, onward, place, last_at, IsAbsent, IsIn, IsAfterAt, IsWellMarked}
use Rattle.segcore.specs.Ahead.{WasGone, Ahead}
use Rattle.segcore.specs.Bucket.{Slot, slot}
use Rattle.segcore.specs.Scan.{IsNowhere, IsNotAt, position_after, IsScan, IsScanOf}
use Rattle.segcore.proofs.Moments.{begins_on}
use Rattle.segcore.proofs.Ahead.{ahead_later, ahead_passed, ahead_jump, ahead_end}
use Rattle.segcore.proofs.Keys.{key_true, same_true}

-- the key stands, and its place is m or a later one
pub record StandsFrom (z : Shape) (k : List ℕ) (m : ℕ) (h : List Mark) : Type 0 where
  pub item : Cached
  pub stands : stands z (entries h) k ≡ Some item
  pub at : ℕ
  pub place : place z h k ≡ Some at
  pub late : m ≤ at
  pub within : IsIn z h k at

still_in : (z : Shape) (k : List ℕ) (m : ℕ) (h g : List Mark) (s : StandsFrom z k m h) → (x : Cached)
    → stands z (entries g) k ≡ Some x → (n : ℕ) → place z g k ≡ Some n → s.at ≤ n → IsIn z g k n
    → StandsFrom z k m g
still_in z k m h g s x t n p le i = let a = s.late in record { item = x; stands = t; at = n; place = p; late = omega arith; within = i }

by_entry : (z : Shape) (k : List ℕ) (m : ℕ) (h : List Mark) (e : Entry) → StandsFrom z k m h → (o : Option Cached)
    → stands z (e ∷ entries h) k ≡ o → IsAbsent z (enters e ∷ h) k ⊎ StandsFrom z k m (enters e ∷ h)
by_entry z k m h e s None t = inl t
by_entry z k m h e s (Some x) t = inr (still_in z k m h (enters e ∷ h) s x t s.at s.place (omega arith) s.within)

one : (z : Shape) (k : List ℕ) (m : ℕ) (h : List Mark) (e : Mark) → IsWellMarked z (e ∷ h) → StandsFrom z k m h → IsAbsent z (e ∷ h) k ⊎ StandsFrom z k m (e ∷ h)
one z k m h (enters e) p s = by_entry z k m h e s (stands z (e ∷ entries h) k) refl
one z k m h (at k' t r n f) p s = inr (⊎_elim
    (λ y. let ek = key_true k' k y in
    let old : place z h k ≡ Some n = subst (λ (x : List ℕ). place z h x ≡ Some n) ek (p.1.1 (λ none. none-some s.item (sym none ∙ (ap (stands z (entries h)) ek ∙ s.stands)))) in
    let en : s.at ≡ n = same_Some s.at n (sym s.place ∙ old) in
    still_in z k m h (at k' t r n f ∷ h) s s.item s.stands n (cond-true (same_key k' k) (Some n) (place z h k) y) (omega arith) (rw (← en) s.within))
    (λ n'. still_in z k m h (at k' t r n f ∷ h) s s.item s.stands s.at (cond-false (same_key k' k) (Some n) (place z h k) n' ∙ s.place) (omega arith) s.within)
    (cases_Bool (same_key k' k)))
one z k m h (chained b) p s = inr (⊎_elim
    (λ y. let c = chained_to h b in let eb = eqb-true b (bucket_of z k) y in
    let more : chained_to (chained b ∷ h) (bucket_of z k) ≡ c + 1 =
    cond-true (eqb b (bucket_of z k)) (chained_to h (bucket_of z k) + 1) (chained_to h (bucket_of z k)) y
    ∙ ap (λ x. chained_to h x + 1) (sym eb) in
    let ec : chained_to h (bucket_of z k) ≡ c = ap (chained_to h) (sym eb) in
    let now : place z (chained b ∷ h) k ≡ Some (cond (eqb (8 * c + 7) s.at) (8 * c + 9) s.at) = cond-true (eqb b (bucket_of z k)) (onward c (place z h k)) (place z h k) y ∙ ap (onward c) s.place in
    let lt = s.within.0 in
    ⊎_elim
    (λ t. let e = eqb-true (8 * c + 7) s.at t in
    still_in z k m h (chained b ∷ h) s s.item s.stands (8 * c + 9) (now
    ∙ ap Some (cond-true (eqb (8 * c + 7) s.at) (8 * c + 9) s.at t)) (omega arith) (omega arith, omega arith))
    (λ f. still_in z k m h (chained b ∷ h) s s.item s.stands s.at (now ∙ ap Some (cond-false (eqb (8 * c + 7) s.at) (8 * c + 9) s.at f)) (omega arith) (omega arith, s.within.1))
    (cases_Bool (eqb (8 * c + 7) s.at)))
    (λ f. let same : chained_to (chained b ∷ h) (bucket_of z k) ≡ chained_to h (bucket_of z k) =
    cond-false (eqb b (bucket_of z k)) (chained_to h (bucket_of z k) + 1) (chained_to h (bucket_of z k)) f in
    let lt = s.within.0 in
    still_in z k m h (chained b ∷ h) s s.item s.stands s.at
    (cond-false (eqb b (bucket_of z k)) (onward (chained_to h b) (place z h k)) (place z h k) f
    ∙ s.place) (omega arith) (omega arith, s.within.1))
    (cases_Bool (eqb b (bucket_of z k))))
one z k m h (drawn b) p s = inr (still_in z k m h (drawn b ∷ h) s s.item s.stands s.at s.place (omega arith) s.within)
one z k m h (bumped t r f) p s = inr (still_in z k m h (bumped t r f ∷ h) s s.item s.stands s.at s.place (omega arith) s.within)
one z k m h (entered q t) p s = inr (still_in z k m h (entered q t ∷ h) s s.item s.stands s.at s.place (omega arith) s.within)
one z k m h (left q t) p s = inr (still_in z k m h (left q t ∷ h) s s.item s.stands s.at s.place (omega arith) s.within)

ends_later : (z : Shape) (k : List ℕ) (o : Option (ℕ × ℕ)) (n : ℕ) (h : List Mark) (looks : List (List Mark)) (g : List Mark) → IsScan z k o n h looks g → Begins h g
ends_later z k o n h [] g s = absurd s
ends_later z k o n h (i ∷ []) g s = subst (Begins h) s.2 s.0
ends_later z k o n h (i ∷ j ∷ more) g s = begins_on h i g s.0 (ends_later z k o (position_after n) i (j ∷ more) g s.2)

placed_before : (z : Shape) (more h : List Mark) → IsWellMarked z (more ++ h) → IsWellMarked z h
placed_before z [] h p = p
placed_before z (e ∷ more) h p = placed_before z more h p.0

-- ---- a key that stands has a place in its chain

pub record HasPlace (z : Shape) (k : List ℕ) (h : List Mark) : Type 0 where
  pub at : ℕ
  pub place : place z h k ≡ Some at
  pub within : IsIn z h k at

after_at : (z : Shape) (k k' : List ℕ) (h : List Mark) → k' ≡ k → IsWellMarked z h → IsAfterAt Stored k' h → HasPlace z k h
after_at z k k' (at l t r n f ∷ h) e p a = let el : l ≡ k = a ∙ e in record {
  at = n;
  place = cond-true (same_key l k) (Some n) (place z h k) (same_true l k el);
  within = subst (λ x. IsIn z h x n) el p.1.0;
}
after_at z k k' [] e p a = absurd a
after_at z k k' (enters x ∷ h) e p a = absurd a
after_at z k k' (drawn x ∷ h) e p a = absurd a
after_at z k k' (chained x ∷ h) e p a = absurd a
after_at z k k' (bumped x y f ∷ h) e p a = absurd a
after_at z k k' (entered x y ∷ h) e p a = absurd a
after_at z k k' (left x y ∷ h) e p a = absurd a

-- a write leaves the key standing where it was stored, or stood before
wrote : (z : Shape) (k : List ℕ) (q : Request) (y : Reply) (s : Option ℕ) (h : List Mark) (x : Cached)
    → key_of q ≡ k → IsWellMarked z h → IsAfterAt y (key_of q) h → put q y s (stands z (entries h) k) ≡ Some x
    → HasPlace z k h ⊎ (stands z (entries h) k ≡ Some x)
wrote z k q Stored (Some s) h x e p a t = inl (after_at z k (key_of q) h e p a)
wrote z k q Stored None h x e p a t = inr t
wrote z k q Deleted s h x e p a t = absurd (none-some x t)
wrote z k q NotStored s h x e p a t = inr t
wrote z k q Exists s h x e p a t = inr t
wrote z k q NotFound s h x e p a t = inr t

-- what stands after a move stood before it
was_moved : (o : Option Cached) (s : ℕ) (x : Cached) → option_map (with_segment s) o ≡ Some x → (y : Cached) × (o ≡ Some y)
was_moved None s x e = absurd (none-some x e)
was_moved (Some y) s x e = (y, refl)

pub has_place : (z : Shape) (k : List ℕ) (h : List Mark) (x : Cached) → IsWellMarked z h → stands z (entries h) k ≡ Some x → HasPlace z k h
has_place z k [] x p t = absurd (none-some x t)
has_place z k (enters (entry.Wrote q w y s) ∷ h) x p t = ⊎_elim
    (λ e. let r = wrote z k w y s h x (key_true (key_of w) k e) p.0 p.1 (sym (stands_wrote z q w y s (entries h) k
    ∙ cond-true (same_key (key_of w) k) (put w y s (stands z (entries h) k)) (stands z (entries h) k) e) ∙ t) in
    ⊎_elim (λ i. record { at = i.at; place = i.place; within = i.within }) (λ old. let i = has_place z k h x p.0 old in record { at = i.at; place = i.place; within = i.within }) r)
    (λ f. let i = has_place z k h x p.0 (sym (stands_wrote z q w y s (entries h) k
    ∙ cond-false (same_key (key_of w) k) (put w y s (stands z (entries h) k)) (stands z (entries h) k) f)
    ∙ t) in record { at = i.at; place = i.place; within = i.within })
    (cases_Bool (same_key (key_of w) k))
has_place z k (enters (entry.Evicted q k' s) ∷ h) x p t = ⊎_elim
    (λ e. absurd (none-some x (sym (stands_evicted z q k' s (entries h) k ∙ cond-true (same_key k' k) None (stands z (entries h) k) e) ∙ t)))
    (λ f. let i = has_place z k h x p.0 (sym (stands_evicted z q k' s (entries h) k
    ∙ cond-false (same_key k' k) None (stands z (entries h) k) f) ∙ t) in
    record { at = i.at; place = i.place; within = i.within })
    (cases_Bool (same_key k' k))
has_place z k (enters (entry.Moved q k' f s) ∷ h) x p t = let m = stands_moved z q k' f s (entries h) k in ⊎_elim
    (λ e. let y = was_moved (stands z (entries h) k) s x (sym (m ∙ cond-true (same_key k' k) (option_map (with_segment s) (stands z (entries h) k)) (stands z (entries h) k) e) ∙ t) in
    let i = has_place z k h y.0 p.0 y.1 in record { at = i.at; place = i.place; within = i.within })
    (λ g. let i = has_place z k h x p.0 (sym (m
    ∙ cond-false (same_key k' k) (option_map (with_segment s) (stands z (entries h) k)) (stands z (entries h) k)
    g) ∙ t) in record { at = i.at; place = i.place; within = i.within })
    (cases_Bool (same_key k' k))
has_place z k (enters (entry.Refilled q s d) ∷ h) x p t = let i = has_place z k h x p.0 t in record { at = i.at; place = i.place; within = i.within }
has_place z k (at k' u r n f ∷ h) x p t = let i = has_place z k h x p.0 t in ⊎_elim
    (λ e. record { at = n; place = cond-true (same_key k' k) (Some n) (place z h k) e; within = subst (λ y. IsIn z h y n) (key_true k' k e) p.1.0 })
    (λ g. record { at = i.at; place = cond-false (same_key k' k) (Some n) (place z h k) g ∙ i.place; within = i.within })
    (cases_Bool (same_key k' k))
has_place z k (chained b ∷ h) x p t = let i = has_place z k h x p.0 t in
    let s : StandsFrom z k 0 h = record { item = x; stands = t; at = i.at; place = i.place; late = omega arith; within = i.within } in
    ⊎_elim (λ none. absurd (none-some x (sym none ∙ t))) (λ (u : StandsFrom z k 0 (chained b ∷ h)). record { at = u.at; place = u.place; within = u.within }) (one z k 0 h (chained b) p s)
has_place z k (drawn b ∷ h) x p t = let i = has_place z k h x p.0 t in record { at = i.at; place = i.place; within = i.within }
has_place z k (bumped u r f ∷ h) x p t = let i = has_place z k h x p.0 t in record { at = i.at; place = i.place; within = i.within }
has_place z k (entered q s ∷ h) x p t = let i = has_place z k h x p.0 t in record { at = i.at; place = i.place; within = i.within }
has_place z k (left q s ∷ h) x p t = let i = has_place z k h x p.0 t in record { at = i.at; place = i.place; within = i.within }

-- ---- what is sought

-- where the key doesn't stand, it is nowhere
pub lost : (z : Shape) (k : List ℕ) (o : Option (ℕ × ℕ)) (h : List Mark) → IsAbsent z h k → IsNowhere z k o h
lost z k None h none = none
lost z k (Some row) h none = inl none

same_slot : (k : List ℕ) (s r t i : ℕ) → (Some (slot k t i) ≡ Some (slot k s r)) ⊎ (Some (slot k t i) ≢ Some (slot k s r))
same_slot k s r t i = ⊎_elim
    (λ es. ⊎_elim (λ er. inl (λ j. Some (slot k (es j) (er j)))) (λ ne. inr (λ e. ne (ap (λ (x : Slot). x.row) (same_Some (slot k t i) (slot k s r) e)))) (cases_eq i r))
    (λ ne. inr (λ e. ne (ap (λ (x : Slot). x.segment) (same_Some (slot k t i) (slot k s r) e))))
    (cases_eq t s)

-- the last `at` of a key names the row, or it doesn't
names_row : (k : List ℕ) (s r : ℕ) (h : List Mark) → (last_at h k ≡ Some (slot k s r)) ⊎ (last_at h k ≢ Some (slot k s r))
names_row k s r [] = inr (λ e. none-some (slot k s r) e)
names_row k s r (at k' t i n f ∷ h) = ⊎_elim
    (λ y. let e = cond-true (same_key k' k) (Some (slot k t i)) (last_at h k) y in subst (λ o. (o ≡ Some (slot k s r)) ⊎ (o ≢ Some (slot k s r))) (sym e) (same_slot k s r t i))
    (λ n'. let e = cond-false (same_key k' k) (Some (slot k t i)) (last_at h k) n' in subst (λ o. (o ≡ Some (slot k s r)) ⊎ (o ≢ Some (slot k s r))) (sym e) (names_row k s r h))
    (cases_Bool (same_key k' k))
names_row k s r (e ∷ h) = names_row k s r h

-- where the key stands, its item is what is sought, or that is nowhere
is_nowhere : (z : Shape) (k : List ℕ) (o : Option (ℕ × ℕ)) (h : List Mark) (x : Cached) → stands z (entries h) k ≡ Some x → IsNowhere z k o h ⊎ ¬ (IsNowhere z k o h)
is_nowhere z k None h x t = inr (λ none. none-some x (sym none ∙ t))
is_nowhere z k (Some row) h x t = ⊎_elim
    (λ named. inr (λ un. ⊎_elim (λ none. none-some x (sym none ∙ t)) (λ ne. ne named) un))
    (λ ne. inl (inr ne))
    (names_row k row.0 row.1 h)

-- ---- scans

-- what is sought is at position n, which is its key's place
record IsFound (z : Shape) (k : List ℕ) (o : Option (ℕ × ℕ)) (h : List Mark) (n : ℕ) : Type 0 where
  here : ¬ (IsNowhere z k o h)
  place : place z h k ≡ Some n
  within : IsIn z h k n

module _ (z : Shape) (k : List ℕ) (o : Option (ℕ × ℕ)) where
  abbrev Waits : ℕ → List Mark → List Mark → Type 0
  Waits n h g = Ahead (IsFound z k o) (IsNowhere z k o) n h g

  there : (h : List Mark) (n : ℕ) → IsFound z k o h n → (c : Option Cached) → stands z (entries h) k ≡ c → StandsFrom z k n h
  there h n f None e = absurd (f.here (lost z k o h e))
  there h n f (Some x) e = record { item = x; stands = e; at = n; place = f.place; late = omega arith; within = f.within }

  moves : (e : Mark) (h : List Mark) (a : ℕ) → IsWellMarked z (e ∷ h) → IsFound z k o h a → ((m : ℕ) × (a ≤ m) × IsFound z k o (e ∷ h) m) ⊎ IsNowhere z k o (e ∷ h)
  moves e h a p f = ⊎_elim
      (λ none. inr (lost z k o (e ∷ h) none))
      (λ (s : StandsFrom z k a (e ∷ h)). ⊎_elim
      (λ gone. inr gone)
      (λ here. inl (s.at, s.late, record { here = here; place = s.place; within = s.within }))
      (is_nowhere z k o (e ∷ h) s.item s.stands))
      (one z k a h e p (there h a f (stands z (entries h) k) refl))

  first : (h : List Mark) (c : Option Cached) → IsWellMarked z h → stands z (entries h) k ≡ c → Waits 1 h h
  first h None p t = inl (h, ([], refl), ([], refl), lost z k o h t)
  first h (Some x) p t = let i = has_place z k h x p t in let a = i.within.1 in ⊎_elim
      (λ gone. inl (h, ([], refl), ([], refl), gone))
      (λ here. inr (i.at, omega arith, record { here = here; place = i.place; within = i.within }))
      (is_nowhere z k o h x t)

  passed : (n : ℕ) (h g i : List Mark) → IsWellMarked z i → Begins h g → Begins g i → IsNotAt z k o i n → Waits n h g → Waits (n + 1) h i
  passed n h g i p b c not a = ahead_passed (IsFound z k o) (IsNowhere z k o) n h i (λ f. not f.here f.place)
      (ahead_later (IsWellMarked z) (IsFound z k o) (IsNowhere z k o) (λ e f p. p.0) moves n h g i p b c a)

  onto : (n : ℕ) (h i : List Mark) → Waits (n + 1) h i → Waits (position_after n) h i
  onto n h i a = ⊎_elim
      (λ y. rw y (let e = eqb-true (n % 8) 7 y in ahead_jump (IsFound z k o) (IsNowhere z k o) (n + 1) (n + 2) h i (λ m f le. let w = f.within.1 in omega arith) a))
      (λ f. rw f a)
      (cases_Bool (eqb (n % 8) 7))

  all_looks : (n : ℕ) (h from : List Mark) (looks : List (List Mark)) (g : List Mark) → IsWellMarked z g → Begins h from → IsScan z k o n from looks g → Waits n h from → WasGone (IsNowhere z k o) h g
  all_looks n h from [] g p b s a = absurd s
  all_looks n h from (i ∷ []) g p b s a =
      let e = s.3 in
      subst (WasGone (IsNowhere z k o) h) s.2 (ahead_end (IsFound z k o) (IsNowhere z k o) (n + 1) h i
      (λ m f. let lt = f.within.0 in let same : chained_to i (bucket_of z k) ≡ chained_to g (bucket_of z k) = ap (λ x. chained_to x (bucket_of z k)) s.2 in omega arith)
      (passed n h from i (subst (IsWellMarked z) (sym s.2) p) b s.0 s.1 a))
  all_looks n h from (i ∷ j ∷ more) g p b s a =
      let later = ends_later z k o (position_after n) i (j ∷ more) g s.2 in
      all_looks (position_after n) h i (j ∷ more) g p (begins_on h from i b s.0) s.2
      (onto n h i (passed n h from i (placed_before z later.0 i (subst (IsWellMarked z) later.1 p)) b s.0 s.1 a))

  pub miss : (h : List Mark) (looks : List (List Mark)) (g : List Mark) → IsScanOf z k o h looks g → WasGone (IsNowhere z k o) h g
  miss h looks g s =
      let b = ends_later z k o 1 h (h ∷ looks) g s.scan in
      let p = placed_before z b.0 h (subst (IsWellMarked z) b.1 s.placed) in
      all_looks 1 h h (h ∷ looks) g s.placed ([], refl) s.scan (first h (stands z (entries h) k) p refl)
