-- What evictions of a segment's keys, one entry for each, leave of a cache: it is without these keys, each of which stood in the segment before them.
use Rattle.std.proofs.Common.{◌≡◌, ◌≢◌, ℕ, ◌+◌, ◌||◌, not, Bool, true, false, cond, List, [], ◌∷◌, ◌++◌, length, filter, count_by, is_some, IsSomeAnd, Option, Some, None, refl, sym, ap, subst, ◌∙◌, arith, append_assoc, eqb, eq-eqb}
use Rattle.std.specs.List.{AllByRecursion, list_any}
use Rattle.std.specs.List.Sorted.{IsStrictlySortedBy}
use Rattle.std.specs.Map.{lookup, keys_of}
use Rattle.std.specs.BTreeMap.{is_at}
use Rattle.std.proofs.lemmas.Bool.{false≢true}
use Rattle.std.proofs.lemmas.List.{append_cancel_right}
use Rattle.std.proofs.lemmas.Option.{none-some}
use Rattle.segword.specs.Words.{Shape}
use Rattle.segmodel.specs.declared.entry.Entry.TheVariants as entry
use Rattle.segmodel.specs.Words.{after, bucket_of, Cached, entries_of, Entry, is_of, IsLegal}
use Rattle.segmodel.specs.Words.{key_cmp, standing, StandsIn, without}
use Rattle.segmodel.proofs.Counts.{count_by-cons}
use Rattle.segmodel.proofs.HistoryLemmas.{standing-without}
use Rattle.segmodel.proofs.Keys.{same_key, at_self}
use Rattle.segmodel.proofs.Ordered.{Above, sorted-after}
use Rattle.segcore.proofs.KeyCounts.{count_without, if_there}
use Rattle.segsolo.specs.Stored.{items_stored_in}
use Rattle.segevict.specs.Words.{AreEvictions}
use Rattle.segmodel.proofs.Words.{above_absent}
use Rattle.segsolo.proofs.AloneRows.{AreUnstored}

-- ---- lists

filter_all : {X : Type 0} (xs : List X) → filter (λ x. true) xs ≡ xs
filter_all [] = refl
filter_all (x ∷ xs) = ap (λ l. x ∷ l) (filter_all xs)

-- what two filters leave, one after the other
filter_twice : {X : Type 0} (p r : X → Bool) (xs : List X) → filter (λ x. not (p x)) (filter (λ x. not (r x)) xs) ≡ filter (λ x. not (p x || r x)) xs
filter_twice p r [] = refl
filter_twice {X = X} p r (x ∷ xs) = by (p x) (r x) refl (filter_twice p r xs)
  where
    by : (s t : Bool) → p x ≡ s → filter (λ y. not (p y)) (filter (λ y. not (r y)) xs) ≡ filter (λ y. not (p y || r y)) xs
        → filter (λ y. not (p y)) (cond (not t) (x ∷ filter (λ y. not (r y)) xs) (filter (λ y. not (r y)) xs)) ≡
        cond (not (s || t)) (x ∷ filter (λ y. not (p y || r y)) xs) (filter (λ y. not (p y || r y)) xs)
    by true true is rest = rest
    by false true is rest = rest
    by true false is rest = ap (λ v. cond (not v) (x ∷ filter (λ y. not (p y)) (filter (λ y. not (r y)) xs)) (filter (λ y. not (p y)) (filter (λ y. not (r y)) xs))) is ∙ rest
    by false false is rest = ap (λ v. cond (not v) (x ∷ filter (λ y. not (p y)) (filter (λ y. not (r y)) xs)) (filter (λ y. not (p y)) (filter (λ y. not (r y)) xs))) is ∙ ap (λ l. x ∷ l) rest

-- two tests that agree on each element
pub filter_alike : {X : Type 0} (p r : X → Bool) (xs : List X) → AllByRecursion (λ x. p x ≡ r x) xs → filter (λ x. not (p x)) xs ≡ filter (λ x. not (r x)) xs
filter_alike p r [] all = refl
filter_alike p r (x ∷ xs) all = λ i. cond (not (all.0 i)) (x ∷ filter_alike p r xs all.1 i) (filter_alike p r xs all.1 i)

pub any_of : (p : List ℕ → Bool) (key : List ℕ) (keys : List (List ℕ)) → list_any (is_at (key_cmp key)) keys ≡ true → p key ≡ true → list_any p keys ≡ true
any_of p key [] there is = absurd (false≢true there)
any_of p key (k ∷ keys) there is = by (is_at (key_cmp key) k) refl there (λ later. any_of p key keys later is)
  where
    by : (here : Bool) → is_at (key_cmp key) k ≡ here → (here || list_any (is_at (key_cmp key)) keys) ≡ true → (list_any (is_at (key_cmp key)) keys ≡ true → list_any p keys ≡ true)
        → (p k || list_any p keys) ≡ true
    by true same there rest = ap (λ b. b || list_any p keys) (ap p (sym (same_key key k same)) ∙ is)
    by false same there rest = ap (λ b. p k || b) (rest there) ∙ or_true (p k)
      where
        or_true : (b : Bool) → (b || true) ≡ true
        or_true true = refl
        or_true false = refl

-- ---- maps

-- what is so of whatever is found is so of each item
pub each_item : (P : List ℕ × Cached → Type 0) (items : List (List ℕ × Cached)) → IsStrictlySortedBy key_cmp (keys_of items)
    → ((key : List ℕ) (item : Cached) → lookup (is_at (key_cmp key)) items ≡ Some item → P (key, item)) → AllByRecursion P items
unfolding IsStrictlySortedBy
each_item P [] sorted found = tt
each_item P (e ∷ items) sorted found = (
  found e.0 e.1 (ap (λ b. cond b (Some e.1) (lookup (is_at (key_cmp e.0)) items)) (at_self e.0)),
  each_item P items sorted.1 (λ key item is. found key item (by key item (is_at (key_cmp key) e.0) refl is)),
)
  where
    by : (key : List ℕ) (item : Cached) (here : Bool) → is_at (key_cmp key) e.0 ≡ here
        → lookup (is_at (key_cmp key)) items ≡ Some item
        → cond here (Some e.1) (lookup (is_at (key_cmp key)) items) ≡ Some item
    by key item true same is = absurd (none-some item (sym (above_absent key items (subst (λ k. Above k (keys_of items)) (sym (same_key key e.0 same)) sorted.0)) ∙ is))
    by key item false same is = is

count_keys : (items : List (List ℕ × Cached)) → count_by (λ key. true) (keys_of items) ≡ length items
count_keys [] = refl
count_keys (e ∷ items) = let head = count_by-cons (λ key. true) e.0 (keys_of items) in let rest = count_keys items in omega arith

-- ---- evictions

-- whether the key is one of those that are evicted
abbrev pub is_evicted : List Entry → List ℕ → Bool
is_evicted [] key = false
is_evicted (entry.Evicted pass other segment ∷ more) key = is_at (key_cmp other) key || is_evicted more key
is_evicted (_ ∷ more) key = is_evicted more key

-- an induction over evictions
by_eviction : (P : List Entry → Type 0) (pass segment : ℕ) → P [] → ((key : List ℕ) (more : List Entry) → AreEvictions pass segment more → P more → P (entry.Evicted pass key segment ∷ more))
    → (evictions : List Entry) → AreEvictions pass segment evictions → P evictions
by_eviction P pass segment none one [] all = none
by_eviction P pass segment none one (added ∷ more) all =
    subst (λ e. P (e ∷ more)) (sym all.0.1) (one all.0.0 more all.1 (by_eviction P pass segment none one more all.1))

module _ (shape : Shape) (pass segment : ℕ) (history : List Entry) where
  -- the keys are taken out, and the versions stay
  pub items_left : (evictions : List Entry) → AreEvictions pass segment evictions
      → after shape (evictions ++ history) ≡ record (after shape history) { items = filter (λ e. not (is_evicted evictions e.0)) (after shape history).items }
  items_left = by_eviction (λ evictions. after shape (evictions ++ history) ≡ record (after shape history) { items = filter (λ e. not (is_evicted evictions e.0)) (after shape history).items })
      pass segment
      (ap (λ items. record (after shape history) { items = items }) (sym (filter_all (after shape history).items)))
      (λ key more all rest. ap (without key) rest
      ∙ ap (λ items. record (after shape history) { items = items })
      (filter_twice (λ (e : List ℕ × Cached). is_at (key_cmp key) e.0)
      (λ (e : List ℕ × Cached). is_evicted more e.0) (after shape history).items))

  standing_left : (key : List ℕ) (evictions : List Entry) → AreEvictions pass segment evictions
      → standing (after shape (evictions ++ history)) key ≡ cond (is_evicted evictions key) None (standing (after shape history) key)
  standing_left key = by_eviction (λ evictions. standing (after shape (evictions ++ history)) key ≡ cond (is_evicted evictions key) None (standing (after shape history) key)) pass segment
      refl
      (λ other more all rest. standing-without other (after shape (more ++ history)) key
      ∙ (ap (λ o. cond (not (is_at (key_cmp other) key)) o None) rest
      ∙ by (is_at (key_cmp other) key) (is_evicted more key)))
    where
      by : (here gone : Bool) → cond (not here) (cond gone None (standing (after shape history) key)) None ≡ cond (here || gone) None (standing (after shape history) key)
      by true gone = refl
      by false gone = refl

  -- a key that stands in the segment afterwards stood there before
  pub stood_before : (key : List ℕ) (evictions : List Entry) → AreEvictions pass segment evictions → StandsIn (after shape (evictions ++ history)) key segment
      → (is_evicted evictions key ≡ false) × StandsIn (after shape history) key segment
  stood_before key evictions all stands = by (is_evicted evictions key) (subst (λ o. IsSomeAnd o (λ item. item.segment ≡ segment)) (standing_left key evictions all) stands)
    where
      by : (gone : Bool) → IsSomeAnd (cond gone None (standing (after shape history) key)) (λ item. item.segment ≡ segment) → (gone ≡ false) × StandsIn (after shape history) key segment
      by true stands = absurd stands
      by false stands = (refl, stands)

  -- and one that isn't evicted stands there still
  pub stands_still : (key : List ℕ) (evictions : List Entry) → AreEvictions pass segment evictions → StandsIn (after shape history) key segment → is_evicted evictions key ≡ false
      → StandsIn (after shape (evictions ++ history)) key segment
  stands_still key evictions all stands stays =
      subst (λ o. IsSomeAnd o (λ item. item.segment ≡ segment)) (sym (standing_left key evictions all ∙ ap (λ gone. cond gone None (standing (after shape history) key)) stays)) stands

  -- each key that was evicted stood in the segment
  pub stood_in : (key : List ℕ) (evictions : List Entry) → AreEvictions pass segment evictions
      → IsLegal shape (evictions ++ history) → is_evicted evictions key ≡ true
      → StandsIn (after shape history) key segment
  stood_in key = by_eviction (λ evictions. IsLegal shape (evictions ++ history) → is_evicted evictions key ≡ true → StandsIn (after shape history) key segment) pass segment
      (λ legal gone. absurd (false≢true gone))
      (λ other more all rest legal gone. by other more (is_at (key_cmp other) key) refl gone (stood_before other more all legal.1.0).1 (rest legal.0))
    where
      by : (other : List ℕ) (more : List Entry) (here : Bool) → is_at (key_cmp other) key ≡ here → (here || is_evicted more key) ≡ true → StandsIn (after shape history) other segment
          → (is_evicted more key ≡ true → StandsIn (after shape history) key segment) → StandsIn (after shape history) key segment
      by other more true same gone stood rest = subst (λ k. StandsIn (after shape history) k segment) (same_key other key same) stood
      by other more false same gone stood rest = rest gone

  -- as many items are gone as there were evictions
  pub length_left : (evictions : List Entry) → AreEvictions pass segment evictions → IsLegal shape (evictions ++ history)
      → length (after shape (evictions ++ history)).items + length evictions ≡ length (after shape history).items
  length_left = by_eviction (λ evictions. IsLegal shape (evictions ++ history) → length (after shape (evictions ++ history)).items + length evictions ≡ length (after shape history).items) pass segment
      (λ legal. omega arith)
      (λ key more all rest legal.
      let before = rest legal.0 in
      let one = count_without (λ k. true) key (after shape (more ++ history)).items (sorted-after shape (more ++ history)) in
      let there : if_there (is_some (lookup (is_at (key_cmp key)) (after shape (more ++ history)).items)) 1 ≡ 1 =
      ap (λ b. if_there b 1) (is_there (standing (after shape (more ++ history)) key) legal.1.0) in
      let now = count_keys (without key (after shape (more ++ history))).items in
      let then = count_keys (after shape (more ++ history)).items in
      omega arith)
    where
      is_there : (o : Option Cached) → IsSomeAnd o (λ item. item.segment ≡ segment) → is_some o ≡ true
      is_there None none = absurd none
      is_there (Some item) some = refl

  -- what was stored in segments stays told
  pub stored_still : (s : ℕ) (evictions : List Entry) → AreEvictions pass segment evictions → items_stored_in shape (evictions ++ history) s ≡ items_stored_in shape history s
  stored_still s = by_eviction (λ evictions. items_stored_in shape (evictions ++ history) s ≡ items_stored_in shape history s) pass segment refl (λ key more all rest. rest)

-- they store nothing
pub evictions_unstored : (pass segment : ℕ) (evictions : List Entry) → AreEvictions pass segment evictions → AreUnstored evictions
evictions_unstored pass segment = by_eviction AreUnstored pass segment tt (λ key more all rest. ((refl, λ shape history s. refl), rest))

-- where no entry is of a bucket, no key of it is evicted
pub evicts_none : (shape : Shape) (pass segment bucket : ℕ) (key : List ℕ) (evictions : List Entry) → AreEvictions pass segment evictions → entries_of shape bucket evictions ≡ 0
    → is_evicted evictions key ≡ true → bucket_of shape key ≢ bucket
evicts_none shape pass segment bucket key = by_eviction (λ evictions. entries_of shape bucket evictions ≡ 0 → is_evicted evictions key ≡ true → bucket_of shape key ≢ bucket) pass segment
    (λ none gone same. false≢true gone)
    (λ other more all rest none gone same.
    let head = count_by-cons (is_of shape bucket) (entry.Evicted pass other segment) more in
    by other more (is_at (key_cmp other) key) refl gone (eqb (bucket_of shape other) bucket) refl
    (let e : cond {A = ℕ} (eqb (bucket_of shape other) bucket) 1 0 ≡ 0 = omega arith in e) same (rest (let e : entries_of shape bucket more ≡ 0 = omega arith in e)))
  where
    by : (other : List ℕ) (more : List Entry) (here : Bool) → is_at (key_cmp other) key ≡ here → (here || is_evicted more key) ≡ true
        → (of : Bool) → eqb (bucket_of shape other) bucket ≡ of → cond {A = ℕ} of 1 0 ≡ 0 → bucket_of shape key ≡ bucket → (is_evicted more key ≡ true → bucket_of shape key ≢ bucket) → ⊥
    by other more true is gone of e none same rest =
        let here : of ≡ true = sym e ∙ eq-eqb (bucket_of shape other) bucket (ap (bucket_of shape) (same_key other key is) ∙ same) in
        let one : cond {A = ℕ} of 1 0 ≡ 1 = ap (λ b. cond {A = ℕ} b 1 0) here in absurd (omega arith)
    by other more false is gone of e none same rest = rest gone same

-- a moment on the way has some of the evictions
pub on_the_way : (pass segment : ℕ) (evictions later earlier end : List Entry) → AreEvictions pass segment evictions → evictions ++ end ≡ later ++ (earlier ++ end) → AreEvictions pass segment earlier
on_the_way pass segment evictions later earlier end all e =
    ends later (subst (AreEvictions pass segment) (append_cancel_right evictions (later ++ earlier) end (e ∙ sym (append_assoc later earlier end))) all)
  where
    ends : (later : List Entry) → AreEvictions pass segment (later ++ earlier) → AreEvictions pass segment earlier
    ends [] all = all
    ends (added ∷ later) all = ends later all.1
