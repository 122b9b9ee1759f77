-- How many keys of a bucket stand after one was put or some were taken out, and that a key that is stored has a word.
use Rattle.std.proofs.Common.{◌≡◌, ℕ, ◌+◌, ◌*◌, ◌≤◌, ◌==◌, ◌&&◌, Bool, true, false, cond, List, [], ◌∷◌, Some, None, is_some, filter, count_by, refl, sym, ap, ◌∙◌, arith, eq-eqb}
use Rattle.std.specs.declared.cmp.Ordering.{Ordering}
use Rattle.std.specs.declared.cmp.Ordering.TheVariants.{Less, Equal, Greater}
use Rattle.std.specs.Ordering.{match_ordering, is_eq}
use Rattle.std.specs.List.Sorted.{IsStrictlySortedBy}
use Rattle.std.specs.BTreeMap.{insert_entry, is_at}
use Rattle.std.specs.Map.{keys_of, lookup}
use Rattle.std.proofs.lemmas.Bool.{false≢true, eqb-false}
use Rattle.segword.specs.Words.{Shape}
use Rattle.segmodel.specs.Words.{Cached, Request}
use Rattle.segmodel.specs.declared.request.Request.TheVariants.{Set, Add, Replace, Cas, Delete}
use Rattle.segmodel.specs.declared.request.Reply.TheVariants.{Stored}
use Rattle.segmodel.specs.Places.{bucket_of}
use Rattle.segmodel.specs.Request.{key_of, value_of, moment_of, adds_key, reply_to}
use Rattle.segmodel.specs.Cache.{key_cmp, standing, keys_in, put, reply_in}
use Rattle.segmodel.proofs.HistoryLemmas.{absent_unless_stands}
use Rattle.segmodel.specs.State.{State, IsSound}
use Rattle.segmodel.specs.Serving.{is_full, lacks_word, chained}
use Rattle.segmodel.proofs.Counts.{count_by-cons}
use Rattle.segmodel.proofs.Ordered.{Above, above_lower}

-- a key that is put adds one to those that pass at most, and none where it doesn't pass itself
pub count-keys_put : (p : List ℕ → Bool) (k : List ℕ) (x : Cached) (es : List (List ℕ × Cached))
    → count_by p (keys_of (insert_entry key_cmp es k x)) ≤ count_by p (keys_of es) + cond (p k) 1 0
count-keys_put p k x [] = rw (count_by-cons p k []) (omega arith)
count-keys_put p k x (e ∷ es) =
    let rest = count-keys_put p k x es in
    elim (key_cmp k e.0) as (λ r. count_by p (keys_of (match_ordering r ((k, x) ∷ e ∷ es) ((e.0, x) ∷ es) (e ∷ insert_entry key_cmp es k x)))
    ≤ count_by p (keys_of (e ∷ es)) + cond (p k) 1 0) [
      | Less ↦ rw (count_by-cons p k (e.0 ∷ keys_of es)) (omega arith)
      | Equal ↦ omega arith
      | Greater ↦ rw (count_by-cons p e.0 (keys_of (insert_entry key_cmp es k x)), count_by-cons p e.0 (keys_of es)) (omega arith)
    ]

-- a key below all others isn't among them
pub above_absent : (k : List ℕ) (es : List (List ℕ × Cached)) → Above k (keys_of es) → lookup (is_at (key_cmp k)) es ≡ None
above_absent k [] above = refl
above_absent k (e ∷ es) above = ap (λ r. cond (is_eq r) (Some e.1) (lookup (is_at (key_cmp k)) es)) above.0 ∙ above_absent k es above.1

-- where the key stands already the keys stay the same
pub keys-put_standing : (k : List ℕ) (x : Cached) (es : List (List ℕ × Cached)) → IsStrictlySortedBy key_cmp (keys_of es)
    → is_some (lookup (is_at (key_cmp k)) es) ≡ true → keys_of (insert_entry key_cmp es k x) ≡ keys_of es
unfolding IsStrictlySortedBy
keys-put_standing k x [] sorted here = absurd (false≢true here)
keys-put_standing k x (e ∷ es) sorted here = by (key_cmp k e.0) refl here (keys-put_standing k x es sorted.1)
  where
    by : (r : Ordering) → key_cmp k e.0 ≡ r → is_some (cond (is_eq r) (Some e.1) (lookup (is_at (key_cmp k)) es)) ≡ true
        → (is_some (lookup (is_at (key_cmp k)) es) ≡ true → keys_of (insert_entry key_cmp es k x) ≡ keys_of es)
        → keys_of (match_ordering r ((k, x) ∷ e ∷ es) ((e.0, x) ∷ es) (e ∷ insert_entry key_cmp es k x)) ≡ e.0 ∷ keys_of es
    by Less is here rest = absurd (false≢true (sym (ap is_some (above_absent k es (above_lower k e.0 (keys_of es) is sorted.0))) ∙ here))
    by Equal is here rest = refl
    by Greater is here rest = ap (λ ks. e.0 ∷ ks) (rest here)

pub count-keys_filter : (p : List ℕ → Bool) (test : List ℕ × Cached → Bool) (es : List (List ℕ × Cached))
    → count_by p (keys_of (filter test es)) ≤ count_by p (keys_of es)
count-keys_filter p test [] = omega arith
count-keys_filter p test (e ∷ es) =
    let rest = count-keys_filter p test es in
    elim (test e) as (λ b. count_by p (keys_of (cond b (e ∷ filter test es) (filter test es))) ≤ count_by p (keys_of (e ∷ es))) [
      | true ↦ rw (count_by-cons p e.0 (keys_of (filter test es)), count_by-cons p e.0 (keys_of es)) (omega arith)
      | false ↦ rw (count_by-cons p e.0 (keys_of es)) (omega arith)
    ]

-- a request that is stored where its key doesn't stand adds the key
adds_new : (request : Request) (version : ℕ) → reply_to request false version ≡ Stored → adds_key request false ≡ true
adds_new (Set key value now) version is = refl
adds_new (Add key value now) version is = refl
adds_new (Replace key value now) version is = cc
adds_new (Cas key value expected now) version is = cc
adds_new (Delete key now) version is = cc

-- and one that is stored where it stands doesn't
pub adds_none : (request : Request) → adds_key request true ≡ false
adds_none (Set key value now) = refl
adds_none (Add key value now) = refl
adds_none (Replace key value now) = refl
adds_none (Cas key value expected now) = refl
adds_none (Delete key now) = refl

-- the width of a chain that is made longer where a word lacks
longer : (shape : Shape) (state : State) (b : ℕ) → (chained b true state).width b ≡ state.width b + 1
longer shape state b = rw (eq-eqb b b refl) refl

-- a key that is stored has a word: where none was empty, its chain is longer
pub stored_fits : (shape : Shape) (request : Request) (segment : ℕ) (state : State) → IsSound shape state → reply_in shape state.cache request ≡ Stored
    → keys_in shape (put shape (key_of request) (value_of request) segment state.cache) (bucket_of shape (key_of request))
    ≤ 6 * (chained (bucket_of shape (key_of request)) (lacks_word shape state request) state).width (bucket_of shape (key_of request)) + 1
stored_fits shape request segment state kept replied = by (is_some (standing state.cache (key_of request))) refl
  where
    b : ℕ
    b = bucket_of shape (key_of request)

    had : keys_in shape state.cache b ≤ 6 * state.width b + 1
    had = kept.words b

    after : ℕ
    after = keys_in shape (put shape (key_of request) (value_of request) segment state.cache) b

    most : after ≤ keys_in shape state.cache b + 1
    most =
        let put_one = count-keys_put (λ key. bucket_of shape key == b) (key_of request) (record { value = value_of request; segment = segment }) state.cache.items in
        let put_one' : after ≤ keys_in shape state.cache b + 1 = rw (eq-eqb b b refl) at put_one in put_one'

    full : (t : Bool) → is_full shape state b ≡ t → after ≤ 6 * (chained b t state).width b + 1
    full true is =
        let all : keys_in shape state.cache b ≡ 6 * state.width b + 1 = grind (arith, is) in
        rw (longer shape state b) (let most' = most in omega arith)
    full false is =
        let apart : keys_in shape state.cache b ≡ 6 * state.width b + 1 → ⊥ = eqb-false _ _ is in
        let had' = had in
        let most' = most in
        omega arith

    by : (stands : Bool) → is_some (standing state.cache (key_of request)) ≡ stands → after ≤ 6 * (chained b (adds_key request stands && is_full shape state b) state).width b + 1
    by true stands =
        let same : after ≡ keys_in shape state.cache b =
        ap (count_by (λ key. bucket_of shape key == b)) (keys-put_standing (key_of request) (record { value = value_of request; segment = segment }) state.cache.items kept.ordered stands) in
        let had' = had in
        rw (adds_none request) (omega arith)
    by false stands =
        let is : reply_to request false (state.cache.version b) ≡ Stored =
        ap (λ found. reply_to request found (state.cache.version b)) (sym (absent_unless_stands state.cache (moment_of request) (key_of request) stands)) ∙ replied in
        rw (adds_new request (state.cache.version b) is) (full (is_full shape state b) refl)
