-- What stands and what is present after a key was moved.
use Rattle.std.proofs.Common.{◌≡◌, ℕ, Bool, true, false, cond, List, [], ◌∷◌, map, Option, Some, None, option_map, refl, sym, ap, ◌∙◌, subst}
use Rattle.std.specs.Prelude.{IsSomeAnd, nat_lt}
use Rattle.std.specs.BTreeMap.{is_at}
use Rattle.std.specs.Map.{keys_of, lookup}
use Rattle.std.proofs.lemmas.Bool.{false≢true}
use Rattle.segword.specs.Words.{Shape}
use Rattle.segmodel.specs.Words.{Cached}
use Rattle.segmodel.specs.declared.entry.Entry.TheVariants.{Moved}
use Rattle.segmodel.specs.Places.{bucket_of}
use Rattle.segmodel.specs.Cache.{Cache, key_cmp, standing, unless_expired, present, with_segment, in_segment, moved}
use Rattle.segmodel.specs.History.{StandsIn, Follows}
use Rattle.segmodel.specs.Laws.{MovesAreUnread}
use Rattle.segmodel.proofs.Keys.{same_key}

-- a move leaves the keys
pub keys-moved : (k : List ℕ) (s : ℕ) (es : List (List ℕ × Cached)) → keys_of (map (in_segment k s) es) ≡ keys_of es
keys-moved k s [] = refl
keys-moved k s (e ∷ es) = elim (is_at (key_cmp k) e.0) as (λ b. keys_of (cond b (e.0, with_segment s e.1) e ∷ map (in_segment k s) es) ≡ e.0 ∷ keys_of es) [
  | true ↦ ap (λ ks. e.0 ∷ ks) (keys-moved k s es)
  | false ↦ ap (λ ks. e.0 ∷ ks) (keys-moved k s es)
]

-- what is found after a key was moved
pub lookup-moved : (q k : List ℕ) (s : ℕ) (es : List (List ℕ × Cached))
    → lookup (is_at (key_cmp q)) (map (in_segment k s) es)
    ≡ cond (is_at (key_cmp k) q) (option_map (with_segment s) (lookup (is_at (key_cmp q)) es)) (lookup (is_at (key_cmp q)) es)
lookup-moved q k s [] = same (is_at (key_cmp k) q)
  where
    same : (b : Bool) → None ≡ cond b (option_map (with_segment s) None) None
    same true = refl
    same false = refl
lookup-moved q k s (e ∷ es) = go (is_at (key_cmp k) e.0) (is_at (key_cmp q) e.0) (is_at (key_cmp k) q) refl refl refl (lookup-moved q k s es)
  where
    at : List ℕ → Bool
    at = is_at (key_cmp q)

    found : List ℕ × Cached → List (List ℕ × Cached) → Option Cached
    found f fs = cond (at f.0) (Some f.1) (lookup at fs)

    go : (b c t : Bool) → is_at (key_cmp k) e.0 ≡ b → at e.0 ≡ c → is_at (key_cmp k) q ≡ t
        → lookup at (map (in_segment k s) es) ≡ cond t (option_map (with_segment s) (lookup at es)) (lookup at es)
        → found (cond b (e.0, with_segment s e.1) e) (map (in_segment k s) es)
        ≡ cond t (option_map (with_segment s) (cond c (Some e.1) (lookup at es))) (cond c (Some e.1) (lookup at es))
    go true true true i j h rest = rw j refl
    go true true false i j h rest = absurd (false≢true (sym h ∙ ap (is_at (key_cmp k)) (same_key q e.0 j) ∙ i))
    go false true true i j h rest = absurd (false≢true (sym i ∙ ap (is_at (key_cmp k)) (sym (same_key q e.0 j)) ∙ h))
    go false true false i j h rest = rw j refl
    go true false t i j h rest = rw j rest
    go false false t i j h rest = rw j rest

-- what stands after a key was moved
pub standing-moved : (key : List ℕ) (segment : ℕ) (cache : Cache) (q : List ℕ)
    → standing (moved key segment cache) q ≡ cond (is_at (key_cmp key) q) (option_map (with_segment segment) (standing cache q)) (standing cache q)
standing-moved key segment cache q = lookup-moved q key segment cache.items

-- a moment finds the moved item where it found it before, since the two segments have one deadline
moved_finds : (deadline : ℕ → ℕ) (now from to : ℕ) (o : Option Cached) → IsSomeAnd o (λ item. item.segment ≡ from) → deadline from ≡ deadline to
    → unless_expired deadline now (option_map (with_segment to) o) ≡ option_map (with_segment to) (unless_expired deadline now o)
moved_finds deadline now from to None is same = refl
moved_finds deadline now from to (Some x) is same = ap (λ d. cond (nat_lt now d) (Some (with_segment to x)) None) (sym (ap deadline is ∙ same))
    ∙ elim (nat_lt now (deadline x.segment)) as (λ b. cond b (Some (with_segment to x)) None ≡ option_map (with_segment to) (cond b (Some x) None)) [ true ↦ refl | false ↦ refl ]

-- what is present after a key was moved
pub present-moved : (shape : Shape) (cache : Cache) (pass from to now : ℕ) (key q : List ℕ) → Follows shape cache (Moved pass key from to)
    → present (moved key to cache) now q ≡ cond (is_at (key_cmp key) q) (option_map (with_segment to) (present cache now q)) (present cache now q)
present-moved shape cache pass from to now key q follows = ap (unless_expired cache.deadline now) (standing-moved key to cache q) ∙ by (is_at (key_cmp key) q) refl
  where
    by : (b : Bool) → is_at (key_cmp key) q ≡ b
        → unless_expired cache.deadline now (cond b (option_map (with_segment to) (standing cache q)) (standing cache q))
        ≡ cond b (option_map (with_segment to) (present cache now q)) (present cache now q)
    by true is = moved_finds cache.deadline now from to (standing cache q) (subst (λ k. StandsIn cache k from) (same_key key q is) follows.0) follows.4
    by false is = refl

-- a part of an item that isn't its segment
unread : {U : Type 0} (part : List ℕ → U) (to : ℕ) (b : Bool) (o : Option Cached)
    → option_map (λ (item : Cached). part item.value) (cond b (option_map (with_segment to) o) o) ≡ option_map (λ (item : Cached). part item.value) o
unread part to true None = refl
unread part to true (Some x) = refl
unread part to false o = refl

pub value-moved : (key : List ℕ) (to : ℕ) (cache : Cache) (q : List ℕ)
    → option_map (λ (item : Cached). item.value) (standing (moved key to cache) q) ≡ option_map (λ (item : Cached). item.value) (standing cache q)
value-moved key to cache q = ap (option_map (λ (item : Cached). item.value)) (standing-moved key to cache q) ∙ unread (λ value. value) to (is_at (key_cmp key) q) (standing cache q)

pub moves_are_unread : MovesAreUnread
moves_are_unread shape cache pass from to now key other follows = (part (λ value. value), part (λ value. (value, cache.version (bucket_of shape other))), refl)
  where
    part : {U : Type 0} (part : List ℕ → U) → option_map (λ (item : Cached). part item.value)
        (present (moved key to cache) now other) ≡ option_map (λ (item : Cached). part item.value)
        (present cache now other)
    part {U} of = ap (option_map {U = U} (λ (item : Cached). of item.value))
        (present-moved shape cache pass from to now key other follows)
        ∙ unread of to (is_at (key_cmp key) other) (present cache now other)
