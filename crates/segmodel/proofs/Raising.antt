-- Which row a hit raises: the last one that has the key.
use Rattle.std.proofs.Common.{◌≡◌, ℕ, zero, suc, ◌+◌, ◌<◌, ◌≤◌, ◌||◌, ◌&&◌, Bool, true, false, cond, List, [], ◌∷◌, drop, get_or, length, slice_set, refl, sym, ap, ◌∙◌, arith}
use Rattle.std.specs.BTreeMap.{is_at}
use Rattle.std.proofs.lemmas.Bool.{true≢false}
use Rattle.std.proofs.lemmas.List.{at_drop_more}
use Rattle.segmodel.specs.Cache.{key_cmp}
use Rattle.segmodel.specs.State.{is_among}
use Rattle.segmodel.specs.Serving.{higher, raised}

-- neither is so, where one of the two isn't
neither : (one other : Bool) → (one || other) ≡ false → (one ≡ false) × (other ≡ false)
neither true other is = absurd (true≢false is)
neither false other is = (refl, is)

-- nothing is raised where no row has the key
pub raised_none : (key : List ℕ) (keys : List (List ℕ)) (frequencies : List ℕ) → is_among keys key ≡ false → raised key keys frequencies ≡ frequencies
raised_none key [] frequencies none = refl
raised_none key (stored ∷ keys) [] none = refl
raised_none key (stored ∷ keys) (frequency ∷ frequencies) none =
    let parts = neither (is_at (key_cmp key) stored) (is_among keys key) none in
    rw parts.0 (ap (λ rest. frequency ∷ rest) (raised_none key keys frequencies parts.1))

-- a key that is found at a place is among them
pub at_place : (key : List ℕ) (keys : List (List ℕ)) (n : ℕ) (d : List ℕ) → n < length keys → is_at (key_cmp key) (get_or keys n d) ≡ true → is_among keys key ≡ true
at_place key [] n d within is = absurd (omega arith)
at_place key (stored ∷ keys) zero d within is = rw is refl
at_place key (stored ∷ keys) (suc n) d within is = rw (at_place key keys n d (omega arith) is) (either (is_at (key_cmp key) stored))
  where
    either : (b : Bool) → (b || true) ≡ true
    either true = refl
    either false = refl

-- the last row that has the key is raised
pub raised_here : (key : List ℕ) (keys : List (List ℕ)) (frequencies : List ℕ) (n : ℕ) (d : List ℕ) → n < length keys → length frequencies ≡ length keys
    → is_at (key_cmp key) (get_or keys n d) ≡ true → is_among (drop (suc n) keys) key ≡ false
    → raised key keys frequencies ≡ slice_set frequencies n (higher (get_or frequencies n 0))
raised_here key [] frequencies n d within long is later = absurd (omega arith)
raised_here key (stored ∷ keys) [] n d within long is later = absurd (omega arith)
raised_here key (stored ∷ keys) (frequency ∷ frequencies) zero d within long is later = rw (is, later) refl
raised_here key (stored ∷ keys) (frequency ∷ frequencies) (suc n) d within long is later =
    rw (at_place key keys n d (omega arith) is) (passed (is_at (key_cmp key) stored) (raised_here key keys frequencies n d (omega arith) (omega arith) is later))
  where
    passed : (b : Bool) → raised key keys frequencies ≡ slice_set frequencies n (higher (get_or frequencies n 0))
        → cond (b && false) (higher frequency ∷ frequencies) (frequency ∷ raised key keys frequencies) ≡ frequency ∷ slice_set frequencies n (higher (get_or frequencies n 0))
    passed true rest = ap (λ xs. frequency ∷ xs) rest
    passed false rest = ap (λ xs. frequency ∷ xs) rest

-- whether the key is among the rows that are left, one row on
pub among_on : (key : List ℕ) (keys : List (List ℕ)) (n : ℕ) (d : List ℕ) → n < length keys
    → is_among (drop n keys) key ≡ (is_at (key_cmp key) (get_or keys n d) || is_among (drop (n + 1) keys) key)
among_on key keys n d within = at_drop_more (λ (xs : List (List ℕ)). is_among xs key) keys n d within

-- which goes on over a row that has another key
pub among_over : (key : List ℕ) (keys : List (List ℕ)) (n : ℕ) (d : List ℕ) → n < length keys → is_at (key_cmp key) (get_or keys n d) ≡ false
    → is_among (drop (n + 1) keys) key ≡ is_among (drop n keys) key
among_over key keys n d within other = sym (among_on key keys n d within ∙ ap (λ b. b || is_among (drop (n + 1) keys) key) other)

-- and over one where the key comes later too
pub among_later : (key : List ℕ) (keys : List (List ℕ)) (n : ℕ) (d : List ℕ) → n < length keys → is_among (drop (n + 1) keys) key ≡ true
    → is_among (drop (n + 1) keys) key ≡ is_among (drop n keys) key
among_later key keys n d within later =
    later ∙ sym (among_on key keys n d within ∙ (ap (λ b. is_at (key_cmp key) (get_or keys n d) || b) later ∙ either (is_at (key_cmp key) (get_or keys n d))))
  where
    either : (b : Bool) → (b || true) ≡ true
    either true = refl
    either false = refl

-- past the last row no key is left
pub none_past : (key : List ℕ) (keys : List (List ℕ)) (n : ℕ) → length keys ≤ n → is_among (drop n keys) key ≡ false
none_past key [] zero past = refl
none_past key [] (suc n) past = refl
none_past key (stored ∷ keys) zero past = absurd (omega arith)
none_past key (stored ∷ keys) (suc n) past = none_past key keys n (omega arith)
