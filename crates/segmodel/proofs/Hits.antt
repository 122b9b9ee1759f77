-- A hit raises one frequency, and leaves the rest of the state.
use Rattle.std.proofs.Common.{◌≡◌, ℕ, ◌&&◌, ◌⊎◌, Bool, true, false, cond, not, List, [], ◌∷◌, length, count_by, ◌≤◌, Option, Some, None, refl, sym, ap, ◌∙◌, subst, suc, inl, inr}
use Rattle.std.proofs.lemmas.Bool.{cases_eq}
use Rattle.std.specs.BTreeMap.{is_at}
use Rattle.segword.specs.Words.{Shape}
use Rattle.segmodel.specs.Words.{Cached}
use Rattle.segmodel.specs.Cache.{key_cmp, with_at}
use Rattle.segmodel.specs.State.{State, Filling, is_among, is_in_use, is_stored, is_in, IsSound}
use Rattle.segmodel.specs.Serving.{higher, raised, raised_in, after_hit}
use Rattle.segmodel.proofs.Counts.{all_also}
use Rattle.segmodel.proofs.Sound.{changed, unchanged}

-- other frequencies, of as many rows
IsKept-frequencies : (shape : Shape) (f : ℕ → Filling) (state : State) → ((s : ℕ) → ((f s).state ≡ (state.filling s).state) × ((f s).keys ≡ (state.filling s).keys))
    → ((s : ℕ) → length (f s).frequencies ≡ length (f s).keys) → IsSound shape state → IsSound shape (record state { filling = f })
IsKept-frequencies shape f state same long kept = record {
  items = all_also (is_stored state.filling) (is_stored f) (λ e on. (λ i. is_in_use ((same e.1.segment).0 i) && is_among ((same e.1.segment).1 i) e.0) ∙ on) state.cache.items kept.items;
  ordered = kept.ordered;
  count = λ s. subst (λ keys. count_by (is_in s) state.cache.items ≤ length keys) (sym (same s).1) (kept.count s);
  frequencies = long;
  rows = λ s. subst (λ keys. length keys ≤ shape.rows) (sym (same s).1) (kept.rows s);
  own = λ s used. kept.own s (ap is_in_use (sym (same s).0) ∙ used);
  in_use = λ s e. ap is_in_use (same s).0 ∙ kept.in_use s e;
  width = kept.width;
  drawn = kept.drawn;
  words = kept.words;
  held = λ x e empty. kept.held x e (sym (same x.segment).0 ∙ empty);
}

-- a hit leaves as many frequencies as there were
pub length-raised : (key : List ℕ) (keys : List (List ℕ)) (frequencies : List ℕ) → length (raised key keys frequencies) ≡ length frequencies
length-raised key [] fs = refl
length-raised key (k ∷ ks) [] = refl
length-raised key (k ∷ ks) (f ∷ fs) = elim (is_at (key_cmp key) k && not (is_among ks key)) as (λ b. length (cond b (higher f ∷ fs) (f ∷ raised key ks fs)) ≡ length (f ∷ fs)) [
  | true ↦ refl
  | false ↦ ap (λ n. suc n) (length-raised key ks fs)
]

-- a hit keeps what always holds of a state
pub IsKept-hit : (shape : Shape) (key : List ℕ) (found : Option Cached) (state : State) → IsSound shape state → IsSound shape (after_hit key found state)
IsKept-hit shape key None state kept = kept
IsKept-hit shape key (Some x) state kept = IsKept-frequencies shape (with_at state.filling x.segment more) state (λ s. same s (cases_eq x.segment s)) (λ s. long s (cases_eq x.segment s)) kept
  where
    more : Filling
    more = raised_in key (state.filling x.segment)

    same : (s : ℕ) → (x.segment ≡ s) ⊎ (x.segment ≡ s → ⊥)
        → ((with_at state.filling x.segment more s).state ≡ (state.filling s).state) × ((with_at state.filling x.segment more s).keys ≡ (state.filling s).keys)
    same s (inl e) = (
      ap (λ (y : Filling). y.state) (changed state.filling x.segment s more e) ∙ ap (λ t. (state.filling t).state) e,
      ap (λ (y : Filling). y.keys) (changed state.filling x.segment s more e) ∙ ap (λ t. (state.filling t).keys) e,
    )
    same s (inr apart) = (
      ap (λ (y : Filling). y.state) (unchanged state.filling x.segment s more apart),
      ap (λ (y : Filling). y.keys) (unchanged state.filling x.segment s more apart),
    )

    long : (s : ℕ) → (x.segment ≡ s) ⊎ (x.segment ≡ s → ⊥) → length (with_at state.filling x.segment more s).frequencies ≡ length (with_at state.filling x.segment more s).keys
    long s (inl e) = rw (changed state.filling x.segment s more e) (length-raised key (state.filling x.segment).keys (state.filling x.segment).frequencies ∙ kept.frequencies x.segment)
    long s (inr apart) = rw (unchanged state.filling x.segment s more apart) (kept.frequencies s)

pub IsKept-hit_unless : (shape : Shape) (key : List ℕ) (locked : Bool) (found : Option Cached) (state : State) → IsSound shape state
    → IsSound shape (cond locked state (after_hit key found state))
IsKept-hit_unless shape key true found state kept = kept
IsKept-hit_unless shape key false found state kept = IsKept-hit shape key found state kept

-- a hit leaves the cache
pub hit_cache : (key : List ℕ) (found : Option Cached) (state : State) → (after_hit key found state).cache ≡ state.cache
hit_cache key None state = refl
hit_cache key (Some x) state = refl

pub hit_cache_unless : (key : List ℕ) (locked : Bool) (found : Option Cached) (state : State) → (cond locked state (after_hit key found state)).cache ≡ state.cache
hit_cache_unless key true found state = refl
hit_cache_unless key false found state = hit_cache key found state
