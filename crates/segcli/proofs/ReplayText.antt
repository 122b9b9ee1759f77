-- The object of a replay, by how many caches it has.
use Rattle.std.proofs.Common.{◌≡◌, ◌∙◌, ◌++◌, ◌+◌, ◌<◌, List, [], ◌∷◌, ℕ, length, get_or, drop, take, append_assoc, append-nil, ap, arith, codes, refl, sym}
use Rattle.std.specs.List.{flat_map}
use Rattle.std.proofs.lemmas.Grind.{flat_map-append}
use Rattle.std.proofs.lemmas.List.{take_more}
use Rattle.segreplay.specs.declared.totals.CacheTotals.{CacheTotals}
use Rattle.segreplay.specs.Counting.{no_counts}
use Rattle.segreplay.proofs.Lists.{no_cache}
use Rattle.segcli.specs.Replayed.{cache_object, next_object, replay_json}

-- what stands for totals beyond a list
abbrev pub no_totals : CacheTotals
no_totals = record { cache = no_cache; bytes = 0; counts = no_counts; lives = 0 }

pub json_none : (totals : List CacheTotals) → length totals ≡ 0 → replay_json totals ≡ codes "{\"caches\":[]}"
json_none [] none = refl
json_none (t ∷ totals) none = absurd (omega (arith, none))

pub json_one : (totals : List CacheTotals) (d : CacheTotals) → length totals ≡ 1 → replay_json totals ≡ cache_object (get_or totals 0 d)
json_one [] d one = absurd (omega (arith, one))
json_one (t ∷ []) d one = refl
json_one (t ∷ u ∷ totals) d one = absurd (omega (arith, one))

pub json_more : (totals : List CacheTotals) (d : CacheTotals) → (length totals ≡ 0 → ⊥) → (length totals ≡ 1 → ⊥)
    → replay_json totals ≡ codes "{\"caches\":[" ++ cache_object (get_or totals 0 d) ++ flat_map next_object
    (drop 1 totals) ++ codes "]}"
json_more [] d some more = absurd (some refl)
json_more (t ∷ []) d some more = absurd (more refl)
json_more (t ∷ u ∷ totals) d some more = refl

-- one part more of a text that is made of parts
pub flat_more : (part : CacheTotals → List ℕ) (old : List ℕ) (totals : List CacheTotals) (i : ℕ) (d : CacheTotals)
    {a b : List ℕ} → i < length totals → a ≡ old ++ flat_map part (take i totals)
    → b ≡ a ++ part (get_or totals i d) → b ≡ old ++ flat_map part (take (i + 1) totals)
flat_more part old totals i d below was put =
    let x : CacheTotals = get_or totals i d in
    let before : List ℕ = flat_map part (take i totals) in
    let step = ap (flat_map part) (take_more totals i d below) ∙ flat_map-append part (take i totals) (x ∷ []) ∙ ap (λ l. before ++ l) (append-nil (part x)) in
    put ∙ ap (λ l. l ++ part x) was ∙ append_assoc old before (part x) ∙ ap (λ l. old ++ l) (sym step)
