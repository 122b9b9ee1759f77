-- Workers that end one after the other.
use Rattle.std.proofs.Common.{◌≡◌, ℕ, List, [], ◌∷◌, ◌++◌, length, slice_get, Some, sym, ap, ◌∙◌, subst, ⊎_elim, arith}
use Rattle.std.proofs.lemmas.Option.{slice_get_within, same_Some}
use Rattle.segmodel.proofs.ListPlaces.{front_or_last}
use Rattle.segbase.specs.Words.{Board, Pass}
use Rattle.segload.specs.Words.{PassTotals, Worker}
use Rattle.segload.specs.Working.{EndsAll, EndsWork}
use Rattle.segload.proofs.Lists.{element_at}

-- the totals and the passes at the places of these workers are what the workers came to
abbrev pub AreEnds : Board → ℕ → List Worker → List PassTotals → List Pass → Type 0
AreEnds b commands workers totals passes = (n : ℕ) (worker : Worker) (of : PassTotals) (pass : Pass)
    → slice_get workers n ≡ Some worker → slice_get totals n ≡ Some of → slice_get passes n ≡ Some pass → EndsWork b commands worker of pass

-- and those of one worker more
pub one_more_ended : (b : Board) (commands : ℕ) (workers : List Worker) (totals : List PassTotals)
    (passes : List Pass) (worker : Worker) (of : PassTotals) (pass : Pass) → length passes ≡ length totals
    → slice_get workers (length totals) ≡ Some worker
    → EndsWork b commands worker of pass → AreEnds b commands workers totals passes → AreEnds b commands workers (totals ++ of ∷ []) (passes ++ pass ∷ [])
one_more_ended b commands workers totals passes worker of pass long here ends so_far n w t p at_w at_t at_p =
    ⊎_elim
    (λ front. let below = slice_get_within totals n t front in
    ⊎_elim (λ also. so_far n w t p at_w front also) (λ last. absurd (omega (arith, below, last.0, long)))
    (front_or_last passes pass p n at_p))
    (λ last. ⊎_elim (λ front. let below = slice_get_within passes n p front in absurd (omega (arith, below, last.0, long))) (λ also. both last also) (front_or_last passes pass p n at_p))
    (front_or_last totals of t n at_t)
  where
    both : (n ≡ length totals) × (of ≡ t) → (n ≡ length passes) × (pass ≡ p) → EndsWork b commands w t p
    both last also =
        let is : worker ≡ w = same_Some worker w (sym (ap (slice_get workers) last.0 ∙ here) ∙ at_w) in
        subst (λ x. EndsWork b commands w x p) last.1 (subst (λ x. EndsWork b commands w of x) also.1 (subst (λ x. EndsWork b commands x of pass) is ends))

-- the worker that came to a pass
pub ended_at : (b : Board) (commands : ℕ) (workers : List Worker) (totals : List PassTotals) (passes : List Pass)
    → EndsAll b commands workers totals passes → (n : ℕ) (p : Pass) → slice_get passes n ≡ Some p
    → (worker : Worker) × (slice_get workers n ≡ Some worker) × ((of : PassTotals) × EndsWork b commands worker of p)
ended_at b commands workers totals passes ends n p at =
    let below = slice_get_within passes n p at in
    let all = ends.all in
    let counted = ends.counted in
    let worker = element_at workers n (omega (arith, below, all)) in
    let of = element_at totals n (omega (arith, below, all, counted)) in
    (worker.0, worker.1, (of.0, ends.each n worker.0 of.0 p worker.1 of.1 at))
