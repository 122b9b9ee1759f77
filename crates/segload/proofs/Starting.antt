-- Workers that begin one after the other, and what their threads give back.
use Rattle.std.proofs.Common.{◌≡◌, ℕ, suc, ◌+◌, Bool, List, ◌∷◌, slice_get, sym, ap, ◌∙◌, subst, arith}
use Rattle.segbase.specs.Words.{Board, IsNewPass, number}
use Rattle.segload.specs.Words.{LoadPlan, Worker}
use Rattle.segload.specs.Working.{draws_for, IsAtWork, BeginsLoad, BeginsPlan, HasMadePlan}
use Rattle.segload.specs.Lists.{AllAt}

module _ (b : Board) (plan : LoadPlan) where
  -- those from this place on, of which so many are gone, may begin
  abbrev pub Wait : ℕ → List Worker → Type 0
  Wait gone workers = AllAt (λ n worker. BeginsPlan b plan (gone + n) worker) workers

  -- the first of those that wait may begin
  pub first_begins : (gone : ℕ) (worker : Worker) (rest all : List Worker) → all ≡ worker ∷ rest → Wait gone all
      → BeginsLoad b worker.workload (number worker.client.pass) worker
      × (worker.workload ≡ draws_for plan (number worker.client.pass))
  first_begins gone worker rest all is wait =
      let begins = wait 0 worker (ap (λ l. slice_get l 0) is) in (
        record {
          new = subst (λ n. IsNewPass b n worker.client.pass) (sym begins.new.number) begins.new;
          at_work = subst (λ d. IsAtWork b d worker.client.pass 0 worker) (sym begins.at_work.workload) begins.at_work;
          runs = begins.runs;
        },
        begins.at_work.workload ∙ ap (draws_for plan) (sym begins.new.number),
      )

  pub first_numbered : (gone : ℕ) (worker : Worker) (rest all : List Worker) → all ≡ worker ∷ rest → Wait gone all → number worker.client.pass ≡ gone
  first_numbered gone worker rest all is wait = let n = (wait 0 worker (ap (λ l. slice_get l 0) is)).new.number in omega (arith, n)

  pub rest_begin : (gone now : ℕ) (worker : Worker) (rest all : List Worker) → all ≡ worker ∷ rest → now ≡ gone + 1 → Wait gone all → Wait now rest
  rest_begin gone now worker rest all is one wait n w at = subst (λ m. BeginsPlan b plan m w) (omega (arith, one)) (wait (suc n) w (ap (λ l. slice_get l (suc n)) is ∙ at))

  -- what a thread gave back is what its promise says
  pub worked_there : (b' : Board) (s s' : ℕ → ℕ → Bool → Type 0) (t t' : ℕ → ℕ
      → Type 0) (plan' : LoadPlan) (n n' : ℕ) (w w' : Worker) → b' ≡ b → s' ≡ s → t' ≡ t → plan' ≡ plan → n' ≡ n
      → w' ≡ w → HasMadePlan b' s' t' plan' n' w' → HasMadePlan b s t plan n w
  worked_there b' s s' t t' plan' n n' w w' e d k c f h worked =
      subst (HasMadePlan b s t plan n) h (subst (λ x. HasMadePlan b s t plan x w') f (subst (λ x. HasMadePlan b s t x n' w') c
      (subst (λ x. HasMadePlan b s x plan' n' w') k (subst (λ x. HasMadePlan b x t' plan' n' w') d (subst (λ x. HasMadePlan x s' t' plan' n' w') e worked)))))
