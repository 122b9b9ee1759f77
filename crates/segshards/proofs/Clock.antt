-- The steps of one shard among those of all: how many came, when each came, and its run by them.
use Rattle.std.proofs.Common.{◌≡◌, ◌≢◌, ℕ, zero, suc, ◌<◌, ◌≤◌, ◌⊎◌, cond, eqb, sym, refl, ap, ◌∙◌, subst, inl, inr, ⊎_elim, arith}
use Rattle.std.proofs.lemmas.Bool.{cases_eq, cases_lt, eq-eqb, ne_eqb}
use Rattle.segcore.specs.Words.{IsSeenRun, IsSeenStep, IsSeenWorld, World}
use Rattle.segshards.specs.Locality.{IsRunOfShards}

-- so many steps of a shard came before a moment
unfoldable pub came : (ℕ → ℕ) → ℕ → ℕ → ℕ
came taken n zero = 0
came taken n (suc t) = cond (eqb (taken t) n) (suc (came taken n t)) (came taken n t)

module _ (taken : ℕ → ℕ) (n : ℕ) where
  at_start : came taken n 0 ≡ 0
  unfolding came
  at_start = refl

  -- the step at a moment is the shard's own, or that of another
  stepped : (t : ℕ) → ((n ≡ taken t) × (came taken n (suc t) ≡ suc (came taken n t))) ⊎ ((n ≢ taken t) × (came taken n (suc t) ≡ came taken n t))
  unfolding came
  stepped t = ⊎_elim
      (λ e. inl (sym e, ap (λ b. cond b (suc (came taken n t)) (came taken n t)) (eq-eqb (taken t) n e)))
      (λ ne. inr ((λ e. ne (sym e)), ap (λ b. cond b (suc (came taken n t)) (came taken n t)) (ne_eqb (taken t) n ne)))
      (cases_eq (taken t) n)

  one_at_most : (t : ℕ) → (came taken n t ≤ came taken n (suc t)) × (came taken n (suc t) ≤ suc (came taken n t))
  one_at_most t = ⊎_elim
      (λ own. let up = own.1 in (omega (arith, up), omega (arith, up)))
      (λ other. let up = other.1 in (omega (arith, up), omega (arith, up)))
      (stepped t)

  pub grows : (s t : ℕ) → s ≤ t → came taken n s ≤ came taken n t
  grows s zero le = let e : s ≡ 0 = omega (arith, le) in let same = ap (came taken n) e in omega (arith, same)
  grows s (suc t) le = ⊎_elim
      (λ e. let same = ap (came taken n) e in omega (arith, same))
      (λ ne. let low = grows s t (omega (arith, le, ne)) in let up = (one_at_most t).0 in omega (arith, low, up))
      (cases_eq s (suc t))

  -- the last moment up to a bound before which at most so many steps of the shard came
  unfoldable pub when : ℕ → ℕ → ℕ
  when zero k = 0
  when (suc bound) k = ⊎_elim (λ _. when bound k) (λ _. suc bound) (cases_lt k (came taken n (suc bound)))

  pub record IsLatest (bound k t : ℕ) : Type 0 where
    pub until : t ≤ bound
    pub is : came taken n t ≡ k
    pub next : t < bound → came taken n (suc t) ≡ suc k

  pub latest : (bound k : ℕ) → k ≤ came taken n bound → IsLatest bound k (when bound k)
  unfolding when
  latest zero k le = let none = at_start in record { until = omega arith; is = omega (arith, none, le); next = λ lt. absurd (omega (arith, lt)) }
  latest (suc bound) k le = by_cases (cases_lt k (came taken n (suc bound))) (λ few. latest bound k few)
    where
      by_cases : (c : (k < came taken n (suc bound)) ⊎ (came taken n (suc bound) ≤ k))
          → (k ≤ came taken n bound → IsLatest bound k (when bound k))
          → IsLatest (suc bound) k (⊎_elim (λ _. when bound k) (λ _. suc bound) c)
      by_cases (inl lt) earlier =
          let up = (one_at_most bound).1 in
          let early = earlier (omega (arith, lt, up)) in
          let until = early.until in let is = early.is in record {
            until = omega (arith, until);
            is = is;
            next = λ _. ⊎_elim
                (λ before. early.next before)
                (λ after. let last : when bound k ≡ bound = omega (arith, until, after) in
                let here = ap (came taken n) last in let there = ap (λ t. came taken n (suc t)) last in omega (arith, here, there, is, lt, up))
                (cases_lt (when bound k) bound);
          }
      by_cases (inr ge) earlier = record { until = omega arith; is = omega (arith, le, ge); next = λ lt. absurd (omega (arith, lt)) }

  -- it isn't before a moment before which so many came at most
  pub since : (bound k t s : ℕ) → IsLatest bound k t → s ≤ bound → came taken n s ≤ k → s ≤ t
  since bound k t s is in_bound few = ⊎_elim
      (λ lt. let next = is.next (omega (arith, lt, in_bound)) in let up = grows (suc t) s lt in absurd (omega (arith, next, up, few)))
      (λ ge. ge)
      (cases_lt t s)

  -- it is before the bound if more came before that
  pub before : (bound k t : ℕ) → IsLatest bound k t → k < came taken n bound → t < bound
  before bound k t is more = ⊎_elim
      (λ lt. lt)
      (λ ge. let until = is.until in let e : t ≡ bound = omega (arith, until, ge) in let same = ap (came taken n) e in let at = is.is in absurd (omega (arith, same, at, more)))
      (cases_lt t bound)

module _ (count : ℕ) (world : ℕ → ℕ → World) (steps : ℕ) (run : IsRunOfShards count world steps) (n : ℕ) where
  still : (s t : ℕ) → s ≤ t → t ≤ steps → came run.taken n s ≡ came run.taken n t → world n t ≡ world n s
  still s zero le in_run e = let x : 0 ≡ s = omega (arith, le) in ap (world n) x
  still s (suc t) le in_run e = ⊎_elim
      (λ x. ap (world n) (sym x))
      (λ ne. let low : s ≤ t = omega (arith, le, ne) in ⊎_elim
      (λ own. let more = grows run.taken n s t low in let up = own.1 in absurd (omega (arith, e, more, up)))
      (λ other. run.apart t n (omega (arith, in_run)) other.0 ∙ still s t low (omega (arith, in_run)) (e ∙ other.1))
      (stepped run.taken n t))
      (cases_eq s (suc t))

  -- with as many steps of the shard its world is the same
  pub same_world : (s t : ℕ) → s ≤ steps → t ≤ steps → came run.taken n s ≡ came run.taken n t → world n s ≡ world n t
  same_world s t s_in t_in e = ⊎_elim
      (λ lt. sym (still s t (omega (arith, lt)) t_in e))
      (λ ge. still t s ge s_in (sym e))
      (cases_lt s t)

  -- the shard's world after so many steps of its own
  abbrev pub own_world : ℕ → World
  own_world k = world n (when run.taken n steps k)

  pub here : (t : ℕ) → t ≤ steps → world n t ≡ own_world (came run.taken n t)
  here t in_run = let is = latest run.taken n steps (came run.taken n t) (grows run.taken n t steps in_run) in same_world t (when run.taken n steps (came run.taken n t)) in_run is.until (sym is.is)

  pub own_run : n < count → IsSeenRun own_world (came run.taken n steps)
  own_run below = record {
    begins = let start = at_start run.taken n in let is = latest run.taken n steps 0 (omega arith) in
        subst IsSeenWorld (same_world 0 (when run.taken n steps 0) (omega arith) is.until (start ∙ sym is.is)) (run.begins n below);
    each = λ k lt.
        let t = when run.taken n steps k in
        let is = latest run.taken n steps k (omega (arith, lt)) in
        let in_run = before run.taken n steps k t is lt in
        let step = run.each t in_run in
        let after = latest run.taken n steps (suc k) lt in (
          step.0,
          subst (IsSeenStep step.0 (world n t)) (same_world (suc t) (when run.taken n steps (suc k)) in_run after.until (is.next in_run ∙ sym after.is))
              (subst (λ m. IsSeenStep step.0 (world m t) (world m (suc t))) (sym (own_step t k is.is (is.next in_run))) step.1),
        );
  }
    where
      own_step : (t k : ℕ) → came run.taken n t ≡ k → came run.taken n (suc t) ≡ suc k → n ≡ run.taken t
      own_step t k is next = ⊎_elim
          (λ own. own.0)
          (λ other. let up = other.1 in absurd (omega (arith, is, next, up)))
          (stepped run.taken n t)
