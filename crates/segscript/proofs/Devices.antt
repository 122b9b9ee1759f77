-- What was taken so far, one write on; and how often a reader handed out nothing.
use Rattle.std.proofs.Math.Dec.{eqb-suc-zero}
use Rattle.std.proofs.lemmas.Bool.{true≢false}
use Rattle.std.proofs.Common.{Err, Ok, Result, cond, inl, inr, ap, refl, sym, ◌∙◌, Bool, ◌∷◌, arith, zero, suc, ◌≤◌, ◌<◌, eqb, false, ◌≡◌, ℕ, List, [], ◌++◌, length, take, drop, append_assoc, append-nil}
use Rattle.std.proofs.lemmas.List.{take-append-drop}
use Rattle.segmodel.specs.Words.{Outcome}
use Rattle.segscript.specs.Spelling.{PassTurn}
use Rattle.segscript.specs.Device.{ends_after, one_more, TakesPart}
use Rattle.segscript.specs.Run.{EndsOnce}
use Rattle.segscript.specs.Running.{FinishOutcome}
use Rattle.segscript.specs.Words.{RunFault}
use Rattle.segscript.specs.declared.fault.RunFault.TheVariants as fault

module _ {W : Type 0} (takes : W → List ℕ → W → Type 0) (more : (s t u : W) (a b : List ℕ) → takes s a t → takes t b u → takes s (a ++ b) u) where
  -- the part that was taken, and the rest of the bytes
  abbrev pub TakenUpTo : W → List ℕ → List ℕ → W → Type 0
  TakenUpTo old bytes rest new = (part : List ℕ) × (bytes ≡ part ++ rest) × takes old part new

  pub stops : (old mid new : W) (bytes rest : List ℕ) → TakenUpTo old bytes rest mid → 0 < length rest → takes mid [] new → TakesPart takes old bytes new
  stops old mid new bytes rest so_far some last = (so_far.0 ++ [], (rest, simp append_assoc so_far.1, some), more old mid new so_far.0 [] so_far.2 last)

  pub goes_on : (old mid new : W) (bytes rest left : List ℕ) (n : ℕ) → TakenUpTo old bytes rest mid → takes mid (take n rest) new → left ≡ drop n rest → TakenUpTo old bytes left new
  goes_on old mid new bytes rest left n so_far next is =
      (so_far.0 ++ take n rest, rw is (simp (append_assoc, take-append-drop) so_far.1), more old mid new so_far.0 (take n rest) so_far.2 next)

  pub none_taken : (old new : W) (bytes : List ℕ) (n : ℕ) → n ≤ 0 → takes old (take n bytes) new → takes old [] new
  none_taken old new bytes zero none taken = taken
  none_taken old new bytes (suc n) none taken = absurd (omega arith)

  -- a flush takes nothing
  pub nothing_more : (old mid new : W) (text : List ℕ) → takes old text mid → takes mid [] new → takes old text new
  nothing_more old mid new text all none = rw append-nil at (more old mid new text [] all none)

pub not_zero : (n : ℕ) → 0 < n → eqb n 0 ≡ false
not_zero zero h = absurd (omega arith)
not_zero (suc n) h = eqb-suc-zero n

-- a list that is not tested empty has something in it
pub nonempty : {A : Type 0} (xs : List A) (empty : Bool) → empty ≡ eqb (length xs) 0 → empty ≡ false → 0 < length xs
nonempty [] empty e none = absurd (true≢false (sym e ∙ none))
nonempty (x ∷ xs) empty e none = omega arith

-- ---- how often a reader handed out nothing

pub end_read : (count n : ℕ) → n ≡ 0 → ends_after count n ≡ one_more count
end_read count n none = ap (ends_after count) none

pub more_read : (count n : ℕ) → (n ≡ 0 → ⊥) → ends_after count n ≡ count
more_read count zero some = absurd (some refl)
more_read count (suc n) some = ap (λ none. cond none (one_more count) count) (eqb-suc-zero n)

-- where it had not, no fault says that it had
pub unended_still : (before ends : ℕ) (f : RunFault) → ends ≡ before → EndsOnce before ends (Err f)
unended_still before ends fault.Read none = none
unended_still before ends fault.Write none = inl none
unended_still before ends fault.TooLong none = none
unended_still before ends (fault.Line n) none = inl none
unended_still before ends (fault.Make f) none = none

-- once it has, the last line is all that is left
pub ended_once : (passes : ℕ) {S : Type 0} (step : S → PassTurn → Outcome → S
    → Type 0) (start end : S) (Wrote : List ℕ → Type 0) (flushes flushes' : ℕ) (seen told : List ℕ)
    (before ends : ℕ) (result : Result (Unit {0}) RunFault)
    → ends ≡ one_more before → FinishOutcome passes step start end Wrote flushes flushes' seen told result → EndsOnce before ends result
ended_once passes step start end Wrote flushes flushes' seen told before ends (Ok u) once out = once
ended_once passes step start end Wrote flushes flushes' seen told before ends (Err (fault.Line n)) once out = inr once
ended_once passes step start end Wrote flushes flushes' seen told before ends (Err fault.Write) once out = inr once
ended_once passes step start end Wrote flushes flushes' seen told before ends (Err fault.Read) once out = absurd out
ended_once passes step start end Wrote flushes flushes' seen told before ends (Err fault.TooLong) once out = absurd out
ended_once passes step start end Wrote flushes flushes' seen told before ends (Err (fault.Make f)) once out = absurd out
