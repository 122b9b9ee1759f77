-- What the parts of a run do, between its reads.
-- An engine takes the turns: it has `passes` passes, and `step` says what one turn is.
use Rattle.std.specs.Prelude.{◌⊎◌, ◌≡◌, ℕ, ◌+◌, ◌≤◌, List, [], ◌∷◌, ◌++◌, length, Result, Ok, Err}
use Rattle.segmodel.specs.Words.{Outcome}
use Rattle.segscript.specs.Spelling.{PassTurn}
use Rattle.segscript.specs.Script.{Splits, IsBad, ServesLines, ServesScript}
use Rattle.segscript.specs.Device.{IsBeginning, one_more}
use Rattle.segscript.specs.Run.{StopsWriting, IsSeenBad}
use Rattle.segscript.specs.declared.fault.RunFault.{RunFault}
use Rattle.segscript.specs.declared.fault.RunFault.TheVariants as fault
use Rattle.segscript.specs.declared.limits.TheConstants.{LINE_BYTES}

-- How far a run has come. The bytes `seen` came, and `text` has the replies to their whole lines.
-- These lines left the engine in the state `reached`.
-- The bytes of the line that has no end yet are kept, with its number.
pub record HasServed (passes : ℕ) {S : Type 0} (step : S → PassTurn → Outcome → S → Type 0)
    (start reached : S) (seen text line : List ℕ) (number : ℕ) : Type 0 where
  pub lines : List (List ℕ)
  pub splits : Splits seen lines line
  pub short : length line ≤ LINE_BYTES
  pub served : ServesLines passes step start lines text reached
  pub numbered : number ≡ length lines + 1

-- The reader handed out some bytes up to here,
-- and up to here the writer took the replies to all their whole lines.
abbrev pub AllReplied : (passes : ℕ) {S : Type 0}
    (step : S → PassTurn → Outcome → S → Type 0) {R W : Type 0} → (R → List ℕ → R → Type 0)
    → (W → List ℕ → W → Type 0) → S → R → W → List ℕ → ℕ → Type 0
AllReplied passes {S} step {R} {W} hands takes reached reader writer line number =
    (start : S) × (from : R) × (to : W) × (seen : List ℕ) × (told : List ℕ)
    × hands from seen reader
    × takes to told writer
    × HasServed passes step start reached seen told line number

-- ---- what became of the parts

module _ (passes : ℕ) {S : Type 0} (step : S → PassTurn → Outcome → S → Type 0) where
  -- what became of one whole line, from the old state to the new one
  abbrev pub LineOutcome : S
      → S
      → (List ℕ → Type 0)
      → List ℕ
      → ℕ
      → Result (Unit {0}) RunFault
      → Type 0
  LineOutcome old new Wrote line number (Ok _) =
      (text : List ℕ) × Wrote text × ServesLines passes step old (line ∷ []) text new
  LineOutcome old new Wrote line number (Err (fault.Line n)) =
      Wrote [] × (n ≡ number) × (new ≡ old) × IsBad passes line
  LineOutcome old new Wrote line number (Err fault.Write) =
      (part : List ℕ) × (text : List ℕ)
      × Wrote part
      × IsBeginning part text
      × ServesLines passes step old (line ∷ []) text new
  LineOutcome old new Wrote line number (Err _) = ⊥

  -- what became of bytes that were fed: `seen` are all that came, these among them,
  -- and `told` was written before; `reached` is the state after them
  abbrev pub FeedOutcome : S
      → S
      → (List ℕ → Type 0)
      → List ℕ
      → List ℕ
      → List ℕ
      → ℕ
      → Result (Unit {0}) RunFault
      → Type 0
  FeedOutcome start reached Wrote seen told line number (Ok _) =
      (text : List ℕ)
      × Wrote text
      × HasServed passes step start reached seen (told ++ text) line number
  FeedOutcome start reached Wrote seen told line number (Err (fault.Line n)) =
      (text : List ℕ) × Wrote text × IsSeenBad passes step start reached ⊥ seen (told ++ text) n
  FeedOutcome start reached Wrote seen told line number (Err fault.Write) =
      (part : List ℕ) × Wrote part × StopsWriting passes step start reached ⊥ seen (told ++ part)
  FeedOutcome start reached Wrote seen told line number (Err _) = ⊥

  -- what became of the last line, at the end of the script, which leaves the state `end`
  abbrev pub FinishOutcome : S
      → S
      → (List ℕ → Type 0)
      → ℕ
      → ℕ
      → List ℕ
      → List ℕ
      → Result (Unit {0}) RunFault
      → Type 0
  FinishOutcome start end Wrote before flushes seen told (Ok _) =
      (text : List ℕ)
      × Wrote text
      × (flushes ≡ one_more before)
      × ServesScript passes step start end seen (told ++ text)
  FinishOutcome start end Wrote before flushes seen told (Err (fault.Line n)) =
      (text : List ℕ)
      × Wrote text
      × (flushes ≡ before)
      × IsSeenBad passes step start end (Unit {0}) seen (told ++ text) n
  FinishOutcome start end Wrote before flushes seen told (Err fault.Write) =
      (part : List ℕ)
      × Wrote part
      × (((flushes ≡ before)
      × StopsWriting passes step start end (Unit {0}) seen (told ++ part))
      ⊎ ((flushes ≡ one_more before) × ServesScript passes step start end seen (told ++ part)))
  FinishOutcome start end Wrote before flushes seen told (Err _) = ⊥
