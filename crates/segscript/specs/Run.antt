-- How a run of a script ends.
-- An engine takes its turns: it has `passes` passes, and `step` says what one turn is.
-- The turns lead the engine from the state `start` to the state `end`, and none comes after them.
use Rattle.std.specs.Prelude.{◌⊎◌, ◌≡◌, ℕ, ◌+◌, ◌^◌, ◌≤◌, Bool, true, false, List, [], ◌∷◌, ◌++◌, length, Result, Ok, Err}
use Rattle.std.specs.List.{flat_map, AllByRecursion}
use Rattle.segword.specs.Words.{IsValid, Shape}
use Rattle.segmodel.specs.Words.{fresh, Outcome, State}
use Rattle.segbase.specs.Words.{IsMakeFault}
use Rattle.segscript.specs.Spelling.{PassTurn}
use Rattle.segscript.specs.Script.{IsLine, ended, Splits, IsBad, ServesLines, Steps, ServesScript}
use Rattle.segscript.specs.Device.{IsBeginning, one_more}
use Rattle.segscript.specs.declared.fault.RunFault.{RunFault}
use Rattle.segscript.specs.declared.fault.RunFault.TheVariants as fault
use Rattle.segscript.specs.declared.limits.TheConstants.{KEPT_BYTES, LINE_BYTES}

-- ---- which fault

abbrev pub is_read_fault : Result (Unit {0}) RunFault → Bool
is_read_fault (Err fault.Read) = true
is_read_fault _ = false

abbrev pub is_write_fault : Result (Unit {0}) RunFault → Bool
is_write_fault (Err fault.Write) = true
is_write_fault _ = false

abbrev pub is_make_fault : Result (Unit {0}) RunFault → Bool
is_make_fault (Err (fault.Make f)) = true
is_make_fault _ = false

-- If creating the index failed, the fault is the shape's first one,
-- or out of memory for a valid shape.
-- With any other result the shape is valid.
abbrev pub ShapeIsAnswered : Shape → Result (Unit {0}) RunFault → Type 0
ShapeIsAnswered shape (Err (fault.Make f)) = IsMakeFault shape f
ShapeIsAnswered shape _ = IsValid shape

-- ---- how far a run came

-- All whole lines of the bytes that came are served, with this text of replies.
-- The line after them is not too long so far.
pub record ServesWholeLines (passes : ℕ) {S : Type 0} (step : S → PassTurn → Outcome → S → Type 0)
    (start end : S) (seen text : List ℕ) : Type 0 where
  pub lines : List (List ℕ)
  pub rest : List ℕ
  pub splits : Splits seen lines rest
  pub short : length rest ≤ LINE_BYTES
  pub served : ServesLines passes step start lines text end

-- A reply could not be written whole. It is the reply to `line`, which was served last.
-- All replies to the lines before it are written, and then the part `begun` of this one.
-- The end of the line was read, or (if `Ends` holds) nothing comes after it.
pub record StopsWriting (passes : ℕ) {S : Type 0} (step : S → PassTurn → Outcome → S → Type 0)
    (start end : S) (Ends : Type 0) (seen part : List ℕ) : Type 0 where
  pub lines : List (List ℕ)
  pub line : List ℕ
  pub after : List ℕ
  pub state : S
  pub told : List ℕ
  pub begun : List ℕ
  pub reply : List ℕ
  pub whole : seen ≡ flat_map ended lines ++ (line ++ after)
  pub each : AllByRecursion IsLine lines
  pub unbroken : IsLine line
  pub known : ((more : List ℕ) × (after ≡ 10 ∷ more)) ⊎ ((after ≡ []) × Ends)
  pub earlier : ServesLines passes step start lines told state
  pub served : ServesLines passes step state (line ∷ []) reply end
  pub begins : IsBeginning begun reply
  pub written : part ≡ told ++ begun

-- Line n of these bytes is bad, and no line before it is.
-- The text has the replies to the lines before it. The bad line led to no turn.
-- The end of the bad line was read, or one byte more than a line can have,
-- or (if `Ends` holds) nothing comes after it.
-- So the run reports the line neither early nor on a guess.
pub record IsSeenBad (passes : ℕ) {S : Type 0} (step : S → PassTurn → Outcome → S → Type 0)
    (start end : S) (Ends : Type 0) (seen text : List ℕ) (n : ℕ) : Type 0 where
  pub lines : List (List ℕ)
  pub bad : List ℕ
  pub after : List ℕ
  pub whole : seen ≡ flat_map ended lines ++ (bad ++ after)
  pub each : AllByRecursion IsLine lines
  pub unbroken : IsLine bad
  pub is_bad : IsBad passes bad
  pub known : ((more : List ℕ) × (after ≡ 10 ∷ more))
      ⊎ (length bad ≡ KEPT_BYTES)
      ⊎ ((after ≡ []) × Ends)
  pub served : ServesLines passes step start lines text end
  pub number : n ≡ length lines + 1

-- ---- how it ends

-- `Read` is so of all bytes that were read, and `Wrote` of all that were written.
-- `Ends` is that the reader is at its end.
-- `before` flushes were asked for before the run, and `flushes` after it.
-- A fault of creating the index is none of a run, so nothing is said of it.
abbrev pub EndOfRun : (passes : ℕ) {S : Type 0} (step : S → PassTurn → Outcome → S → Type 0)
    → S → S
    → (List ℕ → Type 0) → Type 0 → (List ℕ → Type 0) → ℕ → ℕ → Result (Unit {0}) RunFault → Type 0
EndOfRun passes step start end Read Ends Wrote before flushes (Ok _) =
    (script : List ℕ) × (text : List ℕ)
    × Read script
    × Ends
    × Wrote text
    × (flushes ≡ one_more before)
    × ServesScript passes step start end script text
EndOfRun passes step start end Read Ends Wrote before flushes (Err fault.Read) =
    (seen : List ℕ) × (text : List ℕ)
    × Read seen
    × Wrote text
    × (flushes ≡ before)
    × ServesWholeLines passes step start end seen text
EndOfRun passes step start end Read Ends Wrote before flushes (Err fault.TooLong) =
    (seen : List ℕ) × (text : List ℕ)
    × Read seen
    × Wrote text
    × (flushes ≡ before)
    × ServesWholeLines passes step start end seen text
    × (length seen ≡ 2 ^ 63)
EndOfRun passes step start end Read Ends Wrote before flushes (Err (fault.Line n)) =
    (seen : List ℕ) × (text : List ℕ)
    × Read seen
    × Wrote text
    × (flushes ≡ before)
    × IsSeenBad passes step start end Ends seen text n
EndOfRun passes step start end Read Ends Wrote before flushes (Err fault.Write) =
    (seen : List ℕ) × (part : List ℕ)
    × Read seen
    × Wrote part
    × (((flushes ≡ before) × StopsWriting passes step start end Ends seen part)
    ⊎ ((flushes ≡ one_more before) × Ends × ServesScript passes step start end seen part))
EndOfRun passes step start end Read Ends Wrote before flushes (Err (fault.Make f)) = Unit {0}

-- If all ended well, one read handed out nothing, and else at most one did.
-- After it the reader isn't asked again.
-- `before` such reads were made before the run, and `ends` when it ended.
abbrev pub EndsOnce : ℕ → ℕ → Result (Unit {0}) RunFault → Type 0
EndsOnce before ends (Ok _) = ends ≡ one_more before
EndsOnce before ends (Err fault.Read) = ends ≡ before
EndsOnce before ends (Err fault.Write) = (ends ≡ before) ⊎ (ends ≡ one_more before)
EndsOnce before ends (Err (fault.Line n)) = (ends ≡ before) ⊎ (ends ≡ one_more before)
EndsOnce before ends (Err (fault.Make f)) = ends ≡ before
EndsOnce before ends (Err fault.TooLong) = ends ≡ before

-- The run ends as the model says, from a cache in which nothing was done before.
-- The cache is created for the run alone, so the state at the end is some state.
abbrev pub RunOutcome : Shape → (List ℕ → Type 0) → Type 0 → (List ℕ → Type 0) → ℕ → ℕ
    → Result (Unit {0}) RunFault → Type 0
RunOutcome shape Read Ends Wrote before flushes result =
    (end : State)
    × EndOfRun shape.passes (Steps shape) (fresh shape) end Read Ends Wrote before flushes result
