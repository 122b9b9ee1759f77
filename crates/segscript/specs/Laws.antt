-- Laws of the text of scripts. Each is proved as the contract of a function in src/laws.rt.
use Rattle.std.specs.Prelude.{◌≡◌, ◌↔◌, ℕ, ◌%◌, ◌^◌, ◌≤◌, List, length, Option, Some, IsSome}
use Rattle.segword.specs.Words.{Shape}
use Rattle.segmodel.specs.Words.{State}
use Rattle.segscript.specs.Explaining.{FindsBad}
use Rattle.segscript.specs.Reasons.{line_fault}
use Rattle.segscript.specs.Run.{IsSeenBad}
use Rattle.segscript.specs.Script.{IsBad, Steps}
use Rattle.segscript.specs.Spelling.{PassTurn, IsSayable, spelling}
use Rattle.segscript.specs.declared.explain.BadLine.{BadLine}
use Rattle.segscript.specs.declared.limits.TheConstants.{LINE_BYTES}

-- A line that spells a turn has at most LINE_BYTES bytes.
abbrev pub LinesFit : Type 0
LinesFit = (passes : ℕ) (said : PassTurn)
    → IsSayable passes said
    → length (spelling said) ≤ LINE_BYTES

-- If one line spells two turns of passes, they are the same turn of the same pass.
abbrev pub LineSpellsOneTurn : Type 0
LineSpellsOneTurn = (passes : ℕ) (left right : PassTurn)
    → IsSayable passes left
    → IsSayable passes right
    → spelling left ≡ spelling right
    → left ≡ right

-- A line has a fault exactly if it is bad.
abbrev pub BadLinesHaveAFault : Type 0
BadLinesHaveAFault = (passes : ℕ) (line : List ℕ)
    → IsSome (line_fault passes line) ↔ IsBad passes line

-- If a run reports a line of these bytes as bad, a bad line is found in them, and it has the number
-- of the line that is reported, modulo 2^64. A run reports a line even before the bytes end.
abbrev pub ExplainedIsReported : Type 0
ExplainedIsReported = (shape : Shape) (start end : State) (seen text : List ℕ) (n : ℕ)
    (found : Option BadLine)
    → IsSeenBad shape.passes (Steps shape) start end (Unit {0}) seen text n
    → FindsBad shape.passes seen found
    → (bad : BadLine) × (found ≡ Some bad) × (bad.number ≡ n % 2 ^ 64)
