-- Scripts: their lines, the turns that these say, and the text of the replies.
use Rattle.std.specs.Prelude.{◌⊎◌, ◌≡◌, ◌≢◌, ℕ, ◌+◌, ◌<◌, List, [], ◌∷◌, ◌++◌, length}
use Rattle.std.specs.List.{flat_map, AllByRecursion}
use Rattle.segword.specs.Words.{Shape}
use Rattle.segmodel.specs.Words.{fresh, Outcome, Runs, State, Turns}
use Rattle.segscript.specs.Spelling.{PassTurn, IsSayable, reply, spelling}
use Rattle.segscript.specs.declared.limits.TheConstants.{LINE_BYTES}

-- ---- lines

-- A line has no byte 10 in it.
abbrev pub IsLine : List ℕ → Type 0
IsLine line = AllByRecursion (λ byte. byte ≢ 10) line

-- a line with its end
abbrev pub ended : List ℕ → List ℕ
ended line = line ++ 10 ∷ []

-- The bytes are these lines with their ends, and then the bytes of a line that has no end.
pub record Splits (bytes : List ℕ) (lines : List (List ℕ)) (rest : List ℕ) : Type 0 where
  pub whole : bytes ≡ flat_map ended lines ++ rest
  pub each : AllByRecursion IsLine lines
  pub partial : IsLine rest

-- The lines say these turns. A line without bytes says none.
abbrev pub Say : ℕ → List (List ℕ) → List PassTurn → Type 0
Say passes [] [] = Unit {0}
Say passes [] (said ∷ turns) = ⊥
Say passes ([] ∷ lines) turns = Say passes lines turns
Say passes ((byte ∷ line) ∷ lines) [] = ⊥
Say passes ((byte ∷ line) ∷ lines) (said ∷ turns) =
    IsSayable passes said × (byte ∷ line ≡ spelling said) × Say passes lines turns

-- A bad line is too long, or has bytes and says no turn.
abbrev pub IsBad : ℕ → List ℕ → Type 0
IsBad passes line =
    (LINE_BYTES < length line)
    ⊎ ((0 < length line) × ((said : PassTurn) → IsSayable passes said → line ≡ spelling said → ⊥))

-- ---- replies

-- The lines say turns, which were taken one after the other, from the old state to the new one.
-- The text has the replies to them. There are this many passes, and `step` says what one turn is.
pub record ServesLines (passes : ℕ) {S : Type 0} (step : S → PassTurn → Outcome → S → Type 0)
    (old : S) (lines : List (List ℕ)) (text : List ℕ) (new : S) : Type 0 where
  pub turns : List PassTurn
  pub outcomes : List Outcome
  pub says : Say passes lines turns
  pub run : Runs step old turns outcomes new
  pub told : text ≡ flat_map reply outcomes

-- If there is one pass, its turn is served as the model says.
-- Of several passes no more is said here than that each turn has a reply.
abbrev pub Steps : Shape → State → PassTurn → Outcome → State → Type 0
Steps shape old said outcome new = shape.passes ≡ 1 → Turns shape old said.1 outcome new

-- From the old state on the model serves these lines, with this text of replies.
abbrev pub IsServed : Shape → State → List (List ℕ) → List ℕ → State → Type 0
IsServed shape old lines text new = ServesLines shape.passes (Steps shape) old lines text new

-- ---- whole scripts

-- The script is served to its end, with this text of replies.
-- The last line, which has no end, counts if it has bytes.
-- The lines led from the state `start` to the state `end`, and no turn came after them.
pub record ServesScript (passes : ℕ) {S : Type 0} (step : S → PassTurn → Outcome → S → Type 0)
    (start end : S) (script text : List ℕ) : Type 0 where
  pub lines : List (List ℕ)
  pub last : List ℕ
  pub splits : Splits script lines last
  pub served : ServesLines passes step start (lines ++ last ∷ []) text end

-- No line of the script is bad, and this is a text of replies that belongs to it.
abbrev pub IsTextOf : Shape → List ℕ → List ℕ → Type 0
IsTextOf shape script text =
    (end : State) × ServesScript shape.passes (Steps shape) (fresh shape) end script text

-- The n-th line of the script is its first bad one,
-- and this is a text of replies to the lines before it.
pub record IsFirstBad (shape : Shape) (script text : List ℕ) (n : ℕ) : Type 0 where
  pub lines : List (List ℕ)
  pub bad : List ℕ
  pub after : List ℕ
  pub state : State
  pub whole : script ≡ flat_map ended lines ++ (bad ++ after)
  pub each : AllByRecursion IsLine lines
  pub unbroken : IsLine bad
  -- The line has its end, or the script ends with it.
  pub ends : ((more : List ℕ) × (after ≡ 10 ∷ more)) ⊎ (after ≡ [])
  pub is_bad : IsBad shape.passes bad
  pub served : IsServed shape (fresh shape) lines text state
  pub number : n ≡ length lines + 1
