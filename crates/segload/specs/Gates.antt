-- What a gate answers before the commands of a load,
-- by what it may answer before each command of each pass.
-- What a gate is told of these commands.
use Rattle.std.specs.Prelude.{◌≡◌, ◌⊎◌, ℕ, ◌<◌, Bool, false, true, ⊤}

-- Each command of each pass is let through.
abbrev pub lets_all_through : ℕ → ℕ → Bool → Type 0
lets_all_through pass call answer = answer ≡ true

-- By default nothing more is so of a gate once it was told of a command.
abbrev pub knows_nothing : ℕ → ℕ → Type 0
knows_nothing pass call = ⊤

-- The gate may let the first `commands` commands of a pass through.
abbrev pub LetsThrough : (ℕ → ℕ → Bool → Type 0) → ℕ → ℕ → Type 0
LetsThrough may_answer commands pass = (call : ℕ) → call < commands → may_answer pass call true

-- The gate was told of each of the first `commands` commands of a pass, by its number.
abbrev pub IsToldOf : (ℕ → ℕ → Type 0) → ℕ → ℕ → Type 0
IsToldOf told commands pass = (call : ℕ) → call < commands → told pass call

-- The gate may let all `commands` commands of a pass through, and was told of each.
abbrev pub WentThrough : (ℕ → ℕ → Bool → Type 0) → (ℕ → ℕ → Type 0) → ℕ → ℕ → Type 0
WentThrough may_answer told commands pass =
    LetsThrough may_answer commands pass × IsToldOf told commands pass

-- The gate may stop a pass before one of its `commands` commands.
-- It may let those before that one through, and was told of each of them.
pub record Stops (may_answer : ℕ → ℕ → Bool → Type 0) (told : ℕ → ℕ → Type 0) (commands pass : ℕ)
    : Type 0 where
  pub call : ℕ
  pub below : call < commands
  pub until : LetsThrough may_answer call pass
  pub told_of : IsToldOf told call pass
  pub stopped : may_answer pass call false

-- A pass went through with all its commands, or was stopped before one of them.
abbrev pub RanToEnd : (ℕ → ℕ → Bool → Type 0) → (ℕ → ℕ → Type 0) → ℕ → ℕ → Type 0
RanToEnd may_answer told commands pass =
    WentThrough may_answer told commands pass ⊎ Stops may_answer told commands pass
