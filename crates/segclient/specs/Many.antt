-- Looks ahead, and calls on several keys, one after another.
use Rattle.std.specs.Prelude.{◌≡◌, ◌⊎◌, ◌+◌, ◌%◌, ℕ, List, [], ◌∷◌}
use Rattle.segbase.specs.Words.{Board}
use Rattle.segindex.specs.Words.{LooksAhead}
use Rattle.segclient.specs.declared.member.Member.{Member}
use Rattle.segclient.specs.Made.{KeepsCounts}

-- Its pass looked ahead, by at most so many steps.
pub record LooksAheadBy (most : ℕ) (b : Board) (old new : Member) : Type 0 where
  pub looks : LooksAhead most b old.pass new.pass
  pub counts : KeepsCounts old new

-- Before the call on the key at this place it did nothing. Or 16 divides the place,
-- and it looked ahead, by at most 16 steps.
abbrev pub LooksBefore : ℕ → Board → Member → Member → Type 0
LooksBefore place b old new = (new ≡ old) ⊎ ((place % 16 ≡ 0) × LooksAheadBy 16 b old new)

-- so it was from this place on
unfoldable pub InTurnFrom : {A : Type 0}
    → (List ℕ → A → Board → Member → Member → Type 0)
    → ℕ → List (List ℕ) → List A → Board → Member → Member → Type 0
InTurnFrom Made place [] [] b old new = new ≡ old
InTurnFrom Made place (key ∷ keys) (told ∷ answers) b old new =
    (ready next : Member) × LooksBefore place b old ready × Made key told b ready next
    × InTurnFrom Made (place + 1) keys answers b next new
InTurnFrom Made place _ _ b old new = ⊥

-- a call on each key, in the order of the keys, with the answer that has its key's place,
-- and looks ahead before the first of each sixteen
abbrev pub InTurn : {A : Type 0}
    → (List ℕ → A → Board → Member → Member → Type 0)
    → List (List ℕ) → List A → Board → Member → Member → Type 0
InTurn Made = InTurnFrom Made 0
