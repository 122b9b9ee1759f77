-- Looks ahead, and calls on several keys, one after another.
use Rattle.std.specs.Prelude.{◌≡◌, ◌⊎◌, ◌+◌, ◌≤◌, ◌%◌, ℕ, List, [], ◌∷◌, length}
use Rattle.segmodel.specs.Words.{GetAnswer, GetsAnswer}
use Rattle.segclient.specs.Made.{Gets, GetsVersion}
use Rattle.segclient.specs.Many.{LooksAheadBy}
use Rattle.segshards.specs.declared.client.Client.{Client}
use Rattle.segshards.specs.Client.{MakesCall}

-- a get of the key had this answer
abbrev pub GetsKey : List ℕ → GetAnswer → Client → Client → Type 0
GetsKey key told = MakesCall key (Gets key told)

-- a get of the key with its version had this answer
abbrev pub GetsKeyVersion : List ℕ → GetsAnswer → Client → Client → Type 0
GetsKeyVersion key told = MakesCall key (GetsVersion key told)

-- it looked ahead for each key, in their order: by at most one step in the key's shard
unfoldable pub LooksAhead : List (List ℕ) → Client → Client → Type 0
LooksAhead [] old new = new ≡ old
LooksAhead (key ∷ keys) old new =
    (next : Client) × MakesCall key (LooksAheadBy 1) old next × LooksAhead keys next new

-- Before the call on the key at this place it did nothing. Or 16 divides the place,
-- and it looked ahead for at most 16 keys.
abbrev pub LooksBefore : ℕ → Client → Client → Type 0
LooksBefore place old new = (new ≡ old)
    ⊎ ((place % 16 ≡ 0) × (keys : List (List ℕ)) × (length keys ≤ 16) × LooksAhead keys old new)

-- so it was from this place on
unfoldable pub InTurnFrom : {A : Type 0}
    → (List ℕ → A → Client → Client → Type 0)
    → ℕ → List (List ℕ) → List A → Client → Client → Type 0
InTurnFrom Made place [] [] old new = new ≡ old
InTurnFrom Made place (key ∷ keys) (told ∷ answers) old new =
    (ready next : Client) × LooksBefore place old ready × Made key told ready next
    × InTurnFrom Made (place + 1) keys answers next new
InTurnFrom Made place _ _ old new = ⊥

-- a call on each key, in the order of the keys, with the answer that has its key's place,
-- and looks ahead before the first of each sixteen
abbrev pub InTurn : {A : Type 0}
    → (List ℕ → A → Client → Client → Type 0)
    → List (List ℕ) → List A → Client → Client → Type 0
InTurn Made = InTurnFrom Made 0
