-- What the exports do that look up several keys at a time.
use Rattle.std.specs.Prelude.{◌≡◌, ◌⊎◌, ◌+◌, ◌≤◌, ◌%◌, ℕ, Bool, true, false, List, [], ◌∷◌, length}
use Rattle.std.specs.Prelude.{Option, slice_range}
use Rattle.segclient.specs.Many.{LooksAheadBy}
use Rattle.seghandles.specs.declared.client.SharedClient.{SharedClient}
use Rattle.seghandles.specs.declared.kept.Kept.{Kept}
use Rattle.seghandles.specs.declared.many.Lookup.{Lookup}
use Rattle.seghandles.specs.declared.status.Status.{Status}
use Rattle.seghandles.specs.declared.status.Status.TheVariants as status
use Rattle.seghandles.specs.Calls.{MakesCall}
use Rattle.seghandles.specs.Exports.{Answers, ByClient, Out}
use Rattle.seghandles.specs.Reading.{GotKey, GotKeyVersion}

-- so many bytes from this place on, and none if they aren't all among these
pub record AreBytesAt (bytes : List ℕ) (at len : ℕ) (found : List ℕ) : Type 0 where
  pub inside : at + len ≤ length bytes → found ≡ slice_range bytes at (at + len)
  pub outside : ¬ (at + len ≤ length bytes) → found ≡ []

-- the key of a lookup: its bytes among those of the call
abbrev pub IsKeyOf : List ℕ → Lookup → List ℕ → Type 0
IsKeyOf keys lookup key = AreBytesAt keys lookup.key_at lookup.key_len key

-- the place of its key stays
pub record KeepsKey (was is : Lookup) : Type 0 where
  pub at : is.key_at ≡ was.key_at
  pub len : is.key_len ≡ was.key_len

abbrev pub out_of : Lookup → Out
out_of lookup = (lookup.value, lookup.value_len)

-- a get of the key, or a gets, which alone writes a version
abbrev pub Reads : Bool → List ℕ → ℕ → Out → Out → ℕ → ℕ → Status
    → SharedClient → SharedClient → Type 0
Reads false key now out next version next_version returned old new =
    GotKey key now out next returned old new × (next_version ≡ version)
Reads true key now out next version next_version returned old new =
    GotKeyVersion key now out next version next_version returned old new

-- the lookup's key was read with this status, and what was found was written into the lookup
pub record LooksUp (versioned : Bool) (keys : List ℕ) (now : ℕ) (was is : Lookup)
    (old new : SharedClient) : Type 0 where
  pub key : List ℕ
  pub of : IsKeyOf keys was key
  pub answers : Answers is.status (λ returned.
      Reads versioned key now (out_of was) (out_of is) was.version is.version returned old new)
  pub keeps : KeepsKey was is

-- it looked ahead for each key, in their order: by at most one step in the key's shard
unfoldable pub LooksFor : List (List ℕ) → SharedClient → SharedClient → Type 0
LooksFor [] old new = new ≡ old
LooksFor (key ∷ keys) old new =
    (next : SharedClient) × MakesCall key (LooksAheadBy 1) old next × LooksFor keys next new

-- it looked ahead for at most 16 keys
abbrev pub LooksForSome : SharedClient → SharedClient → Type 0
LooksForSome old new = (keys : List (List ℕ)) × (length keys ≤ 16) × LooksFor keys old new

-- Before the lookup at this place it did nothing. Or 16 divides the place, and it looked ahead.
abbrev pub LooksBefore : ℕ → SharedClient → SharedClient → Type 0
LooksBefore place old new = (new ≡ old) ⊎ ((place % 16 ≡ 0) × LooksForSome old new)

-- so it was from this place on
unfoldable pub InTurnFrom : (Lookup → Lookup → SharedClient → SharedClient → Type 0)
    → ℕ → List Lookup → List Lookup → SharedClient → SharedClient → Type 0
InTurnFrom Does place [] [] old new = new ≡ old
InTurnFrom Does place (was ∷ rest) (is ∷ after) old new =
    (ready next : SharedClient) × LooksBefore place old ready × Does was is ready next
    × InTurnFrom Does (place + 1) rest after next new
InTurnFrom Does place _ _ old new = ⊥

-- each lookup, one after another, in their order, and looks ahead before the first of each sixteen
abbrev pub InTurn : (Lookup → Lookup → SharedClient → SharedClient → Type 0)
    → List Lookup → List Lookup → SharedClient → SharedClient → Type 0
InTurn Does = InTurnFrom Does 0

abbrev pub GotMany : Bool → List ℕ → ℕ → List Lookup → List Lookup → Option Kept → Option Kept
    → Status → Type 0
GotMany versioned keys now was is before after returned =
    ByClient (λ why. (returned ≡ why) × (is ≡ was))
    (λ old new. (returned ≡ status.Ok) × InTurn (LooksUp versioned keys now) was is old new)
    before after

-- the client looked ahead
abbrev pub LooksAhead : Option Kept → Option Kept → Status → Type 0
LooksAhead before after returned =
    ByClient (λ why. returned ≡ why) (λ old new. (returned ≡ status.Ok) × LooksForSome old new)
    before after
