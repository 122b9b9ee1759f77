-- What is searched for along a chain: the item of a key, or the item that names a row.
use Rattle.std.specs.Prelude.{◌≡◌, ℕ, List, Some, None}
use Rattle.segword.specs.Words.{Shape}
use Rattle.segmodel.specs.Words.{after, bucket_of, standing}
use Rattle.segcore.specs.declared.event.Event.{Event}
use Rattle.segcore.specs.Event.{seen}
use Rattle.segcore.specs.Bucket.{Slot, item, bucket_after}
use Rattle.segcore.specs.Row.{row_after}
use Rattle.segcore.specs.Lawful.{HasItemOf}
use Rattle.segcore.specs.Ahead.{Ahead}

-- the key doesn't stand
abbrev pub KeyGone : Shape → List ℕ → List Event → Type 0
KeyGone shape key trace = standing (after shape (seen trace)) key ≡ None

-- no word of any chain names the row
abbrev pub RowGone : Shape → ℕ → ℕ → List Event → Type 0
RowGone shape segment row trace =
    (bucket position : ℕ) (named : Slot)
    → (bucket_after shape trace bucket).items position ≡ item named
    → named.segment ≡ segment → named.row ≡ row → ⊥

-- ---- both alike

-- the item of a key, or the one that names a row: bucket of the chain, segment, row
pub data Sought : Type 0 where
  key_item : List ℕ → Sought
  row_item : ℕ → ℕ → ℕ → Sought

-- the bucket in whose chain the item is sought
abbrev pub chain_sought : Shape → Sought → ℕ
chain_sought shape (key_item key) = bucket_of shape key
chain_sought shape (row_item bucket segment row) = bucket

-- a row is in the chain of the key that is linked to it
abbrev pub IsSoughtInItsChain : Shape → Sought → List Event → Type 0
IsSoughtInItsChain shape (key_item key) trace = Unit {0}
IsSoughtInItsChain shape (row_item bucket segment row) trace =
    (key : List ℕ) × ((row_after trace segment row).linked ≡ Some key)
    × (bucket_of shape key ≡ bucket)

-- an item is the one that is sought
abbrev pub IsSought : Sought → Slot → Type 0
IsSought (key_item key) named = named.key ≡ key
IsSought (row_item bucket segment row) named = (named.segment ≡ segment) × (named.row ≡ row)

-- what is sought is at this position of the chain
abbrev pub SoughtAt : Shape → Sought → List Event → ℕ → Type 0
SoughtAt shape sought trace position =
    (named : Slot)
    × ((bucket_after shape trace (chain_sought shape sought)).items position ≡ item named)
    × IsSought sought named

-- what is sought is nowhere
abbrev pub SoughtGone : Shape → Sought → List Event → Type 0
SoughtGone shape (key_item key) trace = KeyGone shape key trace
SoughtGone shape (row_item bucket segment row) trace = RowGone shape segment row trace

-- between two moments what is sought was gone at some point,
-- or at the second it is at this position or later
abbrev pub SoughtAhead : Shape → Sought → ℕ → List Event → List Event → Type 0
SoughtAhead shape sought position old new =
    Ahead (SoughtAt shape sought) (SoughtGone shape sought) position old new

-- ---- each by its name

abbrev pub KeyAt : Shape → List ℕ → List Event → ℕ → Type 0
KeyAt shape key trace position = HasItemOf shape trace key position

abbrev pub RowAt : Shape → ℕ → ℕ → ℕ → List Event → ℕ → Type 0
RowAt shape bucket segment row trace position =
    SoughtAt shape (row_item bucket segment row) trace position

abbrev pub KeyAhead : Shape → List ℕ → ℕ → List Event → List Event → Type 0
KeyAhead shape key position old new = SoughtAhead shape (key_item key) position old new
