-- What a client that shares its index did: a call of the index, and what it holds from then on.
use Rattle.std.specs.Prelude.{◌≡◌, ℕ, List, Option, Some, None, IsSomeAnd}
use Rattle.segbase.specs.Words.{Board, holding, Pass}
use Rattle.segindex.specs.Words.{board_of}
use Rattle.segread.specs.declared.held.RowAnswer.TheVariants as row_answer
use Rattle.segread.specs.Words.{HeldRow, RowAnswer}
use Rattle.segclient.specs.declared.member.Member.{Member}
use Rattle.segclient.specs.Made.{EndsHold, HoldsInto, ReadsHeldRow}
use Rattle.segclient.specs.Member.{SetsNow}
use Rattle.seghandles.specs.declared.guest.Guest.{Guest}
use Rattle.seghandles.specs.declared.status.Status.{Status}
use Rattle.seghandles.specs.declared.status.Status.TheVariants as status

-- the client made this call of its index
pub record Calls (Made : Board → Member → Member → Type 0) (old new : Guest) : Type 0 where
  pub index : new.share.index.value ≡ old.share.index.value
  pub made : Made (board_of old.share.index.value) old.member new.member

-- the client made this call, and holds what it held
pub record MakesCall (Made : Board → Member → Member → Type 0) (old new : Guest)
    : Type 0 where
  pub calls : Calls Made old new
  pub held : new.share.held ≡ old.share.held

-- the clock was set to this moment, and then the call was made
pub record At (now : ℕ) (Made : Board → Member → Member → Type 0) (b : Board)
    (old new : Member) : Type 0 where
  pub before : Member
  pub sets : SetsNow now old before
  pub made : Made b before new

-- ---- holds

abbrev pub hold_status : RowAnswer → Status
hold_status row_answer.Holding = status.Ok
hold_status row_answer.Miss = status.Miss
hold_status row_answer.Busy = status.Busy
hold_status row_answer.AlreadyHolding = status.AlreadyHolding

-- a hold of the key had this status, and the client holds this row from then on
pub record TakesHold (key : List ℕ) (returned : Status) (row next : Option HeldRow) (b : Board)
    (old new : Member) : Type 0 where
  pub answer : RowAnswer
  pub holds : HoldsInto key answer row next b old new
  pub returns : returned ≡ hold_status answer

abbrev pub HoldsAt : List ℕ → ℕ → Status → Guest → Guest → Type 0
HoldsAt key now returned old new =
    Calls (At now (TakesHold key returned old.share.held new.share.held)) old new

-- nothing was done
abbrev pub DoesNothing : Guest → Guest → Type 0
DoesNothing old new = (new.share ≡ old.share) × (new.member ≡ old.member)

-- the value that is held was read, if there is one; without one nothing was done
abbrev pub ReadsHeld : Option (List ℕ) → Guest → Guest → Type 0
ReadsHeld (Some value) old new =
    IsSomeAnd old.share.held (λ row. MakesCall (ReadsHeldRow row value) old new)
ReadsHeld None old new = (old.share.held ≡ None) × DoesNothing old new

-- the hold of this row ended; without one nothing was done
abbrev pub EndsItsHold : Option HeldRow → Guest → Guest → Type 0
EndsItsHold (Some row) old new = Calls EndsHold old new × (new.share.held ≡ None)
EndsItsHold None old new = DoesNothing old new

-- the pass of a client whose hold has ended
pub record IsPassOfGuest (guest : Guest) (left : Pass) : Type 0 where
  pub next : Guest
  pub ends : EndsItsHold guest.share.held guest next
  pub pass : left ≡ next.member.pass
  pub free : holding left ≡ None
