-- A client that shares its index made a call.
use Rattle.std.proofs.Common.{◌≡◌, ℕ, subst}
use Rattle.segbase.specs.Words.{Board}
use Rattle.segindex.specs.Words.{board_of, Index}
use Rattle.segclient.specs.declared.member.Member.{Member}
use Rattle.segclient.specs.Member.{SetsNow}
use Rattle.seghandles.specs.declared.guest.Guest.{Guest}
use Rattle.seghandles.specs.Guest.{At, Calls, MakesCall}

-- a call of this index
pub calls : (Made : Board → Member → Member → Type 0) (i : Index) (old new : Guest) → i ≡ old.share.index.value
    → Made (board_of i) old.member new.member → new.share.index.value ≡ old.share.index.value → Calls Made old new
calls Made i old new at made index = record { index = index; made = subst (λ (j : Index). Made (board_of j) old.member new.member) at made }

-- and it holds what it held
pub makes_call : (Made : Board → Member → Member → Type 0) (i : Index) (old new : Guest) → i ≡ old.share.index.value
    → Made (board_of i) old.member new.member → new.share.index.value ≡ old.share.index.value
    → new.share.held ≡ old.share.held → MakesCall Made old new
makes_call Made i old new at made index held = record { calls = calls Made i old new at made index; held = held }

-- at a moment
pub at_moment : (now : ℕ) (Made : Board → Member → Member → Type 0) (b : Board) (old before new : Member) → SetsNow now old before → Made b before new → At now Made b old new
at_moment now Made b old before new sets made = record { before = before; sets = sets; made = made }
