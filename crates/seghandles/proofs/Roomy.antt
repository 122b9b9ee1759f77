-- A client of all shards makes room: in the one that wants it, or in each.
use Rattle.std.proofs.Common.{◌≡◌, ◌<◌, ℕ, Bool, get_or, length, set, Some, None, refl, sym, subst}
use Rattle.segclient.specs.Puts.{MakesRoomFor}
use Rattle.seghandles.specs.declared.client.SharedClient.{SharedClient}
use Rattle.seghandles.specs.declared.guest.Guest.{Guest}
use Rattle.seghandles.specs.Guest as of_guest
use Rattle.seghandles.specs.Room.{MakesRoom, MakesRoomBy, MakesRoomInAll, wants_after}
use Rattle.seghandles.proofs.Keyed.{by_shard}

pub makes_room_in_all : (now : ℕ) (made : Bool) (old new : SharedClient) → old.wants ≡ None → MakesRoomInAll now made old new → MakesRoom now made old new
makes_room_in_all now made old new none makes = subst (λ h. MakesRoomBy h now made old new) (sym none) makes

pub makes_room_in : (now : ℕ) (made : Bool) (old new : SharedClient) (place : ℕ) (was is : Guest)
    → old.wants ≡ Some place → place < length old.guests.items → was ≡ get_or old.guests.items place was
    → of_guest.MakesCall (of_guest.At now (MakesRoomFor made)) was is → new.guests.items ≡ set old.guests.items place is → new.holds ≡ old.holds → new.wants ≡ wants_after made old.wants
    → MakesRoom now made old new
makes_room_in now made old new place was is at below there makes guests holds wants =
    subst (λ h. MakesRoomBy h now made old new) (sym at) (record {
      calls = by_shard place (of_guest.MakesCall (of_guest.At now (MakesRoomFor made))) old new place was is refl below there makes guests;
      holds = holds;
      wants = wants;
    })
