-- A client of all shards takes, reads and ends its hold.
use Rattle.std.proofs.Common.{◌≡◌, ◌<◌, ℕ, List, Bool, false, get_or, is_some, length, set, Option, Some, None, refl, sym, ap, ◌∙◌, subst}
use Rattle.std.proofs.lemmas.Bool.{false≢true}
use Rattle.segshards.specs.Shards.{shard_of}
use Rattle.seghandles.specs.declared.client.SharedClient.{SharedClient}
use Rattle.seghandles.specs.declared.guest.Guest.{Guest}
use Rattle.seghandles.specs.declared.status.Status.{Status}
use Rattle.seghandles.specs.declared.status.Status.TheVariants as status
use Rattle.seghandles.specs.Guest as of_guest
use Rattle.seghandles.specs.Holding.{EndsHoldIf, holds_after, HoldsAt, HoldsBy, ReadsBy, ReadsHeld, Releases, ReleasesBy}
use Rattle.seghandles.proofs.Keyed.{by_shard}

pub none_held : (h : Option ℕ) → is_some h ≡ false → h ≡ None
none_held None none = refl
none_held (Some shard) none = absurd (false≢true (sym none))

-- nothing was held
pub takes_hold : (key : List ℕ) (now : ℕ) (told : Status) (old new : SharedClient) (place : ℕ) (was is : Guest)
    → is_some old.holds ≡ false → (place ≡ shard_of (length old.guests.items) key) × (place < length old.guests.items) → was ≡ get_or old.guests.items place was
    → of_guest.HoldsAt key now told was is → new.guests.items ≡ set old.guests.items place is → new.holds ≡ holds_after told place → new.wants ≡ old.wants
    → HoldsAt key now told old new
takes_hold key now told old new place was is none at there made guests holds wants =
    subst (λ h. HoldsBy h key now told old new) (sym (none_held old.holds none)) (record {
      calls = by_shard (shard_of (length old.guests.items) key) (of_guest.HoldsAt key now told) old new place was is at.0 at.1 there made guests;
      holds = holds ∙ ap (holds_after told) at.0;
      wants = wants;
    })

-- a hold that isn't Ok leaves nothing held
pub not_held : (told : Status) (shard : ℕ) → ¬ (told ≡ status.Ok) → None ≡ holds_after told shard
not_held status.Ok shard un = absurd (un refl)
not_held status.Miss shard un = refl
not_held status.Busy shard un = refl
not_held status.NoRoom shard un = refl
not_held status.BucketFull shard un = refl
not_held status.NotStored shard un = refl
not_held status.Exists shard un = refl
not_held status.NotFound shard un = refl
not_held status.BadKey shard un = refl
not_held status.BadValue shard un = refl
not_held status.ShortBuffer shard un = refl
not_held status.BadShape shard un = refl
not_held status.OutOfMemory shard un = refl
not_held status.NoHandle shard un = refl
not_held status.AlreadyHolding shard un = refl
not_held status.NotHolding shard un = refl
not_held status.ClientOut shard un = refl
not_held status.Foreign shard un = refl
not_held status.End shard un = refl

-- what is held was read
pub reads_held : (value : Option (List ℕ)) (old new : SharedClient) (place : ℕ) (was is : Guest)
    → old.holds ≡ Some place → place < length old.guests.items → was ≡ get_or old.guests.items place was
    → of_guest.ReadsHeld value was is → new.guests.items ≡ set old.guests.items place is → new.holds ≡ old.holds → new.wants ≡ old.wants
    → ReadsHeld value old new
reads_held value old new place was is at below there made guests holds wants =
    subst (λ h. ReadsBy h value old new) (sym at) (record {
      reads = by_shard place (of_guest.ReadsHeld value) old new place was is refl below there made guests;
      holds = holds;
      wants = wants;
    })

-- or its hold ended
pub ends_hold : (ended : Bool) (old new : SharedClient) (place : ℕ) (was is : Guest)
    → old.holds ≡ Some place → place < length old.guests.items → was ≡ get_or old.guests.items place was
    → EndsHoldIf ended was is → new.guests.items ≡ set old.guests.items place is → new.holds ≡ None → new.wants ≡ old.wants
    → Releases ended old new
ends_hold ended old new place was is at below there made guests holds wants =
    subst (λ h. ReleasesBy h ended old new) (sym at) (record {
      ends = by_shard place (EndsHoldIf ended) old new place was is refl below there made guests;
      holds = holds;
      wants = wants;
    })
