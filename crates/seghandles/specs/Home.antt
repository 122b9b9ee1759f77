-- The index of one shard with places for its passes: new, as a guest goes back, and at its end.
use Rattle.std.specs.Prelude.{◌≡◌, ℕ, List, map, All, IsSome, replicate, slice_get, slice_set}
use Rattle.std.specs.Prelude.{Some, None}
use Rattle.segbase.specs.Words.{number_of, Pass}
use Rattle.segindex.specs.Closing.{WantsMemoryOfAll}
use Rattle.segindex.specs.Words.{Index, IsContentOfAll, shape_of}
use Rattle.seghandles.specs.declared.guest.Guest.{Guest}
use Rattle.seghandles.specs.declared.home.End.{End}
use Rattle.seghandles.specs.declared.home.End.TheVariants as end
use Rattle.seghandles.specs.declared.home.Home.{Home}
use Rattle.seghandles.specs.declared.status.Status.{Status}
use Rattle.seghandles.specs.declared.status.Status.TheVariants as status
use Rattle.seghandles.specs.Guest.{IsPassOfGuest}

-- it shares this index, and no pass is in its places
pub record IsNewHome (i : Index) (home : Home) : Type 0 where
  pub index : home.index.value ≡ i
  pub places : home.places.items ≡ replicate (shape_of i).passes None

-- ---- a guest that goes back

-- the place of the guest is free
abbrev pub HasPlaceFor : Home → Guest → Type 0
HasPlaceFor home guest =
    slice_get home.places.items (number_of guest.member.pass) ≡ Some None

-- the pass of the guest, whose hold has ended, stands in its place
pub record TakesBack (guest : Guest) (old new : Home) : Type 0 where
  pub left : Pass
  pub of : IsPassOfGuest guest left
  pub index : new.index ≡ old.index
  pub places : new.places.items
      ≡ slice_set old.places.items (number_of guest.member.pass) (Some left)

-- ---- the end

-- each guest is back
abbrev pub HasAllBack : Home → Type 0
HasAllBack home = All IsSome home.places.items

-- each guest is back, and this is the content of the index that its passes close
pub record ListsContent (home : Home) (pairs : List (List ℕ × List ℕ)) : Type 0 where
  pub passes : List Pass
  pub all : map Some passes ≡ home.places.items
  pub content : IsContentOfAll (shape_of home.index.value) passes pairs

-- each guest is back, and some key stands, for which memory was refused
pub record LosesContent (home : Home) : Type 0 where
  pub passes : List Pass
  pub all : map Some passes ≡ home.places.items
  pub wanted : WantsMemoryOfAll (shape_of home.index.value) passes

-- it is the shard that it was
pub record IsSameHome (old new : Home) : Type 0 where
  pub index : new.index ≡ old.index
  pub places : new.places ≡ old.places

-- ClientOut: a guest isn't back. Else each is: memory was refused, or, Busy, the index is shared
-- with somebody else.
abbrev pub IsRefusal : Home → Status → Type 0
IsRefusal home status.ClientOut = ¬ (HasAllBack home)
IsRefusal home status.OutOfMemory = HasAllBack home
IsRefusal home status.Busy = HasAllBack home
IsRefusal home _ = ⊥

abbrev pub EndsAs : Home → End → Type 0
EndsAs home (end.Content pairs) = ListsContent home pairs.items
EndsAs home (end.Refused same why) = IsSameHome home same × IsRefusal home why
EndsAs home end.Gone = LosesContent home
