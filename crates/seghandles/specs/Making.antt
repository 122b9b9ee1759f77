-- How a cache with its clients begins: shards that are opened one after another.
use Rattle.std.specs.Prelude.{◌≡◌, ℕ, List, [], ◌∷◌, ◌++◌, length, slice_get, All, Some, None}
use Rattle.std.specs.Global.{Vec}
use Rattle.std.specs.List.{AllZip}
use Rattle.segword.specs.Words.{Shape}
use Rattle.segbase.specs.Words.{Pass}
use Rattle.segindex.specs.Words.{Index, IsNew, shape_of}
use Rattle.segclient.specs.Member.{Begins}
use Rattle.segshards.specs.declared.plan.ShardPlan.{ShardPlan}
use Rattle.segshards.specs.Each.{AllThree}
use Rattle.seghandles.specs.declared.client.SharedClient.{SharedClient}
use Rattle.seghandles.specs.declared.guest.Guest.{Guest}
use Rattle.seghandles.specs.declared.home.Home.{Home}
use Rattle.seghandles.specs.declared.kept.Kept.{Kept}
use Rattle.seghandles.specs.declared.kept.Kept.TheVariants as kept
use Rattle.seghandles.specs.Home.{IsNewHome}

-- it shares this index, is new, of this pass, may keep any item, and holds nothing
pub record IsNewGuest (i : Index) (p : Pass) (guest : Guest) : Type 0 where
  pub index : guest.share.index.value ≡ i
  pub member : Begins (shape_of i) (Some 0) p guest.member
  pub held : guest.share.held ≡ None

-- an index, and its passes in the order of their numbers
pub record Shard : Type 0 where
  pub index : Index
  pub passes : List Pass

abbrev pub IsNewShard : Shape → Shard → Type 0
IsNewShard shape shard = IsNew shape shard.index shard.passes

abbrev pub IsHomeOf : Shard → Home → Type 0
IsHomeOf shard home = IsNewHome shard.index home

-- the guest is new, of the shard's pass of this number
pub record IsGuestAt (n : ℕ) (shard : Shard) (guest : Guest) : Type 0 where
  pub pass : Pass
  pub there : slice_get shard.passes n ≡ Some pass
  pub new : IsNewGuest shard.index pass guest

-- the row at each place has a guest of each shard, of the pass of this number
abbrev pub AreRowsOf : List Shard → List (Vec Guest) → Type 0
AreRowsOf shards rows = (n : ℕ) (row : Vec Guest)
    → slice_get rows n ≡ Some row
    → AllZip (IsGuestAt n) shards row.items

-- the shards of the plan are opened, and there is a row for each pass
pub record OpensShards (plan : ShardPlan) (homes : List Home) (rows : List (Vec Guest))
    : Type 0 where
  pub shards : List Shard
  pub count : length shards ≡ plan.count
  pub new : All (IsNewShard plan.shape) shards
  pub homes_of : AllZip IsHomeOf shards homes
  pub long : length rows ≡ plan.shape.passes
  pub rows_of : AreRowsOf shards rows

-- so many rows with nothing in them
pub record AreEmptyRows (count : ℕ) (rows : List (Vec Guest)) : Type 0 where
  pub long : length rows ≡ count
  pub empty : All (λ row. row.items ≡ []) rows

-- each row has one more guest, that at its place
abbrev pub Deals : List Guest → List (Vec Guest) → List (Vec Guest) → Type 0
Deals = AllThree (λ guest was is. is.items ≡ was.items ++ guest ∷ [])

-- a new shard was opened, and each row has one more guest, of its pass
pub record AddsShard (shape : Shape) (home : Home) (old new : List (Vec Guest)) : Type 0 where
  pub shard : Shard
  pub is_new : IsNewShard shape shard
  pub home_of : IsHomeOf shard home
  pub guests : List Guest
  pub of : AllZip (IsNewGuest shard.index) shard.passes guests
  pub deals : Deals guests old new

-- a client of these guests, that holds nothing and wants no room
pub record HasGuests (row : Vec Guest) (client : SharedClient) : Type 0 where
  pub guests : client.guests ≡ row
  pub holds : client.holds ≡ None
  pub wants : client.wants ≡ None

abbrev pub IsClientOf : Vec Guest → Kept → Type 0
IsClientOf row (kept.Client client) = HasGuests row client
IsClientOf row _ = ⊥
