-- What the exports do that open a cache.
use Rattle.std.specs.Prelude.{◌≡◌, ◌⊎◌, ℕ, ◌*◌, ◌/◌, ◌≤◌, Bool, true, false, min}
use Rattle.std.specs.Prelude.{List, [], ◌∷◌, All, length, map}
use Rattle.std.specs.Prelude.{Option, Some, None, is_none, slice_get}
use Rattle.std.specs.Global.{Box}
use Rattle.std.specs.List.{AllZip}
use Rattle.segword.specs.Words.{IsFirstFault, IsValid, Shape}
use Rattle.segword.specs.declared.shape.ShapeFault.{ShapeFault}
use Rattle.segshards.specs.declared.plan.ShardPlan.{ShardPlan}
use Rattle.segshards.specs.declared.shard.TheConstants.{MOST_SHARDS}
use Rattle.segshards.specs.Budget.{IsFaultOfBudget, IsPlanWithin}
use Rattle.segshards.specs.Items.{IsFaultOfItems, IsPlanForItems}
use Rattle.segshards.specs.Plan.{IsFaultOfPlan, IsPlanFor}
use Rattle.segshards.specs.Writers.{IsFaultOfWriters, IsPlanForWriters}
use Rattle.seghandles.specs.declared.client.SharedClient.{SharedClient}
use Rattle.seghandles.specs.declared.handle.Handle.{Handle}
use Rattle.seghandles.specs.declared.kept.Kept.{Kept}
use Rattle.seghandles.specs.declared.kept.Kept.TheVariants as kept
use Rattle.seghandles.specs.declared.opening.CacheShape.{CacheShape}
use Rattle.seghandles.specs.declared.opening.TheConstants.{ROOMY_KEYS, ROOMY_TIMES}
use Rattle.seghandles.specs.declared.status.Status.{Status}
use Rattle.seghandles.specs.declared.status.Status.TheVariants as status
use Rattle.seghandles.specs.Making.{IsGuestAt, IsHomeOf, IsNewShard, Shard}

-- ---- a new cache

-- it has these shards, and no pass is in its places
abbrev pub IsCache : List Shard → Kept → Type 0
IsCache shards (kept.Cache cache) = AllZip IsHomeOf shards cache.homes.items
IsCache shards _ = ⊥

-- it has a new guest of each shard, of the pass of this number, holds nothing,
-- and wants no room
pub record IsNewClient (n : ℕ) (shards : List Shard) (client : SharedClient) : Type 0 where
  pub guests : AllZip (IsGuestAt n) shards client.guests.items
  pub holds : client.holds ≡ None
  pub wants : client.wants ≡ None

abbrev pub IsClient : ℕ → List Shard → Kept → Type 0
IsClient n shards (kept.Client client) = IsNewClient n shards client
IsClient n shards _ = ⊥

-- A cache over new shards of this plan, and a client of each pass, in the order of their numbers.
pub record IsOpened (plan : ShardPlan) (home : Kept) (clients : List Kept) : Type 0 where
  pub shards : List Shard
  pub count : length shards ≡ plan.count
  pub new : All (IsNewShard plan.shape) shards
  pub cache : IsCache shards home
  pub long : length clients ≡ plan.shape.passes
  pub each : (n : ℕ) (client : Kept)
      → slice_get clients n ≡ Some client
      → IsClient n shards client

-- ---- in handles

abbrev pub value_of : Handle → Option Kept
value_of handle = handle.value

abbrev pub values_of : List Handle → List (Option Kept)
values_of handles = map value_of handles

-- what a box has, as a handle has it
abbrev pub put_in : Box Kept → Option Kept
put_in boxed = Some boxed.value

abbrev pub in_box : Box Kept → Kept
in_box boxed = boxed.value

-- the cache is in its handle, and each client in one of the others, in their order
pub record AreOpen (plan : ShardPlan) (cache : Option Kept) (handles : List Handle) : Type 0 where
  pub home : Kept
  pub clients : List Kept
  pub opened : IsOpened plan home clients
  pub cache_in : cache ≡ Some home
  pub clients_in : values_of handles ≡ map Some clients

-- each handle has what it had
abbrev pub LeavesAll : Option Kept → Option Kept → List Handle → List Handle → Type 0
LeavesAll before after clients next =
    (after ≡ before) × (values_of next ≡ values_of clients)

-- whether there is nothing in any of them
abbrev pub are_empty : List (Option Kept) → Bool
are_empty [] = true
are_empty (None ∷ values) = are_empty values
are_empty (Some used ∷ values) = false

-- each handle is empty, and there is one for each client
pub record AreHandlesFor (shape : Shape) (before : Option Kept) (clients : List Handle)
    : Type 0 where
  pub count : length clients ≡ shape.passes
  pub cache : before ≡ None
  pub clients_empty : are_empty (values_of clients) ≡ true

-- one of them is in use
abbrev pub IsInUse : Option Kept → List Handle → Type 0
IsInUse before clients =
    (is_none before ≡ false) ⊎ (are_empty (values_of clients) ≡ false)

-- Ok: the handles were empty, and have a new cache and its clients. BadShape: the number of handles
-- is not that of the passes, or the shape has a fault. NoHandle: a handle is in use.
-- OutOfMemory comes only for a shape that can be. Then each handle has what it had.
abbrev pub Opens : ShardPlan → Option Kept → Option Kept → List Handle → List Handle → Status
    → Type 0
Opens plan before after clients next status.Ok =
    AreHandlesFor plan.shape before clients × AreOpen plan after next
Opens plan before after clients next status.BadShape =
    (¬ (length clients ≡ plan.shape.passes)
    ⊎ (AreHandlesFor plan.shape before clients
    × ((fault : ShapeFault) × IsFirstFault plan.shape fault)))
    × LeavesAll before after clients next
Opens plan before after clients next status.NoHandle =
    (length clients ≡ plan.shape.passes) × IsInUse before clients
    × LeavesAll before after clients next
Opens plan before after clients next status.OutOfMemory =
    AreHandlesFor plan.shape before clients × IsValid plan.shape
    × LeavesAll before after clients next
Opens plan before after clients next _ = ⊥

abbrev pub shape_from : CacheShape → Shape
shape_from shape = record {
  buckets = shape.buckets;
  overflow = shape.overflow;
  passes = shape.passes;
  segments_each = shape.segments_each;
  rows = shape.rows;
  first_version = shape.first_version;
}

-- one shard of this shape
abbrev pub one_of : Shape → ShardPlan
one_of shape = record { shape = shape; count = 1 }

-- By a plan of this kind, as above. BadShape comes also if a fault is in its way:
-- then each handle is as it was.
abbrev pub OpensBy : (ShardPlan → Type 0) → (ShapeFault → Type 0) → Option Kept → Option Kept
    → List Handle → List Handle → Status → Type 0
OpensBy IsPlan IsFault before after clients next returned =
    ((plan : ShardPlan) × IsPlan plan × Opens plan before after clients next returned)
    ⊎ ((fault : ShapeFault) × IsFault fault × (returned ≡ status.BadShape)
    × LeavesAll before after clients next)

-- a cache for several threads, in whose table each of them could have rows for all keys
abbrev pub IsSmall : ℕ → ℕ → Type 0
IsSmall keys threads = (2 ≤ threads) × (keys ≤ ROOMY_KEYS / threads)

-- In a small cache each client has room for eight times all keys, or for its part of 65,536 if that
-- is less, whichever of them store. A larger one has room for the keys, and to spare.
pub record IsPlanToOpen (keys threads : ℕ) (plan : ShardPlan) : Type 0 where
  pub small : IsSmall keys threads
      → IsPlanForWriters (min (ROOMY_TIMES * keys) (ROOMY_KEYS / threads)) threads 1 plan
  pub large : ¬ (IsSmall keys threads) → IsPlanFor keys threads plan
  pub some : 1 ≤ plan.count
  pub few : plan.count ≤ MOST_SHARDS

-- a cache for so many keys
abbrev pub OpensKeys : ℕ → ℕ → Option Kept → Option Kept → List Handle → List Handle → Status
    → Type 0
OpensKeys keys threads = OpensBy (IsPlanToOpen keys threads) (IsFaultOfPlan threads)

-- In a small cache for items there is room as for as many keys as they have rows.
pub record IsPlanToOpenItems (items rows_each threads : ℕ) (plan : ShardPlan) : Type 0 where
  pub small : IsSmall (items * rows_each) threads → IsPlanToOpen (items * rows_each) threads plan
  pub large : ¬ (IsSmall (items * rows_each) threads)
      → IsPlanForItems items rows_each threads plan
  pub some : 1 ≤ plan.count
  pub few : plan.count ≤ MOST_SHARDS

-- a cache for so many items of so many rows each, for as many threads as handles
abbrev pub OpensItems : ℕ → ℕ → Option Kept → Option Kept → List Handle → List Handle → Status
    → Type 0
OpensItems items rows_each before after clients =
    OpensBy (IsPlanToOpenItems items rows_each (length clients))
    (IsFaultOfItems items rows_each (length clients)) before after clients

-- a cache for so many writers, and as many threads as handles
abbrev pub OpensForWriters : ℕ → ℕ → Option Kept → Option Kept → List Handle → List Handle
    → Status → Type 0
OpensForWriters keys writers before after clients =
    OpensBy (IsPlanForWriters keys (length clients) writers)
    (IsFaultOfWriters keys (length clients) writers) before after clients

-- a cache that takes no more than so many bytes, for as many threads as handles
abbrev pub OpensForBytes : ℕ → Option Kept → Option Kept → List Handle → List Handle → Status
    → Type 0
OpensForBytes bytes before after clients =
    OpensBy (IsPlanWithin bytes (length clients)) (IsFaultOfBudget bytes (length clients))
    before after clients
