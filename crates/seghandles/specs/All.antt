-- What a client did by each shard, one after another.
use Rattle.std.specs.Prelude.{◌≡◌, List, fold}
use Rattle.std.specs.List.{AllZip}
use Rattle.segbase.specs.Words.{Board}
use Rattle.segindex.specs.Words.{board_of, IsNoteOf, Note}
use Rattle.segindex.specs.declared.table_stats.IndexStats.{IndexStats}
use Rattle.segclient.specs.declared.member.Member.{Member}
use Rattle.segclient.specs.declared.stats.Stats.{Stats}
use Rattle.segclient.specs.Counting.{no_stats}
use Rattle.segclient.specs.Made.{ReturnsTable}
use Rattle.segshards.specs.Each.{AllThree}
use Rattle.segshards.specs.Sums.{stats_sum, table_of}
use Rattle.seghandles.specs.declared.client.SharedClient.{SharedClient}
use Rattle.seghandles.specs.declared.guest.Guest.{Guest}
use Rattle.seghandles.specs.Guest as of_guest

-- what it holds and which shard wants room are as they were
pub record KeepsPlaces (old new : SharedClient) : Type 0 where
  pub holds : new.holds ≡ old.holds
  pub wants : new.wants ≡ old.wants

-- the guest of each shard made this call
abbrev pub EachMakes : (Board → Member → Member → Type 0) → SharedClient → SharedClient → Type 0
EachMakes Made old new =
    AllZip (of_guest.MakesCall Made) old.guests.items new.guests.items × KeepsPlaces old new

-- the guest of each shard made this call, with what stands at the shard's place of the list
abbrev pub EachAnswers : {A : Type 0}
    → (A → Board → Member → Member → Type 0) → List A → SharedClient → SharedClient → Type 0
EachAnswers Made each old new =
    AllThree (λ a was is. of_guest.MakesCall (Made a) was is) each old.guests.items new.guests.items
    × KeepsPlaces old new

-- ---- counts

-- what the guests of all shards counted
abbrev pub stats_of : List Guest → Stats
stats_of = fold (λ sum guest. stats_sum sum guest.member.stats) no_stats

-- what the guest of each shard sees of its table was counted, and these are the sums
pub record ReturnsTables (told : IndexStats) (old new : SharedClient) : Type 0 where
  pub each : List IndexStats
  pub reads : EachAnswers ReturnsTable each old new
  pub sums : told ≡ table_of each

-- ---- notes

-- there is a note of each shard, in their order
abbrev pub AreNotesFor : SharedClient → List Note → Type 0
AreNotesFor client notes =
    AllZip (λ guest note. IsNoteOf (board_of guest.share.index.value) note) client.guests.items notes
