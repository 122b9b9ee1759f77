-- How a client of all shards makes room: in the one that wants it, or in each.
use Rattle.std.specs.Prelude.{◌≡◌, ◌&&◌, ℕ, List, fold, Bool, true, false, Option, Some, None}
use Rattle.segclient.specs.Puts.{MakesRoomFor}
use Rattle.seghandles.specs.declared.client.SharedClient.{SharedClient}
use Rattle.seghandles.specs.All.{EachAnswers}
use Rattle.seghandles.specs.Calls.{ByShard}
use Rattle.seghandles.specs.Guest as of_guest

-- the shard that wants room from then on
abbrev pub wants_after : Bool → Option ℕ → Option ℕ
wants_after true wanted = None
wants_after false wanted = wanted

-- the guest of this shard made room, or couldn't
pub record MakesRoomIn (shard now : ℕ) (made : Bool) (old new : SharedClient) : Type 0 where
  pub calls : ByShard shard (of_guest.MakesCall (of_guest.At now (MakesRoomFor made))) old new
  pub holds : new.holds ≡ old.holds
  pub wants : new.wants ≡ wants_after made old.wants

-- whether each of them is true
abbrev pub all_true : List Bool → Bool
all_true = fold (λ all made. all && made) true

-- the guest of each shard made room, or one couldn't
pub record MakesRoomInAll (now : ℕ) (made : Bool) (old new : SharedClient) : Type 0 where
  pub each : List Bool
  pub calls : EachAnswers (λ one. of_guest.At now (MakesRoomFor one)) each old new
  pub all : made ≡ all_true each

-- in the shard of the last write, if that had no room
abbrev pub MakesRoomBy : Option ℕ → ℕ → Bool → SharedClient → SharedClient → Type 0
MakesRoomBy (Some shard) now made old new = MakesRoomIn shard now made old new
MakesRoomBy None now made old new = MakesRoomInAll now made old new

abbrev pub MakesRoom : ℕ → Bool → SharedClient → SharedClient → Type 0
MakesRoom now made old new = MakesRoomBy old.wants now made old new
