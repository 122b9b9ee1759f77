-- What the exports that write do.
use Rattle.std.specs.Prelude.{◌≡◌, ℕ, List, length, Option}
use Rattle.segmodel.specs.Words.{DeleteAnswer, WriteAnswer}
use Rattle.segmodel.specs.declared.answer.DeleteAnswer.TheVariants as delete
use Rattle.segmodel.specs.declared.answer.WriteAnswer.TheVariants as write
use Rattle.segclient.specs.declared.put.PutAnswer.{PutAnswer}
use Rattle.segclient.specs.declared.put.PutAnswer.TheVariants as put
use Rattle.segclient.specs.Made.{DeletesKey}
use Rattle.segclient.specs.Puts.{Puts, PutsFor}
use Rattle.seghandles.specs.declared.client.SharedClient.{SharedClient}
use Rattle.seghandles.specs.declared.kept.Kept.{Kept}
use Rattle.seghandles.specs.declared.status.Status.{Status}
use Rattle.seghandles.specs.declared.status.Status.TheVariants as status
use Rattle.segwrite.specs.Words.{Condition}
use Rattle.seghandles.specs.Calls.{CallsKey, MakesCall}
use Rattle.seghandles.specs.Exports.{ByClient, ByKey, ByValue, Returns}
use Rattle.seghandles.specs.Guest.{At}
use Rattle.seghandles.specs.Made.{WritesWhen}
use Rattle.seghandles.specs.Wants.{put_wants, write_wants}
use Rattle.segshards.specs.Shards.{shard_of}

-- the status of each answer
abbrev pub put_status : PutAnswer → Status
put_status put.Stored = status.Ok
put_status put.NoRoom = status.NoRoom
put_status put.BucketFull = status.BucketFull
put_status put.Busy = status.Busy

abbrev pub write_status : WriteAnswer → Status
write_status write.Stored = status.Ok
write_status write.NotStored = status.NotStored
write_status write.Exists = status.Exists
write_status write.NotFound = status.NotFound
write_status write.NoRoom = status.NoRoom
write_status write.BucketFull = status.BucketFull
write_status write.Busy = status.Busy

abbrev pub delete_status : DeleteAnswer → Status
delete_status delete.Deleted = status.Ok
delete_status delete.NotFound = status.NotFound
delete_status delete.Busy = status.Busy

-- the client's put of the value had the answer of this status
pub record MakesPut (key value : List ℕ) (now : ℕ) (returned : Status) (old new : SharedClient)
    : Type 0 where
  pub answer : PutAnswer
  pub calls : CallsKey key (At now (Puts key value answer)) old new
  pub wants : new.wants ≡ put_wants answer (shard_of (length old.guests.items) key)
  pub returns : returned ≡ put_status answer

abbrev pub Put : List ℕ → List ℕ → ℕ → Option Kept → Option Kept → Status → Type 0
Put key value now before after returned =
    ByClient (Returns returned)
    (ByKey (Returns returned) key (ByValue (Returns returned) value (MakesPut key value now returned)))
    before after

-- the client's put of the value for this time to live had the answer of this status
pub record MakesPutFor (seconds : ℕ) (key value : List ℕ) (now : ℕ) (returned : Status)
    (old new : SharedClient) : Type 0 where
  pub answer : PutAnswer
  pub calls : CallsKey key (At now (PutsFor seconds key value answer)) old new
  pub wants : new.wants ≡ put_wants answer (shard_of (length old.guests.items) key)
  pub returns : returned ≡ put_status answer

abbrev pub PutFor : ℕ → List ℕ → List ℕ → ℕ → Option Kept → Option Kept → Status → Type 0
PutFor seconds key value now before after returned =
    ByClient (Returns returned)
    (ByKey (Returns returned) key
    (ByValue (Returns returned) value (MakesPutFor seconds key value now returned)))
    before after

-- the client's write of the value had the answer of this status
pub record MakesWrite (when : Condition) (key value : List ℕ) (now : ℕ) (returned : Status)
    (old new : SharedClient) : Type 0 where
  pub answer : WriteAnswer
  pub calls : CallsKey key (At now (WritesWhen when key value answer)) old new
  pub wants : new.wants ≡ write_wants answer (shard_of (length old.guests.items) key)
  pub returns : returned ≡ write_status answer

abbrev pub Wrote : Condition → List ℕ → List ℕ → ℕ → Option Kept → Option Kept → Status → Type 0
Wrote when key value now before after returned =
    ByClient (Returns returned)
    (ByKey (Returns returned) key (ByValue (Returns returned) value (MakesWrite when key value now returned)))
    before after

-- the client's delete of the key had the answer of this status
pub record MakesDelete (key : List ℕ) (now : ℕ) (returned : Status) (old new : SharedClient)
    : Type 0 where
  pub answer : DeleteAnswer
  pub calls : MakesCall key (At now (DeletesKey key answer)) old new
  pub returns : returned ≡ delete_status answer

abbrev pub Deleted : List ℕ → ℕ → Option Kept → Option Kept → Status → Type 0
Deleted key now before after returned =
    ByClient (Returns returned) (ByKey (Returns returned) key (MakesDelete key now returned)) before after
