-- Notes of all shards of a cache, or of one, and two clients that meet in each shard.
use Rattle.std.specs.Prelude.{◌≡◌, ℕ, List, [], ◌∷◌, length, slice_get, Some}
use Rattle.std.specs.List.{AllZip}
use Rattle.segindex.specs.Words.{board_of, IsNoteOf, Note}
use Rattle.segclient.specs.declared.client.Client as one
use Rattle.segclient.specs.Client as of_one
use Rattle.segclient.specs.Made.{Meet}
use Rattle.segshards.specs.declared.client.Client.{Client}
use Rattle.segshards.specs.Each.{KeepsClock}
use Rattle.segshards.specs.Shards.{shard_of}

-- the note is of the index of the key's shard
pub record IsNoteForKey (key : List ℕ) (note : Note) (client : Client) : Type 0 where
  pub holder : one.Client
  pub there : slice_get client.shards.items (shard_of (length client.shards.items) key)
      ≡ Some holder
  pub is : IsNoteOf (board_of holder.index.now) note

-- there is a note of each shard, in their order
abbrev pub AreNotesFor : Client → List Note → Type 0
AreNotesFor client notes =
    AllZip (λ one note. IsNoteOf (board_of one.index.now) note) client.shards.items notes

-- the two clients are of the same shards
abbrev pub AreOfSameShards : Client → Client → Type 0
AreOfSameShards client other =
    AllZip (λ one its. its.index.now ≡ one.index.now) client.shards.items other.shards.items

-- two clients of one shard met
pub record MeetInShard (old other new next : one.Client) : Type 0 where
  pub same : of_one.IsSame old new
  pub other_same : of_one.IsSame other next
  pub meets : Meet (board_of old.index.now) old.member other.member new.member next.member

-- they met in each shard
unfoldable pub MeetAll : List one.Client → List one.Client → List one.Client → List one.Client
    → Type 0
MeetAll [] [] [] [] = Unit {0}
MeetAll (old ∷ olds) (other ∷ others) (new ∷ news) (next ∷ nexts) =
    MeetInShard old other new next × MeetAll olds others news nexts
MeetAll _ _ _ _ = ⊥

abbrev pub EachMeets : Client → Client → Client → Client → Type 0
EachMeets old other new next =
    MeetAll old.shards.items other.shards.items new.shards.items next.shards.items
    × KeepsClock old new × KeepsClock other next
