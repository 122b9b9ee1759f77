-- The state of a bucket and its chain after a trace: who has the bit, the version,
-- and what stands at each position.
use Rattle.std.specs.Prelude.{ℕ, ◌+◌, ◌*◌, ◌%◌, ◌<◌, ◌==◌, Bool, true, false, List, [], ◌∷◌, Option, Some, None, if◌then◌else◌}
use Rattle.segword.specs.Words.{Shape}
use Rattle.segmodel.specs.Words.{bucket_of, key_of, with_at}
use Rattle.segcore.specs.declared.event.Event.{Event}
use Rattle.segcore.specs.declared.event.Event.TheVariants.{Took, Freed, Replied, Linked, Relinked, Unlinked, Drew, Put, Chained}
use Rattle.segcore.specs.declared.event.Leaving.TheVariants.{Deletes, Evicts}
use Rattle.segcore.specs.declared.event.Leaving.{Leaving}

-- what an item word names: the key that stands there,
-- and the segment and row that its link or its last move named
pub record Slot : Type 0 where
  pub key : List ℕ
  pub segment : ℕ
  pub row : ℕ

abbrev pub slot : List ℕ → ℕ → ℕ → Slot
slot key segment row = record { key = key; segment = segment; row = row }

-- What a word of a chain holds: nothing, an item, or the number of the next bucket.
-- Word 1 of a bucket that waits to join the chain holds a copy of the word that will move there.
pub data Content : Type 0 where
  nothing : Content
  item : Slot → Content
  next : ℕ → Content
  copy : ℕ → Content

pub record Bucket : Type 0 where
  -- the pass that has the bit
  pub holder : Option ℕ
  -- whether something was stored or deleted under the bit
  pub written : Bool
  -- how often the bit was given back with the version raised
  pub version : ℕ
  -- how many overflow buckets are in the chain
  pub chained : ℕ
  -- the number of the overflow bucket that is drawn for the bucket and not yet in the chain
  pub spare : Option ℕ
  -- by position: word w of the bucket at depth d of the chain is at 8 * d + w
  pub items : ℕ → Content

-- the position of the chain's last word, which is word 7 of its last bucket
abbrev pub last : Bucket → ℕ
last bucket = 8 * bucket.chained + 7

-- the position of word 1 of the overflow bucket that may join the chain next
abbrev pub fresh_position : Bucket → ℕ
fresh_position bucket = 8 * bucket.chained + 9

-- the position is that of an item word of the chain
abbrev pub IsPosition : Bucket → ℕ → Type 0
IsPosition bucket position = (position < 8 * bucket.chained + 8) × (0 < position % 8)

-- the bucket that an event changes, or reads under its bit
abbrev pub bucket_at : Shape → Event → Option ℕ
bucket_at shape (Took pass bucket) = Some bucket
bucket_at shape (Freed pass bucket counted) = Some bucket
bucket_at shape (Replied pass request reply) = Some (bucket_of shape (key_of request))
bucket_at shape (Linked pass request segment row position) = Some (bucket_of shape (key_of request))
bucket_at shape (Relinked pass key from from_row segment row position) = Some (bucket_of shape key)
bucket_at shape (Unlinked pass key position why) = Some (bucket_of shape key)
bucket_at shape (Drew pass bucket depth number) = Some bucket
bucket_at shape (Put pass bucket word) = Some bucket
bucket_at shape (Chained pass bucket number) = Some bucket
bucket_at shape _ = None

-- whether the option has this number
abbrev pub is : Option ℕ → ℕ → Bool
is None number = false
is (Some other) number = other == number

-- whether something is written under the bit once an item has left its word: a delete writes,
-- an eviction doesn't
abbrev pub written_by : Leaving → Bool → Bool
written_by (Deletes now) written = true
written_by (Evicts segment) written = written

-- the bucket after an event of it
abbrev pub acts : Event → Bucket → Bucket
acts (Took pass b) bucket = record bucket { holder = Some pass }
acts (Freed pass b counted) bucket = record bucket {
  holder = None;
  written = false;
  version = if counted then bucket.version + 1 else bucket.version;
}
acts (Linked pass request segment row position) bucket = record bucket {
  written = true;
  items = with_at bucket.items position (item (slot (key_of request) segment row));
}
-- an item that is moved keeps its position, and a move is no write to the bucket
acts (Relinked pass key from from_row segment row position) bucket =
    record bucket { items = with_at bucket.items position (item (slot key segment row)) }
acts (Unlinked pass key position why) bucket = record bucket {
  written = written_by why bucket.written;
  items = with_at bucket.items position nothing;
}
acts (Drew pass b depth number) bucket = record bucket { spare = Some number }
acts (Put pass b word) bucket =
    record bucket { items = with_at bucket.items (fresh_position bucket) (copy word) }
-- the item of the last word moves to the first word of the new bucket
acts (Chained pass b number) bucket = record bucket {
  chained = bucket.chained + 1;
  spare = None;
  items = with_at (with_at bucket.items (fresh_position bucket) (bucket.items (last bucket)))
      (last bucket) (next number);
}
acts _ bucket = bucket

abbrev pub empty_bucket : Bucket
empty_bucket = record {
  holder = None;
  written = false;
  version = 0;
  chained = 0;
  spare = None;
  items = λ position. nothing;
}

-- the state of a bucket after a trace
abbrev pub bucket_after : Shape → List Event → ℕ → Bucket
bucket_after shape [] bucket = empty_bucket
bucket_after shape (event ∷ trace) bucket =
    if is (bucket_at shape event) bucket
    then acts event (bucket_after shape trace bucket)
    else bucket_after shape trace bucket
