-- The word of its bucket's chain that a new key takes: the first that is empty,
-- in the order of a scan.
use Rattle.std.specs.Prelude.{◌≡◌, ◌≢◌, ◌⊎◌, ℕ, ◌*◌, ◌%◌, ◌<◌, List, ◌∷◌, None, Some}
use Rattle.segword.specs.Words.{Shape}
use Rattle.segmodel.specs.declared.request.Reply.TheVariants.{Stored}
use Rattle.segmodel.specs.declared.entry.Entry.TheVariants.{Wrote}
use Rattle.segmodel.specs.Words.{after, Begins, bucket_of, key_of, Request, standing}
use Rattle.segcore.specs.declared.event.Event.TheVariants.{Linked}
use Rattle.segcore.specs.Mark.{chained_to, enters, IsIn, place}
use Rattle.segcore.specs.Mark as mark
use Rattle.segcore.specs.Words.{Bucket, bucket_after, entries, Event, IsPosition, Mark, nothing}
use Rattle.segcore.specs.Words.{seen}

-- ---- by marks

-- At a moment a word of the key's chain is taken: it has the item of a key that stands,
-- or it leads on to the chain's next bucket.
abbrev pub IsTaken : Shape → List Mark → List ℕ → ℕ → Type 0
IsTaken shape marks key position =
    ((other : List ℕ)
    × (bucket_of shape other ≡ bucket_of shape key)
    × (place shape marks other ≡ Some position)
    × (standing (after shape (entries marks)) other ≢ None))
    ⊎ ((position % 8 ≡ 7) × (position < 8 * chained_to marks (bucket_of shape key)))

pub record IsFirstEmpty (shape : Shape) (marks : List Mark) (key : List ℕ) (position : ℕ)
    : Type 0 where
  pub here : IsIn shape marks key position
  pub empty : ¬ (IsTaken shape marks key position)
  pub before : (earlier : ℕ)
      → earlier < position
      → 0 < earlier % 8
      → IsTaken shape marks key earlier

-- Between two moments the pass stored the request's pair.
-- If the key didn't stand just before, its item came to the first empty word of its chain.
pub record TookFirstEmpty (shape : Shape) (request : Request) (pass : ℕ) (old new : List Mark)
    : Type 0 where
  pub at : List Mark
  pub segment : ℕ
  pub row : ℕ
  pub position : ℕ
  pub since : Begins old at
  pub link : Begins (enters (Wrote pass request Stored (Some segment))
      ∷ mark.at (key_of request) segment row position 1 ∷ at) new
  pub first : standing (after shape (entries at)) (key_of request) ≡ None
      → IsFirstEmpty shape at (key_of request) position

-- ---- by words

-- each word of the chain before this position has an item or leads on
abbrev pub AreTakenBefore : Bucket → ℕ → Type 0
AreTakenBefore bucket position =
    (earlier : ℕ) → earlier < position → IsPosition bucket earlier → bucket.items earlier ≢ nothing

pub record IsFirstNothing (bucket : Bucket) (position : ℕ) : Type 0 where
  pub here : IsPosition bucket position
  pub empty : bucket.items position ≡ nothing
  pub before : AreTakenBefore bucket position

-- Between one trace and a longer one, the pass linked a row for the request.
-- If the key didn't stand at that moment,
-- the row was linked at the first empty word of the key's chain.
pub record LinkedFirst (shape : Shape) (request : Request) (pass : ℕ) (old new : List Event)
    : Type 0 where
  pub at : List Event
  pub segment : ℕ
  pub row : ℕ
  pub position : ℕ
  pub since : Begins old at
  pub link : Begins (Linked pass request segment row position ∷ at) new
  pub first : standing (after shape (seen at)) (key_of request) ≡ None
      → IsFirstNothing (bucket_after shape at (bucket_of shape (key_of request))) position
