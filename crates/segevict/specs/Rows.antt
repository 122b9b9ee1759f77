-- The rows of a segment of the pass's own, each with the word of a chain that names it.
use Rattle.std.specs.Prelude.{◌≡◌, ℕ, ◌<◌, IsSome, List, Option, Some, MatchOption}
use Rattle.segword.specs.Words.{IsSameItem, Item, item_word, Shape}
use Rattle.segmodel.specs.declared.answer.SegState.TheVariants.{InUse}
use Rattle.segmodel.specs.Words.{Begins, bucket_of, owner, tag_of}
use Rattle.segcore.specs.Words.{Event, row_after, RowAt, RowGone, span_in, word}
use Rattle.segbase.specs.Words.{Board, cell_at, number, Pass, position, trace}
use Rattle.segbase.specs.Words.{state_of, used_of}
use Rattle.segwrite.specs.Words.{IsInChain, Target}

-- ---- rows

-- the row is one of those of the pass's segment that are used
abbrev pub IsUsedRow : ℕ → ℕ → Pass → Type 0
IsUsedRow segment row p = (used : ℕ) × (used_of p segment ≡ Some used) × (row < used)

-- the segment is in use, and the row is one of its used rows
abbrev pub HasRow : ℕ → ℕ → Pass → Type 0
HasRow segment row p = (state_of p segment ≡ Some InUse) × IsUsedRow segment row p

-- this is so if a word names the row
abbrev pub IfNamed : Shape → List Event → ℕ → ℕ → Type 0 → Type 0
IfNamed shape trace segment row so =
    (bucket position : ℕ) → RowAt shape bucket segment row trace position → so

-- the bucket is one of the table, and that of the key if a word names the row
abbrev pub IsHomeOf : Shape → List Event → ℕ → ℕ → ℕ → List ℕ → Type 0
IsHomeOf shape trace segment row bucket key =
    (bucket < shape.buckets) × IfNamed shape trace segment row (bucket ≡ bucket_of shape key)

-- The item, its frequency aside,
-- is that of a key that was linked to a row of the pass's own in this filling.
-- The bucket and the tag are those of the key if a word names the row.
pub record IsStoredIn (b : Board) (bucket : ℕ) (item : Item) (p : Pass) : Type 0 where
  pub key : List ℕ
  pub own : owner b.shape item.seg ≡ number p
  pub linked : (row_after (trace p) item.seg item.row).linked ≡ Some key
  pub home : IsHomeOf b.shape (trace p) item.seg item.row bucket key
  pub tag : IfNamed b.shape (trace p) item.seg item.row (item.tag ≡ tag_of key)

-- ---- the word that names a row

-- the place has a word of the bucket's chain, which names the row of the item now
pub record IsNamedAt (b : Board) (bucket : ℕ) (item : Item) (target : Target) (p : Pass)
    : Type 0 where
  pub chain : IsInChain b bucket target.place p
  pub named : RowAt b.shape bucket item.seg item.row (trace p)
      (position b.shape (trace p) target.place)
  pub reads : target.word ≡ word b.shape (trace p) (cell_at b.shape target.place)
  pub same : IsSameItem target.word (item_word item)

-- the word that names the row is found, or no word names the row
abbrev pub FindsRow : Board → ℕ → Item → Option Target → Pass → Type 0
FindsRow b bucket item found p =
    MatchOption found (RowGone b.shape item.seg item.row (trace p))
    (λ target. IsNamedAt b bucket item target p)

-- ---- a walk

-- What the pass has seen only grew, the rows of the segment have the keys that they had,
-- its items take as many rows as they took, and what was gone stays gone.
pub record KeepsGone (b : Board) (segment : ℕ) (p q : Pass) : Type 0 where
  pub grew : Begins (trace p) (trace q)
  pub linked : (row : ℕ)
      → (row_after (trace q) segment row).linked ≡ (row_after (trace p) segment row).linked
  pub spans : (row : ℕ)
      → IsSome (row_after (trace p) segment row).linked
      → span_in (trace q) segment row ≡ span_in (trace p) segment row
  pub lasts : (row : ℕ)
      → RowGone b.shape segment row (trace p)
      → RowGone b.shape segment row (trace q)
