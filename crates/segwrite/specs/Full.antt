-- When a bucket's chain has no word left for a new key, and when the chain can grow.
use Rattle.std.specs.Prelude.{◌≡◌, ◌≢◌, ◌⊎◌, ℕ, ◌+◌, ◌*◌, ◌<◌, true, false, List, ◌∷◌, None}
use Rattle.segword.specs.Words.{Shape}
use Rattle.segmodel.specs.Words.{adds_key, after, Begins, bucket_of, IsBetween, key_of, keys_in}
use Rattle.segmodel.specs.Words.{Request, standing}
use Rattle.segcore.specs.declared.event.Event.TheVariants.{Drew}
use Rattle.segcore.specs.Words.{all_drawn, drew, entries, Event, Mark, width}
use Rattle.segcore.specs.Mark as mark
use Rattle.segbase.specs.Words.{count, number, Pass, trace}

-- ---- refusals

-- a new key finds no empty word: all words of its bucket's chain are taken
pub record HasNoWord (shape : Shape) (marks : List Mark) (key : List ℕ) : Type 0 where
  pub new : standing (after shape (entries marks)) key ≡ None
  pub full : keys_in shape (after shape (entries marks)) (bucket_of shape key)
      ≡ 6 * width marks (bucket_of shape key) + 1

-- a new key finds no empty word, and the chain can't grow: it has four buckets,
-- or no overflow bucket is left
pub record IsFull (shape : Shape) (marks : List Mark) (key : List ℕ) : Type 0 where
  pub no_word : HasNoWord shape marks key
  pub last : (width marks (bucket_of shape key) ≡ 4) ⊎ (all_drawn marks ≡ shape.overflow)

-- at a moment between these two a new key found no empty word, and the chain couldn't grow
abbrev pub WasFull : Shape → List ℕ → List Mark → List Mark → Type 0
WasFull shape key old new = (marks : List Mark) × IsBetween old new marks × IsFull shape marks key

-- ---- growing

-- a new key finds no empty word, and the chain can grow
pub record CanGrow (shape : Shape) (marks : List Mark) (key : List ℕ) : Type 0 where
  pub no_word : HasNoWord shape marks key
  pub short : width marks (bucket_of shape key) < 4
  pub left : all_drawn marks < shape.overflow

-- Between one trace and a longer one, the pass drew an overflow bucket for the bucket of a key.
-- At that moment the key was new and found no empty word, and the chain could grow.
pub record DrewInNeed (shape : Shape) (key : List ℕ) (pass : ℕ) (old new : List Event)
    : Type 0 where
  pub at : List Event
  pub depth : ℕ
  pub overflow : ℕ
  pub since : Begins old at
  pub draw : Begins (Drew pass (bucket_of shape key) depth overflow ∷ at) new
  pub could : CanGrow shape (mark.marked at) key

-- For the bucket of the request's key the pass drew one overflow bucket at most,
-- and for other buckets none.
-- It drew one only if that was needed, for a request that adds keys.
pub record GrowsFor (shape : Shape) (request : Request) (p q : Pass) : Type 0 where
  pub others : (bucket : ℕ)
      → bucket ≢ bucket_of shape (key_of request)
      → count (drew bucket) q ≡ count (drew bucket) p
  pub own : (count (drew (bucket_of shape (key_of request))) q
      ≡ count (drew (bucket_of shape (key_of request))) p)
      ⊎ ((count (drew (bucket_of shape (key_of request))) q
      ≡ count (drew (bucket_of shape (key_of request))) p + 1)
      × (adds_key request false ≡ true)
      × DrewInNeed shape (key_of request) (number p) (trace p) (trace q))
