-- Whether a key is present at a moment, seen under the bit of its bucket.
-- The pass comes into the segment in which the key stands, sees the segment's deadline, and leaves.
use Rattle.std.specs.Prelude.{◌≡◌, ℕ, Bool, true, false, List, ◌∷◌, IfSome, IsSome, Option, Some, None}
use Rattle.segmodel.specs.declared.request.Request.TheVariants.{Set}
use Rattle.segmodel.specs.Words.{after, Begins, present, Request, StandsIn, key_of}
use Rattle.segcore.specs.declared.event.Event.TheVariants.{Entered}
use Rattle.segcore.specs.Event as event
use Rattle.segcore.specs.Words.{Event}
use Rattle.segword.specs.Words.{Shape}
use Rattle.segbase.specs.Words.{AddsEvents, Board, number, Pass, seen, trace}
use Rattle.segstore.specs.Words.{memo, peek}
use Rattle.segwrite.specs.declared.find.Target.{Target}
use Rattle.segwrite.specs.Writing.{own_word}

-- whether the answer to the request depends on whether its key is present:
-- only a set is stored in any case
abbrev pub depends_on_key : Request → Bool
depends_on_key (Set key value now) = false
depends_on_key request = true

-- between two traces the pass came into this segment, and the key stood there at that moment
pub record CameIn (shape : Shape) (key : List ℕ) (pass segment : ℕ) (old new : List Event)
    : Type 0 where
  pub at : List Event
  pub since : Begins old at
  pub until : Begins (Entered pass segment ∷ at) new
  pub stood : StandsIn (after shape (event.seen at)) key segment

-- The pass came into the segment in which the key stood, to see its deadline, or came into none.
-- It did nothing else.
pub record Peeks (b : Board) (key : List ℕ) (p q : Pass) : Type 0 where
  pub into : Option ℕ
  pub moved : AddsEvents b (peek (number p) into) p q
  pub came : IfSome into (λ segment. CameIn b.shape key (number p) segment (trace p) (trace q))
  pub plain : q.plain ≡ p.plain
  pub memo : memo q ≡ memo p

-- the pass looked so for a request;
-- it came into no segment for one that doesn't depend on the key's presence
pub record PeeksFor (b : Board) (request : Request) (p q : Pass) : Type 0 where
  pub peeks : Peeks b (key_of request) p q
  pub none : depends_on_key request ≡ false → peeks.into ≡ None

-- the key's own word if the key is present at the moment, and none if it is absent
abbrev pub IsPresentWord : Board → List ℕ → ℕ → Option Target → Option Target → Pass → Type 0
IsPresentWord b key now found None q = present (after b.shape (seen q)) now key ≡ None
IsPresentWord b key now found (Some target) q =
    (own_word found ≡ Some target) × IsSome (present (after b.shape (seen q)) now key)
