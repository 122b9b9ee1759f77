-- What storing under a bucket's bit leaves, before the bit is given back.
use Rattle.std.specs.Prelude.{◌≡◌, ℕ, true, List, ◌∷◌, Some, None}
use Rattle.segword.specs.Words.{row_of}
use Rattle.segmodel.specs.declared.request.Reply.TheVariants.{Stored}
use Rattle.segmodel.specs.Words.{after, key_of, reply_in, Request, value_of}
use Rattle.segcore.specs.declared.event.Event.TheVariants.{Linked}
use Rattle.segcore.specs.Words.{bucket_after, Event, HasBit}
use Rattle.segbase.specs.Words.{AddsEvents, Board, current_of, number, Pass, seen, trace, used_of}
use Rattle.segstore.specs.Words.{AreRows, fills}
use Rattle.segwrite.specs.FirstEmpty.{LinkedFirst}
use Rattle.segwrite.specs.Spans.{rows_of}

-- the row is the next one of the pass's current segment, with so many rows from there on
pub record AreNextRows (b : Board) (segment row rows : ℕ) (p : Pass) : Type 0 where
  pub current : current_of p ≡ Some segment
  pub used : used_of p segment ≡ Some row
  pub fits : AreRows b.shape row rows

-- the row is the next one, with as many as a request's item takes
abbrev pub IsNextRow : Board → Request → ℕ → ℕ → Pass → Type 0
IsNextRow b request segment row p = AreNextRows b segment row (rows_of request) p

-- the request is one to store this pair, and would be replied Stored now
pub record Requests (b : Board) (request : Request) (key value : List ℕ) (p : Pass) : Type 0 where
  pub of : (key_of request ≡ key) × (value_of request ≡ value)
  pub stored : Stored ≡ reply_in b.shape (after b.shape (seen p)) request

-- the row was written at these places, and then an item word named it
abbrev pub stores : ℕ → Request → ℕ → ℕ → ℕ → List ℕ → List Event
stores pass request segment row position places =
    Linked pass request segment row position
    ∷ fills pass segment row (row_of (key_of request) (value_of request)) places

abbrev pub StoresUnderBit : Board → Request → ℕ → ℕ → Pass → Pass → Type 0
StoresUnderBit b request segment row p q =
    (position : ℕ) × (places : List ℕ)
    × AddsEvents b (stores (number p) request segment row position places) p q
    × LinkedFirst b.shape request (number p) (trace p) (trace q)

-- the pass has the bit, and something was written under it
pub record HasWritten (b : Board) (p : Pass) (bucket : ℕ) : Type 0 where
  pub bit : HasBit b.shape (trace p) (number p) bucket
  pub written : (bucket_after b.shape (trace p) bucket).written ≡ true
  pub undrawn : (bucket_after b.shape (trace p) bucket).spare ≡ None
