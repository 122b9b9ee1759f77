-- What a hold says of the pass that has it, and what the calls of holds do.
use Rattle.std.specs.Prelude.{◌≡◌, ◌≢◌, ◌↔◌, ℕ, ◌+◌, ◌<◌, ◌≤◌, true, is_some, List, [], ◌∷◌, ◌++◌, Option, Some, None, IfSome}
use Rattle.segword.specs.Words.{covers, IsKey, IsValue, Shape, value_width}
use Rattle.segmodel.specs.declared.entry.Entry.TheVariants.{Refilled}
use Rattle.segmodel.specs.Words.{after, Entry, IsBetween, present, stirred}
use Rattle.segcore.specs.Event as event
use Rattle.segcore.specs.Words.{Event, Holds, IsSegment, row_after, span_in}
use Rattle.segbase.specs.Words.{Board, Held, holding, is_holding_of, mine, Pass, seen, SinceFirst}
use Rattle.segbase.specs.Words.{with_holding}
use Rattle.segread.specs.declared.held.HeldRow.{HeldRow}
use Rattle.segread.specs.declared.held.Hold.{Hold}
use Rattle.segread.specs.declared.held.HoldAnswer.{HoldAnswer}
use Rattle.segread.specs.declared.held.HoldAnswer.TheVariants as hold_answer
use Rattle.segstore.specs.Words.{ChangesNothing, CostsNothing, GoesOn, memo, TakesAtMost}
use Rattle.segread.specs.Costs.{CostsOfHold}
use Rattle.segread.specs.Reads.{ReadsBetween}

-- the row is linked to the key, and so are those behind it of the item that begins there
abbrev pub AreLinked : List Event → ℕ → ℕ → List ℕ → Type 0
AreLinked trace segment row key =
    (other : ℕ)
    → covers row (span_in trace segment row) other ≡ true
    → (row_after trace segment other).linked ≡ Some key

-- the row is linked to the key of what is held, and holds the pair
pub record IsRowOf (trace : List Event) (row : HeldRow) (held : Held) : Type 0 where
  pub linked : AreLinked trace row.segment row.row held.key
  pub pair : Holds (row_after trace row.segment row.row) held.key held.value

-- The row is that of the item that the pass holds.
-- While the pass holds it, the row stays as it is, since its segment isn't filled again.
pub record IsHeldRow (shape : Shape) (row : HeldRow) (p : Pass) : Type 0 where
  pub held : Held
  pub holds : holding p ≡ Some held
  pub segment : row.segment ≡ held.segment
  pub in_table : IsSegment shape row.segment × (row.row < shape.rows)
  pub valid : IsKey held.key × IsValue held.value
  pub stands : IsRowOf held.trace row held

-- the hold has the row of the item that the pass holds
abbrev pub IsHoldOf : Shape → Hold → Pass → Type 0
IsHoldOf shape hold p = IsHeldRow shape hold.row p

-- the pass holds this from now on, or nothing; all else that the pass keeps is as it was
pub record SetsHold (held : Option Held) (p q : Pass) : Type 0 where
  pub plain : q.plain ≡ with_holding (is_some held) p.plain
  pub memo : memo q ≡ record (memo p) { holding = held }

-- The pass holds an item of the key.
-- The item stood at some moment after the call's first step, and was then present at `now`.
pub record TakesHold (shape : Shape) (key : List ℕ) (now : ℕ) (row : HeldRow) (p q : Pass)
    : Type 0 where
  pub is : IsHeldRow shape row q
  pub of : is.held.key ≡ key
  pub finds : present (after shape (event.seen is.held.trace)) now is.held.key
      ≡ Some (record { value = is.held.value; segment = is.held.segment })
  pub between : SinceFirst p q
      (λ start. IsBetween (event.seen start) (seen q) (event.seen is.held.trace))
  pub entries : mine q ≡ mine p
  pub sets : SetsHold (Some is.held) p q

-- a hold takes the item, or answers as a get does and changes nothing
abbrev pub IsHoldAnswer : Shape → List ℕ → ℕ → HoldAnswer → Pass → Pass → Type 0
IsHoldAnswer shape key now (hold_answer.Holding hold) p q =
    TakesHold shape key now hold.row p q
IsHoldAnswer shape key now hold_answer.Miss p q =
    ChangesNothing p q
    × SinceFirst p q (λ start. ReadsBetween shape key now (event.seen start) (seen q) None)
IsHoldAnswer shape key now hold_answer.Busy p q =
    ChangesNothing p q
    × SinceFirst p q (λ start. 64 ≤ stirred shape key (event.seen start) (seen q))
IsHoldAnswer shape key now hold_answer.AlreadyHolding p q = q ≡ p

-- a hold of a key has this answer, which is AlreadyHolding exactly if the pass holds an item
pub record HoldsItem (b : Board) (key : List ℕ) (now : ℕ) (told : HoldAnswer) (p q : Pass)
    : Type 0 where
  pub on : GoesOn b p q
  pub answer : IsHoldAnswer b.shape key now told p q
  pub already : (told ≡ hold_answer.AlreadyHolding) ↔ (is_holding_of p ≡ true)
  pub costs : CostsOfHold p q

-- The value that is read is the one that the pass holds.
-- Reading it changes nothing and costs nothing but loads, one more than a value has words, and the
-- hold stays.
pub record ReadsRow (b : Board) (row : HeldRow) (told : List ℕ) (p q : Pass) : Type 0 where
  pub on : GoesOn b p q
  pub keeps : ChangesNothing p q
  pub costs_nothing : CostsNothing p q
  pub steps : TakesAtMost (1 + value_width) p q
  pub hold : IsHeldRow b.shape row q
  pub value : IfSome (holding p) (λ held. told ≡ held.value)

abbrev pub ReadsHeld : Board → Hold → List ℕ → Pass → Pass → Type 0
ReadsHeld b hold told p q = ReadsRow b hold.row told p q

-- none of the entries is a refilling of the segment
abbrev pub NoneFills : ℕ → List Entry → Type 0
NoneFills segment [] = Unit {0}
NoneFills segment (entry ∷ history) =
    ((pass deadline : ℕ) → entry ≢ Refilled pass segment deadline) × NoneFills segment history

-- the segment of what is held wasn't filled again up to this history
abbrev pub IsUnfilled : Held → List Entry → Type 0
IsUnfilled held new =
    (more : List Entry) × (new ≡ more ++ event.seen held.trace) × NoneFills held.segment more

-- the pass holds nothing, and up to now the segment of what it held wasn't filled again
pub record Releases (p q : Pass) : Type 0 where
  pub entries : mine q ≡ mine p
  pub sets : SetsHold None p q
  pub unfilled : (held : Held) → holding p ≡ Some held → IsUnfilled held (seen q)

-- a release ends the hold of the pass, and costs nothing but one step
pub record ReleasesHold (b : Board) (p q : Pass) : Type 0 where
  pub on : GoesOn b p q
  pub costs_nothing : CostsNothing p q
  pub steps : TakesAtMost 1 p q
  pub releases : Releases p q
