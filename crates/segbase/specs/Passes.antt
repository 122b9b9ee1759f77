-- A pass as contracts see it, and what its steps and calls do.
use Rattle.std.specs.Prelude.{◌≡◌, ℕ, ◌+◌, ◌*◌, ◌<◌, ◌==◌, ◌⊎◌, List, [], ◌∷◌, ◌++◌, length, Option, true, if◌then◌else◌}
use Rattle.segword.specs.Words.{IsValid}
use Rattle.segcore.specs.Words.{adds, AllBy, AreWithin, becomes, cell, Counted, Event, inside}
use Rattle.segcore.specs.Words.{IsLawful, LinksWithin, Mark, May, NoneBy, NoneRefills, Step, Told, View}
use Rattle.segcore.specs.Count as traces
use Rattle.segcore.specs.Event as event
use Rattle.segcore.specs.Mark as mark
use Rattle.segcore.specs.Segment as segments
use Rattle.segmodel.specs.Words.{Begins, Entry}
use Rattle.segmodel.specs.History as history
use Rattle.segbase.specs.declared.law.Held.{Held}
use Rattle.segbase.specs.declared.law.Locked.{Locked}
use Rattle.segbase.specs.declared.law.Memo.{Memo}
use Rattle.segbase.specs.declared.law.Sight.{Sight}
use Rattle.segbase.specs.declared.pass.Pass.{Pass}
use Rattle.segbase.specs.declared.board.Board.{Board}
use Rattle.segbase.specs.declared.place.Spot.{Spot}
use Rattle.segbase.specs.Minding.{Minds}
use Rattle.segbase.specs.PlainPart.{segments_of}
use Rattle.segbase.specs.Traces.{own_of, StaysIn, OnlyReads}
use Rattle.segbase.specs.Spots.{cell_of}

abbrev pub sight : Pass → Sight
sight p = p.seat.me.0

abbrev pub view : Pass → View
view p = (sight p).view

abbrev pub number : Pass → ℕ
number p = (view p).number

-- all events that the pass has seen, its own among them
abbrev pub trace : Pass → List Event
trace p = (view p).trace

-- what each step of the pass saw: the trace just before it, the newest step's first
abbrev pub looks : Pass → List (List Event)
looks p = (view p).looks

-- the history that the pass has seen, with marks and without
abbrev pub marked : Pass → List Mark
marked p = mark.marked (trace p)

abbrev pub seen : Pass → List Entry
seen p = event.seen (trace p)

-- the pass's own entries in that history
abbrev pub mine : Pass → List Entry
mine p = history.mine (number p) (seen p)

-- how often the pass did what is counted
abbrev pub count : Counted → Pass → ℕ
count what p = traces.count what (number p) (trace p)

-- what the pass holds and what it has locked
abbrev pub holding : Pass → Option Held
holding p = (sight p).memo.holding

abbrev pub locked : Pass → Option Locked
locked p = (sight p).memo.locked

-- The pass may keep this in mind. What it holds stood, and what it has locked it had the bit of,
-- each at a moment that it has seen.
abbrev pub IsMemo : Board → Pass → Memo → Type 0
IsMemo b p memo = Minds b.shape (trace p) (number p) memo

-- A pass of this board, between any two of its steps.
-- The trace that it has seen is lawful, and its plain part agrees with it.
pub record IsPassOf (b : Board) (p : Pass) : Type 0 where
  pub table : p.seat.table_id ≡ b.table.shared.table_id
  pub bare : p.seat.me.1 ≡ []
  pub is_pass : (sight p).is_pass ≡ true
  pub valid : IsValid b.shape
  pub lawful : IsLawful b.shape (trace p)
  -- nothing that was stored is longer than the table's limits allow
  pub within : AreWithin b.limits (seen p)
  pub one_of : number p < b.shape.passes
  -- if the pass is the only one, all that has happened is its own
  pub alone : b.shape.passes ≡ 1 → AllBy (number p) (trace p)
  pub minds : IsMemo b p (sight p).memo
  -- the plain part agrees
  pub numbered : p.plain.number ≡ number p
  pub first : p.plain.first ≡ number p * b.shape.segments_each
  pub rows : p.plain.rows ≡ b.shape.rows
  pub owns : length (segments_of p.plain) ≡ b.shape.segments_each

-- the pass may take the step, which changes the word of this spot by f
pub record CanStep (b : Board) (p : Pass) (step : Step) (spot : Spot) (f : ℕ → ℕ) : Type 0 where
  pub pass : IsPassOf b p
  pub at : cell step ≡ cell_of b.shape spot
  pub by : becomes step ≡ f
  pub may : May b.shape (trace p) (number p) step
  pub links : LinksWithin b.limits step

-- This is what the first step between two views of a pass saw: others went on to it from what the
-- pass had seen.
pub record StartsFrom (old new : View) (start : List Event) : Type 0 where
  pub later : List (List Event)
  pub looked : new.looks ≡ later ++ start ∷ old.looks
  pub others : List Event
  pub since : start ≡ others ++ old.trace
  pub none : NoneBy old.number others
  pub until : Begins start new.trace

-- this is what the first step of a call saw
abbrev pub StartsAt : Pass → Pass → List Event → Type 0
StartsAt p q start = StartsFrom (view p) (view q) start

-- a call has a first step
abbrev pub HasStep : Pass → Pass → Type 0
HasStep p q = (start : List Event) × StartsAt p q start

-- it has one; or it takes no step, and the pass has seen what it had
abbrev pub TakesSteps : Pass → Pass → Type 0
TakesSteps p q = HasStep p q ⊎ ((looks q ≡ looks p) × (trace q ≡ trace p))

-- this is so from what the first step of a call saw; so the call has a step
abbrev pub SinceFirst : Pass → Pass → (List Event → Type 0) → Type 0
SinceFirst p q Is = (start : List Event) × StartsAt p q start × Is start

-- A call: the pass added these events of its own, newest first, beside what others did meanwhile.
pub record AddsEvents (b : Board) (own : List Event) (p q : Pass) : Type 0 where
  pub pass : IsPassOf b q
  pub same : number q ≡ number p
  pub more : List Event
  pub goes_on : trace q ≡ more ++ trace p
  pub adds : own_of (number p) more ≡ own
  pub steps : TakesSteps p q
  -- a segment that the pass stayed in wasn't filled again
  pub kept : (s : ℕ) → StaysIn own (trace p) (number p) s → NoneRefills s more

-- the pass did nothing itself, and keeps its plain part and what it has in mind
abbrev pub SeesMore : Board → Pass → Pass → Type 0
SeesMore b p q = AddsEvents b [] p q × (q.plain ≡ p.plain) × ((sight q).memo ≡ (sight p).memo)

-- One step: others added events, none of them the pass's, and then the pass added just these.
pub record AddsAtOnce (b : Board) (own : List Event) (p q : Pass) : Type 0 where
  pub moved : AddsEvents b own p q
  pub others : List Event
  pub none : NoneBy (number p) others
  pub before : IsLawful b.shape (others ++ trace p)
  pub now : trace q ≡ own ++ (others ++ trace p)

-- the pass took the step, which found this word;
-- its plain part and what it keeps in mind are as they were
pub record Stepped (b : Board) (step : Step) (found : ℕ) (p q : Pass) : Type 0 where
  pub told : Told b.shape step found (view p) (view q)
  pub did : AddsAtOnce b (adds step (number p) found) p q
  pub plain : q.plain ≡ p.plain
  pub memo : (sight q).memo ≡ (sight p).memo
  -- the pass has seen at least what it was told of
  pub met : Begins (sight p).met (trace q)

-- the pass only read, and is in each segment as often as before
pub record Reads (b : Board) (p q : Pass) : Type 0 where
  pub own : List Event
  pub moved : AddsEvents b own p q
  pub only : OnlyReads own
  pub inside : (s : ℕ) → inside (trace q) (number p) s ≡ inside (trace p) (number p) s
  pub stays : (s : ℕ)
      → 0 < segments.inside (trace p) (number p) s
      → StaysIn own (trace p) (number p) s

-- the pass only read, and is in this segment once more than before,
-- and in each other one as often as before
pub record ReadsIn (b : Board) (p q : Pass) (segment : ℕ) : Type 0 where
  pub own : List Event
  pub moved : AddsEvents b own p q
  pub only : OnlyReads own
  pub inside : (s : ℕ)
      → inside (trace q) (number p) s
      ≡ (if segment == s then inside (trace p) (number p) s + 1 else inside (trace p) (number p) s)
  pub stays : (s : ℕ)
      → 0 < segments.inside (trace p) (number p) s
      → StaysIn own (trace p) (number p) s
