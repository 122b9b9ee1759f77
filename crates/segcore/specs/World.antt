-- Worlds: the words of the table, the passes' views and the trace; the rule that they keep;
-- and the worlds that schedules of steps reach.
use Rattle.std.specs.Prelude.{◌≡◌, ℕ, suc, ◌+◌, ◌<◌, ◌≤◌, List, [], ◌∷◌, ◌++◌, length, slice_index, slice_set}
use mathlib.Core.Option.{some}
use lib.ListN.{get_elem?}
use Rattle.segword.specs.Words.{IsValid, Shape, word_count}
use Rattle.segmodel.specs.Words.{Begins}
use Rattle.segcore.specs.declared.event.Event.{Event}
use Rattle.segcore.specs.declared.cell.Cell.{Cell}
use Rattle.segcore.specs.declared.view.View.{View}
use Rattle.segcore.specs.Event.{NoneBy, seen}
use Rattle.segcore.specs.Mark.{marked}
use Rattle.segcore.specs.Lawful.{IsLawful}
use Rattle.segcore.specs.Word.{IsCell, address, word}
use Rattle.segcore.specs.Kind.{Step, cell, becomes, adds, May}

-- ---- the rule

-- the trace goes on from what the pass has seen, by events of only other passes
pub record Knows (pass : ℕ) (view : View) (trace : List Event) : Type 0 where
  pub number : view.number ≡ pass
  pub more : List Event
  pub rest : trace ≡ more ++ view.trace
  pub others : NoneBy pass more

-- how many steps the passes took together
abbrev pub steps_of : List View → ℕ
steps_of [] = 0
steps_of (view ∷ views) = length view.looks + steps_of views

-- Steps come one after the other: the newest is that of the latest turn.
-- The last step of a pass saw all that passes of earlier turns have seen.
pub record IsTimed (views : List View) : Type 0 where
  pub few : (pass : ℕ) (view : View)
      → get_elem? views pass ≡ some view
      → view.turn ≤ steps_of views
  pub all : 0 < steps_of views
      → (pass : ℕ) × (view : View) × (get_elem? views pass ≡ some view)
      × (view.turn ≡ steps_of views)
  pub later : (pass other : ℕ) (old new : View) (last : List Event) (older : List (List Event))
      → get_elem? views pass ≡ some old
      → get_elem? views other ≡ some new
      → old.turn < new.turn
      → new.looks ≡ last ∷ older
      → Begins old.trace last

pub record Lawful (shape : Shape) (words : List ℕ) (views : List View) (trace : List Event)
    : Type 0 where
  pub valid : IsValid shape
  pub legal : IsLawful shape trace
  -- each word of the table is what the trace makes it
  pub long : length words ≡ word_count shape
  pub each : (of : Cell)
      → IsCell shape of
      → slice_index words (address shape of) ≡ word shape trace of
  -- each pass has seen the trace up to some point, from which only others went on
  pub knows : (pass : ℕ) (view : View) → get_elem? views pass ≡ some view → Knows pass view trace
  -- no event is of a pass that isn't there yet
  pub later : (pass : ℕ) → length views ≤ pass → NoneBy pass trace
  pub dealt : (view : View) → get_elem? views 0 ≡ some view → view.dealt ≡ length views
  pub timed : IsTimed views

-- What a step tells its pass: what others did meanwhile, what it found,
-- and that it added just its own events. The pass looked at the trace just before them.
pub record Told (shape : Shape) (step : Step) (found : ℕ) (old new : View) : Type 0 where
  pub more : List Event
  pub others : NoneBy old.number more
  pub before : IsLawful shape (more ++ old.trace)
  pub found_is : found ≡ word shape (more ++ old.trace) (cell step)
  pub turn : ℕ
  pub now : new
      ≡ record old {
        trace = adds step old.number found ++ (more ++ old.trace);
        looks = (more ++ old.trace) ∷ old.looks;
        turn = turn;
      }
  pub legal : IsLawful shape new.trace

-- ---- schedules

pub record World : Type 0 where
  pub words : List ℕ
  pub views : List View
  pub trace : List Event

pub record IsFresh (passes pass : ℕ) (view : View) : Type 0 where
  pub number : view.number ≡ pass
  pub unseen : view.trace ≡ []
  pub unlooked : view.looks ≡ []
  pub unturned : view.turn ≡ 0
  pub dealt : view.dealt ≡ passes

-- no event yet, and each word as at the start
pub record IsOpening (shape : Shape) (world : World) : Type 0 where
  pub valid : IsValid shape
  pub untouched : world.trace ≡ []
  pub long : length world.words ≡ word_count shape
  pub each : (of : Cell)
      → IsCell shape of
      → slice_index world.words (address shape of) ≡ word shape [] of
  pub new : (pass : ℕ) (view : View)
      → get_elem? world.views pass ≡ some view
      → IsFresh (length world.views) pass view

-- the world after a step of a pass, whose view was this
abbrev pub after_step : Shape → ℕ → View → Step → World → World
after_step shape pass view step world =
    let found = slice_index world.words (address shape (cell step)) in
    let trace = adds step pass found ++ world.trace in
    record {
      words = slice_set world.words (address shape (cell step)) (becomes step found);
      views =
          slice_set world.views pass
          (record view {
            trace = trace;
            looks = world.trace ∷ view.looks;
            turn = suc (steps_of world.views);
          });
      trace = trace;
    }

-- the world is reached by these steps of passes, the last one first,
-- each of which its pass may take at that point
abbrev pub Reaches : Shape → List (ℕ × Step) → World → Type 0
Reaches shape [] world = IsOpening shape world
Reaches shape (taken ∷ steps) world =
    (old : World) × (view : View)
    × Reaches shape steps old
    × (get_elem? old.views taken.0 ≡ some view)
    × May shape view.trace taken.0 taken.1
    × (world ≡ after_step shape taken.0 view taken.1 old)

-- the world is reached from an earlier one by these further steps
abbrev pub ReachesOn : Shape → World → List (ℕ × Step) → World → Type 0
ReachesOn shape start [] world = world ≡ start
ReachesOn shape start (taken ∷ steps) world =
    (old : World) × (view : View)
    × ReachesOn shape start steps old
    × (get_elem? old.views taken.0 ≡ some view)
    × May shape view.trace taken.0 taken.1
    × (world ≡ after_step shape taken.0 view taken.1 old)

abbrev pub IsLawfulWorld : Shape → World → Type 0
IsLawfulWorld shape world = Lawful shape world.words world.views world.trace

-- what a pass has seen only grew: the trace, the marked history and the history
pub record Grew (old new : View) : Type 0 where
  pub trace : Begins old.trace new.trace
  pub marks : Begins (marked old.trace) (marked new.trace)
  pub entries : Begins (seen old.trace) (seen new.trace)

-- no pass is gone, and what each has seen only grew
abbrev pub SeeMore : List View → List View → Type 0
SeeMore views later =
    (pass : ℕ) (old : View) → get_elem? views pass ≡ some old
    → (new : View) × (get_elem? later pass ≡ some new) × Grew old new
