-- The rule of the table: some trace makes its words what they are,
-- and goes on from what each seat knows.
use Rattle.std.specs.Prelude.{◌≡◌, ◌≢◌, ℕ, ◌+◌, ◌≤◌, ◌⊎◌, true, false, List, [], ◌∷◌, length, None}
use mathlib.Core.Option.{some}
use lib.ListN.{get_elem?}
use Rattle.atomic_table.specs.Table.{State, Me, Step as TableStep}
use Rattle.segcore.specs.Words.{AreWithin, Event, Lawful, NoneBy, seen, Step, Told, View}
use Rattle.segbase.specs.declared.law.Constants.{Constants}
use Rattle.segbase.specs.declared.law.Memo.{Memo}
use Rattle.segbase.specs.declared.law.Sight.{Sight}
use Rattle.segmodel.specs.Words.{Begins}

-- each of these views is the one of its number
abbrev pub AreViews : List View → List View → Type 0
AreViews views [] = Unit {0}
AreViews views (view ∷ more) = (get_elem? views view.number ≡ some view) × AreViews views more

-- none of these views has the number
abbrev pub NoneNumbered : ℕ → List View → Type 0
NoneNumbered number [] = Unit {0}
NoneNumbered number (view ∷ more) = (view.number ≢ number) × NoneNumbered number more

-- What a seat knows has happened. The seat of a pass has the view of its number,
-- and so has each pass that was given up to the seat.
pub record IsSight (views : List View) (trace : List Event) (sight : Sight) : Type 0 where
  pub seen : Begins sight.view.trace trace
  pub met : Begins sight.met trace
  pub own : sight.is_pass ≡ true → get_elem? views sight.view.number ≡ some sight.view
  pub ended : AreViews views sight.ended

-- the view is one of these
abbrev pub IsAmong : View → List View → Type 0
IsAmong view [] = ⊥
IsAmong view (other ∷ more) = (other ≡ view) ⊎ IsAmong view more

-- the seat is that of the view's pass, or the pass was given up to it
abbrev pub HasView : Sight → View → Type 0
HasView sight view =
    ((sight.is_pass ≡ true) × (sight.view ≡ view))
    ⊎ ((sight.is_pass ≡ false) × IsAmong view sight.ended)

-- some seat has the view
abbrev pub IsHeld : List Sight → View → Type 0
IsHeld sights view =
    (id : ℕ) × (sight : Sight) × (get_elem? sights id ≡ some sight) × HasView sight view

-- no pass that was given up has the number of one that takes steps
abbrev pub AreApart : List Sight → Type 0
AreApart sights = (i j : ℕ) (x y : Sight)
    → get_elem? sights i ≡ some x
    → get_elem? sights j ≡ some y
    → y.is_pass ≡ true
    → NoneNumbered y.view.number x.ended

-- the views are those of the passes, by their numbers
pub record Rule {S : Type 0} (constants : Constants) (state : State S Sight) : Type 0 where
  pub trace : List Event
  pub views : List View
  pub lawful : Lawful constants.shape state.words views trace
  -- nothing that was stored is longer than the limits allow
  pub within : AreWithin constants.limits (seen trace)
  -- no more passes than the shape has
  pub few : length views ≤ constants.shape.passes
  pub sights : (id : ℕ) (sight : Sight)
      → get_elem? state.views id ≡ some sight
      → IsSight views trace sight
  pub held : (number : ℕ) (view : View)
      → get_elem? views number ≡ some view
      → IsHeld state.views view
  -- no two passes have one number
  pub one : (i j : ℕ) (x y : Sight)
      → get_elem? state.views i ≡ some x
      → get_elem? state.views j ≡ some y
      → x.is_pass ≡ true
      → y.is_pass ≡ true
      → x.view.number ≡ y.view.number
      → i ≡ j
  pub apart : AreApart state.views

abbrev pub no_memo : Memo
no_memo = record { holding = None; locked = None }

abbrev pub pass_sight : View → Sight
pass_sight view = record { view = view; met = []; is_pass = true; memo = no_memo; ended = [] }

-- the first pass
abbrev pub first_sight : Sight
first_sight = pass_sight (record { number = 0; trace = []; looks = []; turn = 0; dealt = 1 })

-- what is left with the first pass, and what a further pass begins with
abbrev pub dealer : Sight → Sight
dealer sight = record sight { view = record sight.view { dealt = sight.view.dealt + 1 } }

abbrev pub newcomer : Sight → Sight
newcomer sight =
    pass_sight (record { number = sight.view.dealt; trace = []; looks = []; turn = 0; dealt = 0 })

-- a pass keeps what it knows
abbrev pub same_sight : Sight → Sight
same_sight sight = sight

-- a seat that carries what a pass has seen, and one that carries nothing
abbrev pub witness : Sight → Sight
witness sight = record { view = sight.view; met = []; is_pass = false; memo = no_memo; ended = [] }

abbrev pub spent : Sight
spent = record {
  view = record { number = 0; trace = []; looks = []; turn = 0; dealt = 0 };
  met = [];
  is_pass = false;
  memo = no_memo;
  ended = [];
}

-- a pass learns what another had seen
abbrev pub meets : Sight → Sight → Sight
meets sight other = record sight { met = other.view.trace }

-- a pass is given up to a seat
abbrev pub ends : Sight → Sight → Sight
ends sight pass = record sight { ended = pass.view ∷ sight.ended }

-- a pass keeps something in mind
abbrev pub minding : Memo → Sight → Sight
minding memo sight = record sight { memo = memo }

-- what a seat learns from a step of its pass
pub record Learns (constants : Constants) (step : Step) (found : ℕ) (x y : Sight) : Type 0 where
  pub told : Told constants.shape step found x.view y.view
  pub within : AreWithin constants.limits (seen y.view.trace)
  pub met : Begins x.met y.view.trace
  -- nothing is of a pass that the shape doesn't have
  pub among : (pass : ℕ) → constants.shape.passes ≤ pass → NoneBy pass y.view.trace
  pub is_pass : y.is_pass ≡ x.is_pass
  pub memo : y.memo ≡ x.memo

abbrev pub IsStepOutcome : {S : Type 0} → Constants → Step → TableStep S → Me S Sight → ℕ
    → Me S Sight → Type 0
IsStepOutcome constants step _ me found me' =
    Learns constants step found me.0 me'.0 × (me'.1 ≡ me.1)

-- a store isn't told what it found
abbrev pub ReturnsStored : {S : Type 0} → Constants → Step → TableStep S → Me S Sight → ℕ
    → Me S Sight → Type 0
ReturnsStored constants step _ me _ me' =
    ((found : ℕ) × Learns constants step found me.0 me'.0) × (me'.1 ≡ me.1)
