-- What a table has stored is within the limits of the table.
use Rattle.std.specs.Prelude.{◌≡◌, ℕ, List, [], ◌∷◌, ◌++◌, Some}
use Rattle.segword.specs.Words.{IsWithin, Limits, Shape}
use Rattle.segmodel.specs.declared.entry.Entry.TheVariants.{Wrote}
use Rattle.segmodel.specs.Words.{after, Entry, key_of, reads, value_of}
use Rattle.segcore.specs.declared.event.Event.{Event}
use Rattle.segcore.specs.Event.{seen}
use Rattle.segcore.specs.Kind.{adds, link, Step}

-- what an entry stores, if it stores anything, is within the limits
abbrev pub StoresWithin : Limits → Entry → Type 0
StoresWithin limits (Wrote pass request reply (Some segment)) =
    IsWithin limits (key_of request) (value_of request)
StoresWithin limits _ = Unit {0}

-- all that a history stored is within the limits
abbrev pub AreWithin : Limits → List Entry → Type 0
AreWithin limits [] = Unit {0}
AreWithin limits (entry ∷ history) = StoresWithin limits entry × AreWithin limits history

-- what a step links, if it links anything, is within the limits
abbrev pub LinksWithin : Limits → Step → Type 0
LinksWithin limits (link request segment row position of old) =
    IsWithin limits (key_of request) (value_of request)
LinksWithin limits _ = Unit {0}

-- A step that links only what is within the limits leaves all that was stored within them.
abbrev pub StepsStayWithin : Type 0
StepsStayWithin = (limits : Limits) (step : Step) (pass found : ℕ) (trace : List Event)
    → LinksWithin limits step
    → AreWithin limits (seen trace)
    → AreWithin limits (seen (adds step pass found ++ trace))

-- Whatever a get reads, after a history that stored only what is within the limits, is within them.
abbrev pub ReadsAreWithin : Type 0
ReadsAreWithin = (shape : Shape) (limits : Limits) (history : List Entry) (now : ℕ)
    (key value : List ℕ)
    → AreWithin limits history
    → reads (after shape history) now key ≡ Some value
    → IsWithin limits key value
