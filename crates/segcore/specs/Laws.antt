-- Laws: what is so of every schedule, every lawful trace and every step. Each is proved as the
-- contract of a function in src/laws.rt.
use Rattle.std.specs.Prelude.{◌≡◌, ◌≢◌, ℕ, ◌+◌, ◌*◌, ◌/◌, ◌%◌, ◌^◌, ◌<◌, ◌≤◌, ◌⊎◌, false, List, ◌∷◌, ◌++◌, Option, Some, None}
use Rattle.segword.specs.Words.{chain_word, IsValid, Shape}
use Rattle.segmodel.specs.Words.{after, Begins, bucket_of, entries_of, IsLegal, keys_in, stirred}
use Rattle.segmodel.specs.Words.{tag_of, writes}
use Rattle.segcore.specs.declared.cell.Cell.{Cell}
use Rattle.segcore.specs.declared.cell.Cell.TheVariants.{OfBucket}
use Rattle.segcore.specs.declared.event.Event.{Event}
use Rattle.segcore.specs.declared.view.View.{View}
use Rattle.segcore.specs.Event.{NoneBy, seen}
use Rattle.segcore.specs.Bucket.{Slot, nothing, bucket_after}
use Rattle.segcore.specs.Overflow.{home, home_of}
use Rattle.segcore.specs.Row.{row_after}
use Rattle.segcore.specs.Lawful.{IsLawful}
use Rattle.segcore.specs.Word.{word, IsAt, IsItemAt}
use Rattle.segcore.specs.Mark.{Mark, marked, entries, chained_to, width, place, IsWellMarked, IsOrderly}
use Rattle.segcore.specs.Ahead.{WasGone}
use Rattle.segcore.specs.Scan.{IsNowhere, IsScanOf}
use Rattle.segcore.specs.Search.{KeyGone, Sought, chain_sought, IsSoughtInItsChain, IsSought, SoughtAt, SoughtGone, SoughtAhead, KeyAt, RowAt}
use Rattle.segcore.specs.Standing.{Names, KeyFacts}
use Rattle.segcore.specs.Chains.{BucketFacts}
use Rattle.segcore.specs.Facts.{SegmentFacts, WorldFacts}
use Rattle.segcore.specs.Count.{CountsStep}
use Rattle.segcore.specs.Filled.{items_below, HasNoEmptyWord}
use Rattle.segcore.specs.Kind.{Step, May, KeepsLaw}
use Rattle.segcore.specs.Meanwhile.{Meanwhile}
use Rattle.segcore.specs.World.{Told, World, SeeMore, Reaches, ReachesOn, IsLawfulWorld}
use Rattle.segcore.specs.Run.{IsRun, IsSeenRun, IsSeenStep, IsSeenWorld, IsStepOf}
use mathlib.Core.Option.{some}
use lib.ListN.{get_elem?}

-- ---- schedules

-- Whoever takes the steps and in whatever order, every world that is reached is lawful.
abbrev pub EveryScheduleIsLawful : Type 0
EveryScheduleIsLawful = (shape : Shape) (steps : List (ℕ × Step)) (world : World)
    → Reaches shape steps world → IsLawfulWorld shape world

-- What each pass has seen before a step, it has seen after it: sight only grows.
abbrev pub SightOnlyGrows : Type 0
SightOnlyGrows = (shape : Shape) (steps : List (ℕ × Step)) (taken : ℕ × Step) (world : World)
    (reached : Reaches shape (taken ∷ steps) world) → SeeMore reached.0.views world.views

-- Every world that is reached says all that a lawful world says.
abbrev pub EveryScheduleSaysAll : Type 0
EveryScheduleSaysAll = (shape : Shape) (steps : List (ℕ × Step)) (world : World)
    → Reaches shape steps world → WorldFacts shape world

-- Whoever takes a step sees all that has happened by then, and looks at just that.
abbrev pub StepSeesAll : Type 0
StepSeesAll = (shape : Shape) (steps : List (ℕ × Step)) (taken : ℕ × Step) (world : World)
    (reached : Reaches shape (taken ∷ steps) world)
    → (view : View) × (get_elem? world.views taken.0 ≡ some view)
    × (view.trace ≡ world.trace)
    × (view.looks ≡ reached.0.trace ∷ reached.1.looks)

-- Each step of a schedule is a step of a run: its pass is told of it.
abbrev pub EveryStepIsTold : Type 0
EveryStepIsTold = (shape : Shape) (steps : List (ℕ × Step)) (taken : ℕ × Step) (world : World)
    (reached : Reaches shape (taken ∷ steps) world)
    → IsStepOf shape taken.0 reached.0 world

-- Whoever takes a step of a run sees all that has happened, by whatever body it is taken.
abbrev pub ToldStepSeesAll : Type 0
ToldStepSeesAll = (shape : Shape) (pass : ℕ) (before after : World)
    → IsLawfulWorld shape before → (taken : IsStepOf shape pass before after)
    → (taken.new.looks ≡ before.trace ∷ taken.old.looks) × (taken.new.trace ≡ after.trace)

-- Each lawful world, each step of which a pass is told, and so each run, is one by what its passes
-- see alone.
abbrev pub LawfulWorldsAreSeen : Type 0
LawfulWorldsAreSeen = (shape : Shape) (world : World)
    → IsLawfulWorld shape world → IsSeenWorld world

abbrev pub StepsAreSeen : Type 0
StepsAreSeen = (shape : Shape) (pass : ℕ) (before after : World)
    → IsLawfulWorld shape before → IsStepOf shape pass before after
    → IsSeenStep pass before after

abbrev pub RunsAreSeen : Type 0
RunsAreSeen = (shape : Shape) (world : ℕ → World) (steps : ℕ)
    → IsRun shape world steps → IsSeenRun world steps

-- Of two calls of any passes, all steps of the one come before all steps of the other. So there is
-- a world in between, which the one pass reached with all its steps, and the other with none yet.
-- What the one has seen by then begins what the other looks at by its first step.
abbrev pub CallsAreInOrder : Type 0
CallsAreInOrder = (shape : Shape) (before after : List (ℕ × Step)) (between world : World)
    (one other : ℕ) (had from to : View) (later : List (List Event)) (first : List Event)
    → Reaches shape before between → ReachesOn shape between after world
    → get_elem? between.views one ≡ some had
    → get_elem? between.views other ≡ some from
    → get_elem? world.views other ≡ some to
    → to.looks ≡ later ++ first ∷ from.looks
    → Begins had.trace first

-- ---- scans

-- A scan that finds what it seeks at none of its looks passed a point at which that was nowhere.
-- What it seeks is a key, or the item of the key if that names a given row.
abbrev pub ScanPassesAMiss : Type 0
ScanPassesAMiss = (shape : Shape) (key : List ℕ) (row : Option (ℕ × ℕ))
    (first : List Mark) (looks : List (List Mark)) (last : List Mark)
    → IsScanOf shape key row first looks last → WasGone (IsNowhere shape key row) first last

-- ---- lawful traces

-- The history of a lawful trace is legal.
abbrev pub SeenHistoryIsLegal : Type 0
SeenHistoryIsLegal = (shape : Shape) (trace : List Event) → IsLawful shape trace
    → IsLegal shape (seen trace)

-- The marks of a lawful trace hold together along the words of chains.
abbrev pub MarksArePlaced : Type 0
MarksArePlaced = (shape : Shape) (trace : List Event) → IsLawful shape trace
    → IsWellMarked shape (marked trace)

-- The marks hold together along segments and rows too.
abbrev pub MarksAreOrderly : Type 0
MarksAreOrderly = (shape : Shape) (trace : List Event) → IsLawful shape trace
    → IsOrderly (marked trace)

-- Without its marks, a marked history is the history.
abbrev pub MarksLeaveTheHistory : Type 0
MarksLeaveTheHistory = (trace : List Event) → entries (marked trace) ≡ seen trace

-- The marks count the overflow buckets that are in a chain.
abbrev pub MarksCountTheChain : Type 0
MarksCountTheChain = (shape : Shape) (trace : List Event) (bucket : ℕ)
    → chained_to (marked trace) bucket ≡ (bucket_after shape trace bucket).chained

-- A lawful trace says which words the keys that stand have.
abbrev pub LawfulKeyFacts : Type 0
LawfulKeyFacts = (shape : Shape) (trace : List Event)
    → IsValid shape → IsLawful shape trace → KeyFacts shape trace

-- A lawful trace says what the words of buckets and of their chains are.
abbrev pub LawfulBucketFacts : Type 0
LawfulBucketFacts = (shape : Shape) (trace : List Event) → IsLawful shape trace
    → BucketFacts shape trace

-- A lawful trace says who is in a segment, and what its rows hold.
abbrev pub LawfulSegmentFacts : Type 0
LawfulSegmentFacts = (shape : Shape) (trace : List Event) → IsValid shape → IsLawful shape trace
    → SegmentFacts shape trace

-- ---- steps

-- A step that a pass may take by what it has seen keeps the rule, whatever others added meanwhile.
abbrev pub AllowedStepKeepsTheRule : Type 0
AllowedStepKeepsTheRule = (shape : Shape) (step : Step) (pass : ℕ) (more old : List Event)
    → IsValid shape → IsLawful shape (more ++ old) → NoneBy pass more → May shape old pass step
    → KeepsLaw shape step pass (more ++ old)

-- What others add while a pass does nothing leaves alone what is the pass's.
abbrev pub OthersLeaveItAlone : Type 0
OthersLeaveItAlone = (shape : Shape) (pass : ℕ) (more old : List Event)
    → IsLawful shape (more ++ old) → NoneBy pass more → Meanwhile shape pass more old

-- A step adds to the counts of its pass what its kind and the word that it found say.
abbrev pub OwnStepIsCounted : Type 0
OwnStepIsCounted = (shape : Shape) (step : Step) (found : ℕ) (old new : View)
    → Told shape step found old new → CountsStep step old.number found old.trace new.trace

-- After a step its pass has seen a longer trace, history and marked history.
abbrev pub OwnStepOnlyAdds : Type 0
OwnStepOnlyAdds = (shape : Shape) (step : Step) (found : ℕ) (old new : View)
    → Told shape step found old new
    → Begins old.trace new.trace × Begins (seen old.trace) (seen new.trace)
    × Begins (marked old.trace) (marked new.trace)

-- ---- searches, for a key and for a row alike

-- When a search begins, what is sought is gone, or it is in its chain, at word 1 or later.
abbrev pub EverySearchBeginsAhead : Type 0
EverySearchBeginsAhead = (shape : Shape) (sought : Sought) (trace : List Event)
    → IsLawful shape trace → IsSoughtInItsChain shape sought trace
    → SoughtAhead shape sought 1 trace trace

-- What a search knows, it knows later too: what is sought only moves forward, or is gone.
abbrev pub AheadStaysAhead : Type 0
AheadStaysAhead = (shape : Shape) (sought : Sought) (position : ℕ) (old new later : List Event)
    → IsLawful shape later → Begins old new → Begins new later
    → SoughtAhead shape sought position old new → SoughtAhead shape sought position old later

-- A search goes on past a position where what is sought isn't.
abbrev pub SearchPassesAnother : Type 0
SearchPassesAnother = (shape : Shape) (sought : Sought) (position : ℕ) (old new : List Event)
    → ¬ (SoughtAt shape sought new position)
    → SoughtAhead shape sought position old new → SoughtAhead shape sought (position + 1) old new

-- A search goes on past word 0 of a bucket, which has no item.
abbrev pub SearchSkipsWordZero : Type 0
SearchSkipsWordZero = (shape : Shape) (sought : Sought) (position : ℕ) (old new : List Event)
    → IsLawful shape new → position % 8 ≡ 0
    → SoughtAhead shape sought position old new → SoughtAhead shape sought (position + 1) old new

-- At the end of the chain, what was sought was gone at some point since the search began.
abbrev pub EndedSearchMissed : Type 0
EndedSearchMissed = (shape : Shape) (sought : Sought) (depth : ℕ) (old new : List Event)
    → IsLawful shape new → (bucket_after shape new (chain_sought shape sought)).chained ≤ depth
    → SoughtAhead shape sought (8 * depth + 8) old new → WasGone (SoughtGone shape sought) old new

-- The word at the position of what is sought names its row, and has the tag of its key.
-- That key is linked to the row.
abbrev pub SoughtWordNamesIt : Type 0
SoughtWordNamesIt = (shape : Shape) (sought : Sought) (trace : List Event) (position : ℕ)
    (cell : Cell)
    → chain_sought shape sought < shape.buckets → IsLawful shape trace
    → IsAt trace (chain_sought shape sought) position cell → SoughtAt shape sought trace position
    → (named : Slot) × IsSought sought named
    × Names shape trace (chain_sought shape sought) position cell
    (tag_of named.key) named.segment named.row
    × ((row_after trace named.segment named.row).linked ≡ Some named.key)

-- ---- the place of a key

-- A word that names a row to which the key is linked is in the key's chain, and has its item.
abbrev pub WordOfItsRowIsTheKeys : Type 0
WordOfItsRowIsTheKeys = (shape : Shape) (key : List ℕ) (trace : List Event)
    (bucket position : ℕ) (cell : Cell) (tag segment row : ℕ)
    → IsValid shape → IsLawful shape trace → Names shape trace bucket position cell tag segment row
    → (row_after trace segment row).linked ≡ Some key
    → (bucket_of shape key ≡ bucket) × KeyAt shape key trace position

-- The position of a key's item is the place of the key in the marked history.
abbrev pub KeyIsAtItsPlace : Type 0
KeyIsAtItsPlace = (shape : Shape) (key : List ℕ) (trace : List Event) (position : ℕ)
    → IsLawful shape trace → KeyAt shape key trace position
    → place shape (marked trace) key ≡ Some position

-- At the place of a key that stands is its item.
abbrev pub PlaceHasTheKey : Type 0
PlaceHasTheKey = (shape : Shape) (key : List ℕ) (trace : List Event) (position : ℕ)
    → IsLawful shape trace → ¬ (KeyGone shape key trace)
    → place shape (marked trace) key ≡ Some position
    → KeyAt shape key trace position

-- ---- what the words of a chain say to one who has no bit

-- A word with another tag isn't the key's.
abbrev pub OtherTagIsNotTheKeys : Type 0
OtherTagIsNotTheKeys = (shape : Shape) (key : List ℕ) (trace : List Event) (position : ℕ)
    (cell : Cell)
    → IsValid shape → IsLawful shape trace → IsAt trace (bucket_of shape key) position cell
    → word shape trace cell / 2 ^ 52 ≢ tag_of key → ¬ (KeyAt shape key trace position)

-- A word that names another segment or row isn't the row's.
abbrev pub OtherPlaceIsNotTheRows : Type 0
OtherPlaceIsNotTheRows = (shape : Shape) (bucket segment row : ℕ) (trace : List Event)
    (position : ℕ) (cell : Cell)
    → IsValid shape → bucket < shape.buckets → IsLawful shape trace
    → IsAt trace bucket position cell
    → word shape trace cell % 2 ^ 44 ≢ segment * 2 ^ 20 + row
    → ¬ (RowAt shape bucket segment row trace position)

-- If the last word of a bucket is neither 0 nor an item word, it leads on to the next of the chain.
abbrev pub ChainWordLeadsOn : Type 0
ChainWordLeadsOn = (shape : Shape) (trace : List Event) (bucket depth : ℕ) (cell : Cell)
    → IsValid shape → IsLawful shape trace → bucket < shape.buckets
    → IsItemAt shape trace bucket (8 * depth + 7) cell
    → 0 < word shape trace cell → word shape trace cell < 2 ^ 52
    → (depth < (bucket_after shape trace bucket).chained)
    × ((number : ℕ) × (word shape trace cell ≡ chain_word number)
    × (home_of trace number ≡ Some (home bucket (depth + 1))) × (number < shape.overflow))

-- If the last word of a bucket is 0 or an item word, the chain ends there.
abbrev pub OtherLastWordEndsTheChain : Type 0
OtherLastWordEndsTheChain = (shape : Shape) (trace : List Event) (bucket depth : ℕ) (cell : Cell)
    → IsValid shape → IsLawful shape trace → IsAt trace bucket (8 * depth + 7) cell
    → (word shape trace cell ≡ 0) ⊎ (2 ^ 52 ≤ word shape trace cell)
    → (bucket_after shape trace bucket).chained ≤ depth

-- Chains only grow.
abbrev pub ChainsOnlyGrow : Type 0
ChainsOnlyGrow = (shape : Shape) (old new : List Event) (bucket : ℕ)
    → Begins old new
    → (bucket_after shape old bucket).chained ≤ (bucket_after shape new bucket).chained

-- The word of a position stays its word.
abbrev pub PositionsStay : Type 0
PositionsStay = (shape : Shape) (old new : List Event) (bucket position : ℕ) (cell : Cell)
    → IsLawful shape new → Begins old new
    → IsItemAt shape old bucket position cell → IsItemAt shape new bucket position cell

-- ---- words that changed

-- The entries of a bucket only grow.
abbrev pub EntriesOnlyGrow : Type 0
EntriesOnlyGrow = (shape : Shape) (bucket : ℕ) (old new : List Event)
    → Begins old new → entries_of shape bucket (seen old) ≤ entries_of shape bucket (seen new)

-- A word that names two different items at two moments had an entry of its bucket in between.
-- Only tag, segment and row tell items apart here: a frequency may rise without an entry.
abbrev pub ChangedWordHadAnEntry : Type 0
ChangedWordHadAnEntry = (shape : Shape) (old new : List Event) (bucket position : ℕ) (cell : Cell)
    (tag segment row tag' segment' row' : ℕ)
    → IsValid shape → IsLawful shape new → Begins old new
    → Names shape old bucket position cell tag segment row
    → Names shape new bucket position cell tag' segment' row'
    → ¬ ((tag ≡ tag') × (segment ≡ segment') × (row ≡ row'))
    → entries_of shape bucket (seen old) + 1 ≤ entries_of shape bucket (seen new)

-- One entry more of the key's bucket stirs the key.
abbrev pub EntryStirsTheKey : Type 0
EntryStirsTheKey = (shape : Shape) (old new : List Event) (key : List ℕ)
    → entries_of shape (bucket_of shape key) (seen old) + 1
    ≤ entries_of shape (bucket_of shape key) (seen new)
    → 1 ≤ stirred shape key (seen old) (seen new)

-- ---- the version of a bucket

-- If the bit of a bucket is clear, its information word has the version of the cache.
abbrev pub FreeWordHasTheVersion : Type 0
FreeWordHasTheVersion = (shape : Shape) (trace : List Event) (bucket : ℕ)
    → shape.first_version < 2 ^ 32 → IsLawful shape trace
    → word shape trace (OfBucket bucket 0) % 2 ^ 32 ≡ 0
    → word shape trace (OfBucket bucket 0) / 2 ^ 32 ≡ (after shape (seen trace)).version bucket

-- If nothing was written under the bit yet, the information word has that version too.
abbrev pub UnwrittenWordHasTheVersion : Type 0
UnwrittenWordHasTheVersion = (shape : Shape) (trace : List Event) (bucket : ℕ)
    → shape.first_version < 2 ^ 32 → IsLawful shape trace
    → (bucket_after shape trace bucket).written ≡ false
    → word shape trace (OfBucket bucket 0) / 2 ^ 32 ≡ (after shape (seen trace)).version bucket

-- The version is the first one and one more for each write to the bucket, modulo 2^32.
abbrev pub VersionIsOfTheWrites : Type 0
VersionIsOfTheWrites = (shape : Shape) (trace : List Event) (bucket : ℕ)
    → shape.first_version < 2 ^ 32 → IsLawful shape trace
    → (after shape (seen trace)).version bucket
    ≡ (shape.first_version + writes shape (seen trace) bucket) % 2 ^ 32

-- ---- the keys of a bucket

-- As many keys of a bucket stand as positions of its chain have an item.
abbrev pub KeysAreAsManyAsItems : Type 0
KeysAreAsManyAsItems = (shape : Shape) (trace : List Event) (bucket : ℕ) → IsLawful shape trace
    → keys_in shape (after shape (seen trace)) bucket
    ≡ items_below (bucket_after shape trace bucket)
    (8 * (bucket_after shape trace bucket).chained + 8)

-- The keys of a bucket are at most seven, and six more for each overflow bucket of its chain.
abbrev pub KeysFitTheirChain : Type 0
KeysFitTheirChain = (shape : Shape) (trace : List Event) (bucket : ℕ) → IsLawful shape trace
    → keys_in shape (after shape (seen trace)) bucket
    ≤ 6 * (bucket_after shape trace bucket).chained + 7

-- The keys of a bucket are exactly so many if no item word is empty.
abbrev pub FullChainHasAllItsKeys : Type 0
FullChainHasAllItsKeys = (shape : Shape) (trace : List Event) (bucket : ℕ)
    → IsLawful shape trace → HasNoEmptyWord (bucket_after shape trace bucket)
    → keys_in shape (after shape (seen trace)) bucket
    ≡ 6 * (bucket_after shape trace bucket).chained + 7

-- If no overflow bucket waits to join it, the chain is as long as the bucket is wide.
abbrev pub ChainIsAsLongAsWide : Type 0
ChainIsAsLongAsWide = (shape : Shape) (trace : List Event) (bucket : ℕ)
    → IsLawful shape trace → (bucket_after shape trace bucket).spare ≡ None
    → width (marked trace) bucket ≡ (bucket_after shape trace bucket).chained + 1

-- A word that isn't 0 has an item, leads on, or is a copy.
abbrev pub FilledWordHasContent : Type 0
FilledWordHasContent = (shape : Shape) (trace : List Event) (bucket position : ℕ) (cell : Cell)
    → IsItemAt shape trace bucket position cell → word shape trace cell ≢ 0
    → (bucket_after shape trace bucket).items position ≢ nothing
