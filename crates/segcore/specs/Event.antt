-- What an event is by itself: whose it is, and which entry it adds to the history.
-- A trace has its newest event first, so that `∷` adds to it.
use Rattle.std.specs.Prelude.{◌≡◌, ◌≢◌, ℕ, List, [], ◌∷◌, Option, Some, None}
use Rattle.segmodel.specs.declared.request.Request.TheVariants.{Delete}
use Rattle.segmodel.specs.declared.request.Reply.TheVariants.{Stored, Deleted}
use Rattle.segmodel.specs.Words.{Entry}
use Rattle.segmodel.specs.declared.entry.Entry.TheVariants as entry
use Rattle.segcore.specs.declared.event.Event.{Event}
use Rattle.segcore.specs.declared.event.Event.TheVariants.{Took, Bounced, Glanced, Freed, Replied, Filled, Linked, Relinked, Unlinked, Drew, Put, Chained, Bumped, Entered, Left, Refilled}
use Rattle.segcore.specs.declared.event.Leaving.TheVariants.{Deletes, Evicts}
use Rattle.segcore.specs.declared.event.Leaving.{Leaving}

-- the pass whose event it is
abbrev pub by : Event → ℕ
by (Took pass bucket) = pass
by (Bounced pass bucket) = pass
by (Glanced pass bucket) = pass
by (Freed pass bucket counted) = pass
by (Replied pass request reply) = pass
by (Filled pass segment row place word) = pass
by (Linked pass request segment row position) = pass
by (Relinked pass key from from_row segment row position) = pass
by (Unlinked pass key position why) = pass
by (Drew pass bucket depth number) = pass
by (Put pass bucket word) = pass
by (Chained pass bucket number) = pass
by (Bumped pass segment row frequency) = pass
by (Entered pass segment) = pass
by (Left pass segment) = pass
by (Refilled pass segment deadline) = pass

-- no event is of the pass
abbrev pub NoneBy : ℕ → List Event → Type 0
NoneBy pass [] = Unit {0}
NoneBy pass (event ∷ trace) = (by event ≢ pass) × NoneBy pass trace

-- all events are of the pass
abbrev pub AllBy : ℕ → List Event → Type 0
AllBy pass [] = Unit {0}
AllBy pass (event ∷ trace) = (by event ≡ pass) × AllBy pass trace

-- the entry of a key that leaves its word: deleted, or evicted from a segment
abbrev pub removal : ℕ → List ℕ → Leaving → Entry
removal pass key (Deletes now) = entry.Wrote pass (Delete key now) Deleted None
removal pass key (Evicts segment) = entry.Evicted pass key segment

-- the entry that an event adds, if it adds one
abbrev pub entry_of : Event → Option Entry
entry_of (Replied pass request reply) = Some (entry.Wrote pass request reply None)
entry_of (Linked pass request segment row position) =
    Some (entry.Wrote pass request Stored (Some segment))
entry_of (Relinked pass key from from_row segment row position) =
    Some (entry.Moved pass key from segment)
entry_of (Unlinked pass key position why) = Some (removal pass key why)
entry_of (Refilled pass segment deadline) = Some (entry.Refilled pass segment deadline)
entry_of _ = None

abbrev pub with_entry : Option Entry → List Entry → List Entry
with_entry None history = history
with_entry (Some added) history = added ∷ history

-- the history of the entries that the events of a trace add
abbrev pub seen : List Event → List Entry
seen [] = []
seen (event ∷ trace) = with_entry (entry_of event) (seen trace)
