-- Facts of traces that have at most one proof, so that a struct may keep them in a ghost field.
use Rattle.std.specs.Prelude.{◌≡◌, ℕ, Bool, List, [], ◌∷◌, Option, None, Some}
use Rattle.std.specs.Coded.{×_prop, Unit-prop}
use Rattle.std.proofs.Common.{sym, ap, ◌∙◌, subst, arith}
use Rattle.std.proofs.Props.{props}
use Rattle.std.proofs.lemmas.Option.{same_Some}
use Rattle.segword.specs.Words.{either-prop, IsKey-prop, IsValue-prop, pair-prop, quadruple-prop}
use Rattle.segword.specs.Words.{Limits, Shape, triple-prop}
use Rattle.segmodel.specs.declared.request.Reply.TheVariants.{Stored, NotStored, Exists, NotFound, Deleted}
use Rattle.segmodel.specs.declared.entry.Entry.TheVariants as entry
use Rattle.segmodel.specs.Words.{Cached, Cached-set, Entry, Follows-prop, Reply, Reply-set, Request-set}
use Rattle.segcore.specs.declared.event.Event.{Event}
use Rattle.segcore.specs.declared.event.Event.TheVariants.{Took, Bounced, Glanced, Freed, Replied, Filled, Linked, Relinked, Unlinked, Drew, Put, Chained, Bumped, Entered, Left, Refilled}
use Rattle.segcore.specs.Event.{AllBy}
use Rattle.segcore.specs.Bucket.{Slot, slot, Content, nothing, item, copy}
use Rattle.segcore.specs.ItemWord.{IsWordOf}
use Rattle.segcore.specs.Row.{Row}
use Rattle.segcore.specs.Segment.{NoneRefills}
use Rattle.segcore.specs.Within.{AreWithin, StoresWithin}
use Rattle.segcore.specs.Lawful.{HasItemOf, HasRoomFor, HoldsWhatStands, IsRefusal, MayLeave, IsOther, Suits, Fits, IsLawful, NoneAt}
use Rattle.segcore.specs.declared.event.Leaving.TheVariants.{Deletes, Evicts}
use Rattle.segcore.specs.declared.event.Leaving.{Leaving}

pub Event-set : IsSet Event
Event-set = hlevel (props, Request-set, Reply-set)

Slot-set : IsSet Slot
Slot-set = hlevel props

pub Content-set : IsSet Content
Content-set = hlevel (props, Slot-set)

-- ---- a word of a chain tells what it holds

abbrev item_in : Content → Slot
item_in (item named) = named
item_in _ = slot [] 0 0

abbrev word_in : Content → ℕ
word_in (copy word) = word
word_in _ = 0

abbrev IsNothing : Content → Type 0
IsNothing nothing = Unit {0}
IsNothing _ = ⊥

same_item : (content : Content) (x y : Slot) → content ≡ item x → content ≡ item y → x ≡ y
same_item content x y at on = ap item_in (sym at ∙ on)

same_copy : (content : Content) (x y : ℕ) → content ≡ copy x → content ≡ copy y → x ≡ y
same_copy content x y at on = ap word_in (sym at ∙ on)

same_some : (option : Option ℕ) (x y : ℕ) → option ≡ Some x → option ≡ Some y → x ≡ y
same_some option x y at on = same_Some x y (sym at ∙ on)

IsWordOf-prop : (named : Slot) (word : ℕ) → IsProp (IsWordOf named word)
IsWordOf-prop named word =
    triple-prop (λ frequency. hlevel props) (λ x y at on. omega (arith, at.1, on.1))

HasItemOf-prop : (shape : Shape) (trace : List Event) (key : List ℕ) (position : ℕ)
    → IsProp (HasItemOf shape trace key position)
HasItemOf-prop shape trace key position =
    triple-prop (λ named. hlevel (props, Content-set)) (λ x y at on. same_item _ x y at.0 on.0)

-- one word has an item, and another one a copy
has_both : (last fresh : Content)
    → IsProp ((named : Slot) × (word : ℕ) × (last ≡ item named) × (fresh ≡ copy word))
has_both last fresh u v =
    ap (λ (w : ((named : Slot) × (last ≡ item named)) × ((word : ℕ) × (fresh ≡ copy word))).
    (w.0.0, w.1.0, w.0.1, w.1.1)) (×_prop (pair-prop (λ named. Content-set _ _) (same_item last))
    (pair-prop (λ word. Content-set _ _) (same_copy fresh)) ((u.0, u.2), (u.1, u.3))
    ((v.0, v.2), (v.1, v.3)))

HasRoomFor-prop : (shape : Shape) (trace : List Event) (key : List ℕ) (position : ℕ)
    → IsProp (HasRoomFor shape trace key position)
HasRoomFor-prop shape trace key position =
    either-prop (hlevel (props, Content-set, Cached-set))
    (HasItemOf-prop shape trace key position)
    (λ empty has. subst IsNothing (sym empty.0 ∙ has.1) tt)

-- ---- which event may come next

IsRefusal-prop : (reply : Reply) → IsProp (IsRefusal reply)
IsRefusal-prop Stored = hlevel
IsRefusal-prop Deleted = hlevel
IsRefusal-prop NotStored = Unit-prop
IsRefusal-prop Exists = Unit-prop
IsRefusal-prop NotFound = Unit-prop

Leaves-prop : (why : Leaving) (written : Bool) (segment : ℕ) → IsProp (MayLeave why written segment)
Leaves-prop (Deletes now) written segment = hlevel props
Leaves-prop (Evicts evicted) written segment = hlevel props

HoldsWhatStands-prop : (shape : Shape) (trace : List Event) (key : List ℕ) (segment : ℕ)
    (row : Row)
    → IsProp (HoldsWhatStands shape trace key segment row)
HoldsWhatStands-prop shape trace key segment row =
    triple-prop (λ value. hlevel (props, Cached-set)) (λ x y at on. ap (λ (c : Cached). c.value)
    (same_Some (record { value = x; segment = segment }) (record { value = y; segment = segment })
    (sym at.0 ∙ on.0)))

IsOther-prop : (pass : ℕ) (holder : Option ℕ) → IsProp (IsOther pass holder)
IsOther-prop pass holder =
    triple-prop (λ other. hlevel props) (λ x y at on. same_some holder x y at.0 on.0)

pub Suits-prop : (shape : Shape) (trace : List Event) (event : Event)
    → IsProp (Suits shape trace event)
Suits-prop shape trace (Took pass bucket) = Unit-prop
Suits-prop shape trace (Bounced pass bucket) = IsOther-prop pass _
Suits-prop shape trace (Glanced pass bucket) = IsOther-prop pass _
Suits-prop shape trace (Freed pass bucket counted) = hlevel props
Suits-prop shape trace (Replied pass request reply) = IsRefusal-prop reply
Suits-prop shape trace (Filled pass segment row place word) = hlevel props
Suits-prop shape trace (Linked pass request segment row position) =
    hlevel (props, HasRoomFor-prop, IsKey-prop, IsValue-prop)
Suits-prop shape trace (Relinked pass key from from_row segment row position) =
    hlevel (props, HoldsWhatStands-prop, Content-set)
Suits-prop shape trace (Unlinked pass key position why) =
    quadruple-prop (λ named. hlevel (props, Content-set, Leaves-prop))
    (λ x y at on. same_item _ x y at.0 on.0)
Suits-prop shape trace (Drew pass bucket depth number) = hlevel props
Suits-prop shape trace (Put pass bucket word) =
    triple-prop (λ number. ×_prop (hlevel props) (triple-prop
    (λ named. hlevel (props, Content-set, IsWordOf-prop))
    (λ x y at on. same_item _ x y at.0 on.0)))
    (λ x y at on. same_some _ x y at.0 on.0)
Suits-prop shape trace (Chained pass bucket number) = ×_prop (hlevel props) (has_both _ _)
Suits-prop shape trace (Bumped pass segment row frequency) = hlevel props
Suits-prop shape trace (Entered pass segment) = hlevel props
Suits-prop shape trace (Left pass segment) = hlevel props
Suits-prop shape trace (Refilled pass segment deadline) = hlevel props

pub Fits-prop : (shape : Shape) (trace : List Event) (event : Event)
    → IsProp (Fits shape trace event)
Fits-prop shape trace event = hlevel (props, Follows-prop, Suits-prop)

pub IsLawful-prop : (shape : Shape) (trace : List Event) → IsProp (IsLawful shape trace)
IsLawful-prop shape [] = Unit-prop
IsLawful-prop shape (event ∷ trace) =
    ×_prop (IsLawful-prop shape trace) (Fits-prop shape trace event)

-- ---- of all events

pub AllBy-prop : (pass : ℕ) (trace : List Event) → IsProp (AllBy pass trace)
AllBy-prop pass [] = Unit-prop
AllBy-prop pass (event ∷ trace) = ×_prop (hlevel props) (AllBy-prop pass trace)

pub NoneAt-prop : (shape : Shape) (bucket : ℕ) (trace : List Event)
    → IsProp (NoneAt shape bucket trace)
NoneAt-prop shape bucket [] = Unit-prop
NoneAt-prop shape bucket (event ∷ trace) = ×_prop (hlevel props) (NoneAt-prop shape bucket trace)

pub NoneRefills-prop : (segment : ℕ) (trace : List Event) → IsProp (NoneRefills segment trace)
NoneRefills-prop segment [] = Unit-prop
NoneRefills-prop segment (event ∷ trace) = ×_prop (hlevel props) (NoneRefills-prop segment trace)

-- ---- of all entries

StoresWithin-prop : (limits : Limits) (stored : Entry) → IsProp (StoresWithin limits stored)
StoresWithin-prop limits (entry.Wrote pass request reply (Some segment)) = hlevel props
StoresWithin-prop limits (entry.Wrote pass request reply None) = Unit-prop
StoresWithin-prop limits (entry.Evicted pass key segment) = Unit-prop
StoresWithin-prop limits (entry.Refilled pass segment deadline) = Unit-prop
StoresWithin-prop limits (entry.Moved pass key from to) = Unit-prop

pub AreWithin-prop : (limits : Limits) (history : List Entry) → IsProp (AreWithin limits history)
AreWithin-prop limits [] = Unit-prop
AreWithin-prop limits (stored ∷ history) =
    ×_prop (StoresWithin-prop limits stored) (AreWithin-prop limits history)
