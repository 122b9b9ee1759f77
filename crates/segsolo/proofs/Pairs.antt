-- Which item an entry came with: in the marks of a trace each `at` stands right before the entry of its item, so the entries of a call tell its marks.
use Rattle.std.proofs.Common.{◌≡◌, ℕ, ◌+◌, cond, List, [], ◌∷◌, ◌++◌, Option, Some, None, MatchOption, refl, sym, ap, ◌∙◌, subst, arith}
use Rattle.std.proofs.lemmas.Bool.{eq-eqb}
use Rattle.segmodel.specs.declared.entry.Entry.TheVariants as entry
use Rattle.segmodel.specs.declared.request.Reply.TheVariants as reply
use Rattle.segmodel.specs.Words.{Entry, key_of, Reply, Request}
use Rattle.segcore.specs.declared.event.Event.TheVariants.{Replied, Linked, Relinked, Unlinked, Bumped}
use Rattle.segcore.specs.declared.event.Leaving.TheVariants.{Deletes, Evicts}
use Rattle.segcore.specs.Count as traces
use Rattle.segcore.specs.Mark.{at, bumped, enters, Mark, marked}
use Rattle.segcore.specs.Words.{AllBy, Event, raised}

-- ---- pairs

-- the key that comes to stand in a segment by an entry; an item that is stored has the frequency 1, and one that is moved what it had
abbrev pub brings : Entry → Option (List ℕ × ℕ × Option ℕ)
brings (entry.Wrote pass request reply.Stored (Some segment)) = Some (key_of request, segment, Some 1)
brings (entry.Moved pass key from to) = Some (key, to, None)
brings _ = None

-- an `at` is right before an entry that brings its key to its segment, and it says the frequency 1 where that is stored
abbrev pub IsPaired : Option (List ℕ × ℕ × Option ℕ) → List Mark → Type 0
IsPaired None [] = Unit {0}
IsPaired (Some brought) [] = ⊥
IsPaired None (enters added ∷ marks) = IsPaired (brings added) marks
IsPaired None (at key segment row position frequency ∷ marks) = ⊥
IsPaired None (_ ∷ marks) = IsPaired None marks
IsPaired (Some brought) (at key segment row position frequency ∷ marks) = ((key ≡ brought.0) × (segment ≡ brought.1)
    × MatchOption brought.2 (Unit {0}) (λ first. frequency ≡ first)) × IsPaired None marks
IsPaired (Some brought) (_ ∷ marks) = ⊥

-- a reply that names no segment brings none
pub brings_none : (pass : ℕ) (request : Request) (told : Reply) → brings (entry.Wrote pass request told None) ≡ None
brings_none pass request reply.Stored = refl
brings_none pass request told = refl

pub marked_paired : (trace : List Event) → IsPaired None (marked trace)
marked_paired [] = tt
marked_paired (Replied pass request told ∷ trace) = subst (λ brought. IsPaired brought (marked trace)) (sym (brings_none pass request told)) (marked_paired trace)
marked_paired (Linked pass request segment row position ∷ trace) = ((refl, refl, refl), marked_paired trace)
marked_paired (Relinked pass key from from_row segment row position ∷ trace) = ((refl, refl, tt), marked_paired trace)
marked_paired (Unlinked pass key position (Deletes now) ∷ trace) = marked_paired trace
marked_paired (Unlinked pass key position (Evicts segment) ∷ trace) = marked_paired trace
marked_paired (event ∷ trace) = marked_paired trace

-- no entry waits for its item
pub none_waits : (brought : Option (List ℕ × ℕ × Option ℕ)) (marks : List Mark) → IsPaired None marks → IsPaired brought marks → brought ≡ None
none_waits None marks paired waits = refl
none_waits (Some brought) [] paired waits = absurd waits
none_waits (Some brought) (at key segment row position frequency ∷ marks) paired waits = absurd paired
none_waits (Some brought) (mark ∷ marks) paired waits = absurd waits

-- ---- frequencies that were raised

-- how many were raised
abbrev pub all_raised : List Mark → ℕ
all_raised [] = 0
all_raised (bumped segment row frequency ∷ marks) = all_raised marks + 1
all_raised (_ ∷ marks) = all_raised marks

pub raised_joined : (more old : List Mark) → all_raised (more ++ old) ≡ all_raised more + all_raised old
raised_joined [] old = omega arith
raised_joined (bumped segment row frequency ∷ more) old = let rest = raised_joined more old in omega arith
raised_joined (mark ∷ more) old = raised_joined more old

-- all of them by the one pass
pub all_its : (pass : ℕ) (trace : List Event) → AllBy pass trace → all_raised (marked trace) ≡ traces.count raised pass trace
all_its pass [] all = refl
all_its pass (Bumped by segment row frequency ∷ trace) all = ap (λ n. n + 1) (all_its pass trace all.1)
    ∙ sym (ap (λ t. cond t (traces.count raised pass trace + 1) (traces.count raised pass trace)) (eq-eqb by pass all.0))
all_its pass (Unlinked by key position (Deletes now) ∷ trace) all = all_its pass trace all.1
all_its pass (Unlinked by key position (Evicts segment) ∷ trace) all = all_its pass trace all.1
all_its pass (event ∷ trace) all = all_its pass trace all.1
