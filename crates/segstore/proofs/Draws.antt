-- How many overflow buckets the events of a call draw for a bucket: none, or one where its chain grew.
use Rattle.std.proofs.Common.{◌≡◌, ℕ, List, [], ◌∷◌, ◌++◌, refl, ◌∙◌}
use Rattle.segcore.specs.declared.event.Event.TheVariants.{Drew}
use Rattle.segcore.specs.Words.{count, drew, Event}
use Rattle.segbase.specs.Words.{AddsEvents, Board, IsReaderEvent, number, OnlyReads, Pass, Reads}
use Rattle.segbase.specs.Words.{trace}
use Rattle.segbase.proofs.Moves.{moved_count}
use Rattle.segstore.specs.Calls.{DrawsNothing}

abbrev pub IsUndrawn : Event → Type 0
IsUndrawn (Drew p b d m) = ⊥
IsUndrawn e = Unit {0}

abbrev pub AreUndrawn : List Event → Type 0
AreUndrawn [] = Unit {0}
AreUndrawn (e ∷ own) = IsUndrawn e × AreUndrawn own

one_undrawn : (p bucket : ℕ) (e : Event) (h : List Event) → IsUndrawn e → count (drew bucket) p (e ∷ h) ≡ count (drew bucket) p h
one_undrawn p bucket (Drew q b d m) h none = absurd none
one_undrawn p bucket e h none = refl

pub undrawn : (p bucket : ℕ) (own h : List Event) → AreUndrawn own → count (drew bucket) p (own ++ h) ≡ count (drew bucket) p h
undrawn p bucket [] h none = refl
undrawn p bucket (e ∷ own) h none = one_undrawn p bucket e (own ++ h) none.0 ∙ undrawn p bucket own h none.1

-- ---- calls that draw none

pub moved_undrawn : (b : Board) (own : List Event) (p q : Pass) → AddsEvents b own p q → AreUndrawn own → DrawsNothing p q
moved_undrawn b own p q m none = λ bucket. moved_count b own p q (drew bucket) m ∙ undrawn (number p) bucket own (trace p) none

read_undrawn : (e : Event) → IsReaderEvent e → IsUndrawn e
read_undrawn (Drew p b d m) is = is
read_undrawn e is = tt

pub reads_undrawn : (own : List Event) → OnlyReads own → AreUndrawn own
reads_undrawn [] only = tt
reads_undrawn (e ∷ own) only = (read_undrawn e only.0, reads_undrawn own only.1)

-- a reader
pub reader_draws_none : (b : Board) (p q : Pass) → Reads b p q → DrawsNothing p q
reader_draws_none b p q r = moved_undrawn b r.own p q r.moved (reads_undrawn r.own r.only)

pub draws_none_then : (p q r : Pass) → DrawsNothing p q → DrawsNothing q r → DrawsNothing p r
draws_none_then p q r i j = λ bucket. j bucket ∙ i bucket
