-- A pass that reads, one call after another.
use Rattle.std.proofs.Common.{ℕ, refl, ◌∙◌}
use Rattle.segbase.specs.Words.{Board, IsPassOf, Pass}
use Rattle.segbase.proofs.Moves as moves
use Rattle.segstore.specs.Reading.{OnlyLooks, IsReader, IsReaderIn, Enters, LeavesSegment}

pub stays : (b : Board) (p : Pass) → IsPassOf b p → IsReader b p p
stays b p is = record { reads = moves.reads_nothing b p p (moves.stays b p is); plain = refl; memo = refl }

pub looks : (b : Board) (p q : Pass) → OnlyLooks b p q → IsReader b p q
looks b p q l = record { reads = moves.reads_nothing b p q l.did.moved; plain = l.plain; memo = l.memo }

pub enters : (b : Board) (p q : Pass) (segment : ℕ) → Enters b p q segment → IsReaderIn b p q segment
enters b p q segment i = record { reads = moves.reads_enter b p q segment i.did.moved; plain = i.plain; memo = i.memo }

pub reader_then : (b : Board) (p q r : Pass) → IsReader b p q → IsReader b q r → IsReader b p r
reader_then b p q r i j = record { reads = moves.reads_then b p q r i.reads j.reads; plain = j.plain ∙ i.plain; memo = j.memo ∙ i.memo }

pub enter_then : (b : Board) (p q r : Pass) (segment : ℕ) → IsReader b p q → IsReaderIn b q r segment → IsReaderIn b p r segment
enter_then b p q r segment i j = record { reads = moves.enter_then b p q r segment i.reads j.reads; plain = j.plain ∙ i.plain; memo = j.memo ∙ i.memo }

pub then_reader : (b : Board) (p q r : Pass) (segment : ℕ) → IsReaderIn b p q segment → IsReader b q r → IsReaderIn b p r segment
then_reader b p q r segment i j = record { reads = moves.then_reads b p q r segment i.reads j.reads; plain = j.plain ∙ i.plain; memo = j.memo ∙ i.memo }

pub leave_then : (b : Board) (p q r : Pass) (segment : ℕ) → IsReaderIn b p q segment → LeavesSegment b q r segment → IsReader b p r
leave_then b p q r segment i j = record { reads = moves.leave_then b p q r segment i.reads j.moved; plain = j.plain ∙ i.plain; memo = j.memo ∙ i.memo }
