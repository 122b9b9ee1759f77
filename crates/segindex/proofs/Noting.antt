-- A pass that a note was made of, and one that learned a note.
use Rattle.std.proofs.Common.{◌≡◌, [], inr, refl, ap}
use Rattle.segmodel.specs.Words.{Begins}
use Rattle.segcore.specs.Event as event
use Rattle.segcore.specs.Mark as mark
use Rattle.segcore.proofs.Moments.{marked_begins, seen_begins}
use Rattle.segbase.specs.Words.{AddsEvents, Board, IsNoteOf, IsPassOf, Note, noted, Pass, sight, trace}
use Rattle.segbase.specs.declared.law.Sight.{Sight}
use Rattle.segbase.proofs.Carried.{are_one}
use Rattle.segbase.proofs.Moves.{moved_on}
use Rattle.segstore.specs.Words.{IsQuiet, memo}
use Rattle.segindex.specs.Noting.{LearnsNote, MakesNote}
use Rattle.segindex.proofs.Meeting.{mine_of, one_of, only_learns}

-- a pass with the same sight did nothing
looked_at : (b : Board) (p q : Pass) → IsPassOf b q → sight q ≡ sight p → AddsEvents b [] p q
looked_at b p q is same = record {
  pass = is;
  same = ap (λ (x : Sight). x.view.number) same;
  more = [];
  goes_on = ap (λ (x : Sight). x.view.trace) same;
  adds = refl;
  steps = inr (ap (λ (x : Sight). x.view.looks) same, ap (λ (x : Sight). x.view.trace) same);
  kept = λ s stays. tt;
}

pub makes_note : (b : Board) (note : Note) (p q : Pass) → IsQuiet b p → IsPassOf b q → sight q ≡ sight p → q.plain ≡ p.plain → IsNoteOf b note → noted note ≡ trace p → MakesNote b note p q
makes_note b note p q quiet is same plain of has = record {
  only = only_learns b p q quiet (looked_at b p q is same) plain (ap (λ (x : Sight). x.memo) same);
  of = of;
  marked = ap mark.marked has;
  seen = ap event.seen has;
}

pub learns_note : (b : Board) (note : Note) (p q : Pass) → IsQuiet b p → AddsEvents b [] p q → q.plain ≡ p.plain → memo q ≡ memo p → Begins (noted note) (trace q) → LearnsNote b note p q
learns_note b note p q quiet m plain same begins =
    let one = are_one (trace p) (noted note) (trace q) (moved_on b [] p q m) begins in
    record {
      only = only_learns b p q quiet m plain same;
      one = one_of mark.marked marked_begins (trace p) (noted note) one;
      one_history = one_of event.seen seen_begins (trace p) (noted note) one;
      marked = marked_begins (noted note) (trace q) begins;
      seen = seen_begins (noted note) (trace q) begins;
      own = mine_of b (noted note) p q m begins;
    }
