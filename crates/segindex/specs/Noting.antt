-- What one pass tells another by a note.
use Rattle.std.specs.Prelude.{◌≡◌}
use Rattle.segmodel.specs.Words.{AreOne, Begins}
use Rattle.segmodel.specs.History as history
use Rattle.segbase.specs.Words.{Board, IsNoteOf, marked, marked_of, mine, Note, number, Pass}
use Rattle.segbase.specs.Words.{seen, seen_of}
use Rattle.segindex.specs.Meeting.{OnlyLearns}

-- The note has what the pass had seen, and the pass only learns.
pub record MakesNote (b : Board) (note : Note) (p q : Pass) : Type 0 where
  pub only : OnlyLearns b p q
  pub of : IsNoteOf b note
  pub marked : marked_of note ≡ marked p
  pub seen : seen_of note ≡ seen p

-- The pass has now seen what the note has, and only learns.
-- Of what it had seen and what the note has, one began the other.
-- What the note has of the pass's own entries is a beginning of these.
pub record LearnsNote (b : Board) (note : Note) (p q : Pass) : Type 0 where
  pub only : OnlyLearns b p q
  pub one : AreOne (marked p) (marked_of note)
  pub one_history : AreOne (seen p) (seen_of note)
  pub marked : Begins (marked_of note) (marked q)
  pub seen : Begins (seen_of note) (seen q)
  pub own : Begins (history.mine (number p) (seen_of note)) (mine p)

-- Both notes have what the first had.
pub record CopiesNote (b : Board) (copy old new : Note) : Type 0 where
  pub of : IsNoteOf b new
  pub of_copy : IsNoteOf b copy
  pub marked : (marked_of new ≡ marked_of old) × (marked_of copy ≡ marked_of old)
  pub seen : (seen_of new ≡ seen_of old) × (seen_of copy ≡ seen_of old)
