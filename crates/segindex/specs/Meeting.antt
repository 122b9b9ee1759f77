-- What two passes have seen once they met.
use Rattle.segmodel.specs.Words.{AreOne, Begins}
use Rattle.segmodel.specs.History as history
use Rattle.segbase.specs.Words.{Board, marked, mine, number, Pass, seen}
use Rattle.segstore.specs.Words.{ChangesNothing, CostsNothing, GoesOn}

-- Two passes met. Of the histories that they had seen, one began the other.
-- The first has now seen what the second had seen, and the second all that the first has.
-- What either had seen of the other's entries was a beginning of these.
pub record Meets (p q p' q' : Pass) : Type 0 where
  pub one : AreOne (marked p) (marked q)
  pub one_history : AreOne (seen p) (seen q)
  pub first : Begins (marked q) (marked p') × Begins (seen q) (seen p')
  pub second : Begins (marked p') (marked q') × Begins (seen p') (seen q')
  pub of_second : Begins (history.mine (number q) (seen p)) (mine q)
  pub of_first : Begins (history.mine (number p) (seen q)) (mine p)

-- What a call of two passes does to one of them: the pass adds no entry,
-- and keeps all that it kept.
-- The call costs nothing.
pub record OnlyLearns (b : Board) (p q : Pass) : Type 0 where
  pub on : GoesOn b p q
  pub keeps : ChangesNothing p q
  pub costs_nothing : CostsNothing p q

-- The two passes meet, and each of them only learns.
pub record MeetsPass (b : Board) (p q p' q' : Pass) : Type 0 where
  pub first : OnlyLearns b p p'
  pub second : OnlyLearns b q q'
  pub meets : Meets p q p' q'
