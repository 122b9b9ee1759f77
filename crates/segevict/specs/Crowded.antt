-- What a pass finds of its own along the chain of a full bucket.
use Rattle.std.specs.Prelude.{◌≡◌, Option, IfSome}
use Rattle.segmodel.specs.Words.{owner}
use Rattle.segstore.specs.declared.row.RowRef.{RowRef}
use Rattle.segbase.specs.Words.{Board, number, Pass}
use Rattle.segstore.specs.Words.{GoesOn, Idles, TakesAtMost}
use Rattle.segevict.specs.Steps.{most_looks}

-- The pass took at most 28 steps, and they changed nothing. Which words it looked at is left open.
-- What it found is a row of a segment of its own. Which one it is, is left open.
pub record FindsOwn (b : Board) (found : Option RowRef) (p q : Pass) : Type 0 where
  pub on : GoesOn b p q
  pub idles : Idles b p q
  pub steps : TakesAtMost most_looks p q
  pub own : IfSome found (λ row. owner b.shape row.segment ≡ number p)
