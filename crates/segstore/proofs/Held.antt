-- A row that holds the pair of a key.
use Rattle.std.proofs.Common.{ℕ, List}
use Rattle.segword.specs.Words.{IsKey, IsValue}
use Rattle.segcore.specs.Words.{Holds, Row}

-- the row holds the pair of this key and some value
pub record IsPairOf (row : Row) (key : List ℕ) : Type 0 where
  pub value : List ℕ
  pub valid : IsKey key × IsValue value
  pub holds : Holds row key value
