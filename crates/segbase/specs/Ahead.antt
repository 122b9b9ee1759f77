-- What a look ahead does for one key.
use Rattle.std.specs.Prelude.{[]}
use Rattle.segbase.specs.declared.board.Board.{Board}
use Rattle.segbase.specs.declared.pass.Pass.{Pass}
use Rattle.segbase.specs.declared.place.Place.{Place}
use Rattle.segbase.specs.Passes.{AddsAtOnce}
use Rattle.segbase.specs.Steps.{looking, TakesStep}

-- the pass looked at one item word, by one step, and did nothing
pub record LooksOnce (b : Board) (p q : Pass) : Type 0 where
  pub place : Place
  pub step : TakesStep b (looking b place) p q
  pub did : AddsAtOnce b [] p q
