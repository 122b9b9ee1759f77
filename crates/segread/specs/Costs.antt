-- What readers cost: looks along a chain, without any bit.
-- A hit may raise a frequency beside them.
use Rattle.std.specs.Prelude.{ℕ, ◌+◌, ◌*◌, List}
use Rattle.segword.specs.Words.{Shape, value_width}
use Rattle.segmodel.specs.Words.{GetAnswer, GetsAnswer}
use Rattle.segbase.specs.Words.{Pass}
use Rattle.segstore.specs.Words.{DrawsNothing, RaisesNothing, TakesAtMost, TakesNoBit}
use Rattle.segread.specs.Hits.{GetRaises, GetsRaises, GlancesFew, GlancesNothing, PaysForGlances}
use Rattle.segread.specs.Hits.{TriesFew}
use Rattle.segread.specs.Loads.{look_steps, try_steps}

-- The most steps of a get and of a hold, which wait for nobody: a look at each of a chain's 28 words,
-- and as many steps for each of 91 comings into a segment as one takes, which are seven where an
-- item has four words for its lengths and its key. These are the coming, a second look at
-- the word, the loads of the row's key, and the leaving.
-- A hit takes more, five for a value of four words: the loads of the value, and one exchange for
-- the frequency.
abbrev pub most_steps_of_get : ℕ
most_steps_of_get = 28 + try_steps * (63 + 28) + (1 + value_width)

-- The most steps of a gets, which may go on along the chain after each coming into a segment.
-- Then a coming takes more, seven for a value of four words: another look at the word where the
-- gets goes on, the loads of the value, a look at the bit, and a third look at the word.
abbrev pub most_steps_of_gets : ℕ
most_steps_of_gets = 28 + look_steps * (63 + 28)

-- what each reader costs: no bit, no overflow bucket, and few comings into segments
pub record CostsOfLooks (p q : Pass) : Type 0 where
  pub takes_no_bit : TakesNoBit p q
  pub draws_nothing : DrawsNothing p q
  pub tries : TriesFew p q

-- a get finds no bit set, and raises a frequency only by a hit
pub record CostsOfGet (shape : Shape) (key : List ℕ) (draw : ℕ) (told : GetAnswer) (p q : Pass)
    : Type 0 where
  pub looks : CostsOfLooks p q
  pub steps : TakesAtMost most_steps_of_get p q
  pub glances_nothing : GlancesNothing p q
  pub raises : GetRaises shape key draw told p q

-- A gets looks at a bit once in each of its scans, and only after it came into a segment.
-- It raises a frequency only by a hit.
pub record CostsOfGets (shape : Shape) (key : List ℕ) (draw : ℕ) (told : GetsAnswer) (p q : Pass)
    : Type 0 where
  pub looks : CostsOfLooks p q
  pub steps : TakesAtMost most_steps_of_gets p q
  pub glances : GlancesFew p q
  pub visits : PaysForGlances p q
  pub raises : GetsRaises shape key draw told p q

-- a hold finds no bit set, and raises no frequency
pub record CostsOfHold (p q : Pass) : Type 0 where
  pub looks : CostsOfLooks p q
  pub steps : TakesAtMost most_steps_of_get p q
  pub glances_nothing : GlancesNothing p q
  pub raises_nothing : RaisesNothing p q
