use Rattle.std.proofs.Common.{◌++◌}
use Rattle.segreplay.proofs.Lists.{adds_on, all_play_on}
use Rattle.segreplay.proofs.run.run.Goals as goal

pub returns-clause-outcome : goal.returns-clause-outcome
returns-clause-outcome g c =
    let read = c.read_all-end.ensures.outcome in
    let left = c.read_all-end.new.reading.turns.items in (
      read.0,
      read.1 ++ left,
      c.make_turns.new.players,
      read.2,
      all_play_on read.1 left _ _ _ read.3 c.make_turns.ensures.plays,
      c.count_all.ensures,
      read.4,
      adds_on read.1 left _ _ _ read.5 c.make_turns.ensures.lives,
    )
