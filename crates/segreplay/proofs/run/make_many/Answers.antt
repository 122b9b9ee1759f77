use Rattle.std.proofs.Common.{[], append-nil, refl}
use Rattle.segreplay.proofs.Lists.{all_still}
use Rattle.segreplay.proofs.run.make_many.Goals as goal

pub returns-then-len-ge-BATCH : goal.returns-then-len-ge-BATCH
returns-then-len-ge-BATCH g c = (c.args.reading.now.turns.items, c.make_turns.ensures.cleared, c.make_turns.ensures.plays, c.make_turns.ensures.lives)

pub returns-else-len-ge-BATCH : goal.returns-else-len-ge-BATCH
returns-else-len-ge-BATCH g c = ([], λ rules seen made here. rw append-nil here, all_still c.args.players.now, refl)
