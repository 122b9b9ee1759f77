use Rattle.std.proofs.Common.{[], arith}
use Rattle.seghandles.proofs.InTurn.{none_looked_for}
use Rattle.seghandles.proofs.many.look_ahead_at.Goals as goal

pub returns-else-places-ge-LEAST_AHEAD : goal.returns-else-places-ge-LEAST_AHEAD
returns-else-places-ge-LEAST_AHEAD c = ([], omega arith, none_looked_for c.args.client.now)
