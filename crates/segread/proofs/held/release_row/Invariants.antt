use Rattle.std.proofs.Common.{None}
use Rattle.segread.proofs.held.release_row.Given as goal

abbrev pub ghost-set_hold : goal.ghost-set_hold
ghost-set_hold a = None
