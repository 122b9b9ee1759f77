use Rattle.std.specs.Prelude.{None}
use Rattle.segevict.proofs.retention.keep_used_row.Given as goal

abbrev pub ghost-release : goal.ghost-release
ghost-release a = None
