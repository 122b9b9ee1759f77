use Rattle.std.specs.Prelude.{None}
use Rattle.segstore.proofs.bucket.unlock_bucket.Given as goal

abbrev pub ghost-release : goal.ghost-release
ghost-release a = None
