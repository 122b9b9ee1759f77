use Rattle.std.specs.Prelude.{None}
use Rattle.segtests_words.proofs.board.bit_of_bucket_1.Given as goal

abbrev pub ghost-release : goal.ghost-release
ghost-release g a = None
