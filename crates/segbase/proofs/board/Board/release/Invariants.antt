use Rattle.std.specs.Prelude.{◌==◌}
use Rattle.segcore.specs.Words.{release}
use Rattle.segbase.specs.Spots.{bucket_in}
use Rattle.segbase.proofs.board.Board.release.Given as goal

abbrev pub ghost-add_at : goal.ghost-add_at
ghost-add_at g a = release (bucket_in a.spot) (a.amount == 4294967295) g.said
