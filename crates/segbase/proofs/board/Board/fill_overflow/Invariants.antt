use Rattle.segcore.specs.Words.{fill}
use Rattle.segbase.specs.Passes.{trace}
use Rattle.segbase.specs.Spots.{number_in, home_bucket_of}
use Rattle.segbase.proofs.board.Board.fill_overflow.Given as goal

abbrev pub ghost-store_at : goal.ghost-store_at
ghost-store_at a = let number = number_in a.spot in fill (home_bucket_of (trace a.pass.now) number) number a.word
