use Rattle.segcore.specs.Words.{take}
use Rattle.segbase.specs.Spots.{bucket_in}
use Rattle.segbase.specs.Steps.{has_bit}
use Rattle.segbase.proofs.board.Board.take.Given as goal

abbrev pub ghost-or_at : goal.ghost-or_at
ghost-or_at a = let bucket = bucket_in a.spot in take bucket (has_bit a.self.now a.pass.now bucket)
