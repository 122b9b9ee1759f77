use Rattle.segcore.specs.Words.{glance}
use Rattle.segbase.specs.Spots.{bucket_in}
use Rattle.segbase.specs.Steps.{has_bit}
use Rattle.segbase.proofs.board.Board.glance.Given as goal

abbrev pub ghost-load_at : goal.ghost-load_at
ghost-load_at a = let bucket = bucket_in a.spot in glance bucket (has_bit a.self.now a.pass.now bucket)
