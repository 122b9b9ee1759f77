use Rattle.segcore.specs.Words.{draw}
use Rattle.segbase.specs.Spots.{bucket_in}
use Rattle.segbase.specs.Steps.{depth_to_draw}
use Rattle.segbase.proofs.board.Board.draw_overflow.Given as goal

abbrev pub ghost-exchange_at : goal.ghost-exchange_at
ghost-exchange_at a = let bucket = bucket_in a.spot in draw bucket (depth_to_draw a.self.now bucket a.pass.now) a.old
