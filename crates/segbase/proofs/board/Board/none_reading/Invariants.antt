use Rattle.std.specs.Prelude.{◌/◌, ◌^◌}
use Rattle.segcore.specs.Words.{none_reading}
use Rattle.segbase.specs.Spots.{segment_in}
use Rattle.segbase.proofs.board.Board.none_reading.Given as goal

abbrev pub ghost-exchange_at : goal.ghost-exchange_at
ghost-exchange_at a = none_reading (segment_in a.spot) (a.old / 2 ^ 32) (a.new / 2 ^ 32)
