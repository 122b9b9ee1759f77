use Rattle.segcore.specs.Words.{relink}
use Rattle.segbase.specs.Passes.{trace}
use Rattle.segbase.specs.Spots.{cell_at, position}
use Rattle.segbase.proofs.board.Board.move_item.Given as goal

abbrev pub ghost-put : goal.ghost-put
ghost-put g a = relink g.named.key g.named.segment g.named.row a.item.freq a.item.seg a.item.row (position a.self.now.shape (trace a.pass.now) a.place) (cell_at a.self.now.shape a.place)
