use Rattle.segcore.specs.Words.{link}
use Rattle.segbase.specs.Passes.{trace}
use Rattle.segbase.specs.Spots.{cell_at, position}
use Rattle.segbase.proofs.board.Board.replace.Given as goal

abbrev pub ghost-put : goal.ghost-put
ghost-put g a = link g.request a.item.seg a.item.row (position a.self.now.shape (trace a.pass.now) a.place) (cell_at a.self.now.shape a.place) a.old
