use Rattle.segcore.specs.Words.{bump}
use Rattle.segbase.specs.Passes.{trace}
use Rattle.segbase.specs.Spots.{cell_at, position, home_bucket}
use Rattle.segbase.specs.Steps.{freq_part}
use Rattle.segbase.proofs.board.Board.bump.Given as goal

abbrev pub ghost-put : goal.ghost-put
ghost-put a = bump (home_bucket a.self.now.shape (trace a.pass.now) a.place)
    (position a.self.now.shape (trace a.pass.now) a.place) (cell_at a.self.now.shape a.place) a.item.tag a.item.seg
    a.item.row (freq_part a.old) a.item.freq
