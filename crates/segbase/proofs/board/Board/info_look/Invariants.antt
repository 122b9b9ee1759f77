use Rattle.segcore.specs.Words.{info_look}
use Rattle.segbase.specs.Spots.{bucket_in}
use Rattle.segbase.proofs.board.Board.info_look.Given as goal

abbrev pub ghost-load_at : goal.ghost-load_at
ghost-load_at a = info_look (bucket_in a.spot)
