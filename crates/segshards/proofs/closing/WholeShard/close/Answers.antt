use Rattle.segindex.specs.Words.{board_of}
use Rattle.segshards.proofs.Whole.{all_quiet}
use Rattle.segshards.proofs.closing.WholeShard.close.Goals as goal

pub close_all-requires : goal.close_all-requires
close_all-requires c = all_quiet (board_of c.args.self.index) c.args.self.passes.items c.args.self.all
