use Rattle.segindex.specs.Words.{board_of}
use Rattle.segshards.proofs.Whole.{has_all}
use Rattle.segshards.proofs.closing.WholeShard.new.Goals as goal

pub invariant_of-result : goal.invariant_of-result
invariant_of-result c = record { all = has_all (board_of c.args.index) c.args.passes.items c.requires.all }
