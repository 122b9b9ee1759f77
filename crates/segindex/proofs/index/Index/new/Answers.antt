use Rattle.segword.specs.Words.{longest}
use Rattle.segindex.proofs.Made.{all_quiet}
use Rattle.segindex.proofs.index.Index.new.Goals as goal

pub returns-clause-made : goal.returns-clause-made
returns-clause-made c = let made = c.in_ok-board.ensures.made in record {
  made = made;
  quiet = all_quiet c.args.shape longest c.in_ok-board.board _ made;
}
