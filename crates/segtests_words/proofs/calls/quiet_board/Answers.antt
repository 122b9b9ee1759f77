use Rattle.segword.specs.Words.{longest}
use Rattle.segindex.proofs.Made.{all_quiet}
use Rattle.segtests_words.proofs.calls.quiet_board.Goals as goal

pub returns : goal.returns
returns c =
    let b = c.in_ok-board.board in let made = c.in_ok-board.ensures.made in
    (made.of, all_quiet c.args.shape longest b c.in_ok-board.passes.items made)
