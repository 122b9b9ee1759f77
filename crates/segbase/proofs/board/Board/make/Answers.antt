use Rattle.std.proofs.Common.{List, [], ℕ, subst, sym}
use Rattle.atomic_table.specs.Table.{opening}
use Rattle.segbase.specs.Constants.{constants}
use Rattle.segbase.specs.Ruled.{Rule, first_sight}
use Rattle.segbase.proofs.Dealt.{rule_opens}
use Rattle.segbase.proofs.board.Board.make.Goals as goal

pub of_words-requires : goal.of_words-requires
of_words-requires c = subst (λ (words : List ℕ). Rule (constants c.args.shape c.args.limits) (opening words [] first_sight))
    (sym c.as_slice.ensures.value) (rule_opens (Unit {0}) (constants c.args.shape c.args.limits) c.in_ok-words.words.items c.requires
    c.in_ok-words.ensures)
