use Rattle.segscript.proofs.WordReasons.{read_some, read_none}
use Rattle.segscript.proofs.reason.number_of.Goals as goal

pub returns-in-Some : goal.returns-in-Some
returns-in-Some c = read_some c.args.digits.now c.in-Some.number c.in-Some.ensures

pub returns-in-None : goal.returns-in-None
returns-in-None c =
    read_none c.args.digits.now _ _ c.are_no_digits.ensures c.if-are_no_digits.false c.has_leading_zero.ensures c.if-has_leading_zero.false c.in-None.ensures
