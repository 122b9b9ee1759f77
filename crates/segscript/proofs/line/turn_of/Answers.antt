use Rattle.segscript.proofs.Commands.{none-refill, none-keep, none-set, none-add, none-replace, none-cas, none-delete, none-get, none-gets, none-hold}
use Rattle.segscript.proofs.line.turn_of.Goals as goal

pub returns-in_err-segment-in-Refill : goal.returns-in_err-segment-in-Refill
returns-in_err-segment-in-Refill c = rw (c.from_residual.ensures, c.in-Refill.is) (none-refill _ c.in_err-segment-in-Refill.ensures)

pub returns-in_err-segment-in-Keep : goal.returns-in_err-segment-in-Keep
returns-in_err-segment-in-Keep c = rw (c.from_residual-in_err-segment-in-Keep.ensures, c.in-Keep.is) (none-keep _ c.in_err-segment-in-Keep.ensures)

pub returns-in_err-key-in-Set : goal.returns-in_err-key-in-Set
returns-in_err-key-in-Set c = rw (c.from_residual-in_err-key-in-Set.ensures, c.in-Set.is) (none-set _ c.in_err-key-in-Set.ensures)

pub returns-in_err-key-in-Add : goal.returns-in_err-key-in-Add
returns-in_err-key-in-Add c = rw (c.from_residual-in_err-key-in-Add.ensures, c.in-Add.is) (none-add _ c.in_err-key-in-Add.ensures)

pub returns-in_err-key-in-Replace : goal.returns-in_err-key-in-Replace
returns-in_err-key-in-Replace c = rw (c.from_residual-in_err-key-in-Replace.ensures, c.in-Replace.is) (none-replace _ c.in_err-key-in-Replace.ensures)

pub returns-in_err-key-in-Cas : goal.returns-in_err-key-in-Cas
returns-in_err-key-in-Cas c = rw (c.from_residual-in_err-key-in-Cas.ensures, c.in-Cas.is) (none-cas _ c.in_err-key-in-Cas.ensures)

pub returns-in_err-key-in-Delete : goal.returns-in_err-key-in-Delete
returns-in_err-key-in-Delete c = rw (c.from_residual-in_err-key-in-Delete.ensures, c.in-Delete.is) (none-delete _ c.in_err-key-in-Delete.ensures)

pub returns-in_err-key-in-Get : goal.returns-in_err-key-in-Get
returns-in_err-key-in-Get c = rw (c.from_residual-in_err-key-in-Get.ensures, c.in-Get.is) (none-get _ c.in_err-key-in-Get.ensures)

pub returns-in_err-key-in-Gets : goal.returns-in_err-key-in-Gets
returns-in_err-key-in-Gets c = rw (c.from_residual-in_err-key-in-Gets.ensures, c.in-Gets.is) (none-gets _ c.in_err-key-in-Gets.ensures)

pub returns-in_err-key-in-Hold : goal.returns-in_err-key-in-Hold
returns-in_err-key-in-Hold c = rw (c.from_residual-in_err-key-in-Hold.ensures, c.in-Hold.is) (none-hold _ c.in_err-key-in-Hold.ensures)
