use Rattle.std.proofs.Common.{refl, inl, inr}
use Rattle.seghandles.specs.declared.status.Status.TheVariants as status
use Rattle.seghandles.proofs.opening.raw_open.Goals as goal

pub open-requires : goal.open-requires
open-requires c = record { some = c.in-Ok.ensures.plan.some; few = c.in-Ok.ensures.plan.few }

pub returns-in-Ok : goal.returns-in-Ok
returns-in-Ok c = (c.open.result, c.number.ensures, inl (c.in-Ok.plan, c.in-Ok.ensures.plan, c.open.ensures))

pub returns-in-Err : goal.returns-in-Err
returns-in-Err c = (status.BadShape, c.number-in-Err.ensures, inr (c.in-Err.field-0, c.in-Err.ensures.fault, refl, (refl, refl)))
