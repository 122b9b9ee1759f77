use Rattle.std.proofs.Common.{ℕ, refl, inl, inr, subst, arith}
use Rattle.segword.specs.declared.shape.ShapeFault.TheVariants.{BadPasses}
use Rattle.segshards.specs.Writers.{IsFaultOfWriters, IsPlanForWriters}
use Rattle.seghandles.specs.declared.status.Status.TheVariants as status
use Rattle.seghandles.proofs.opening.raw_open_for_writers.Goals as goal

pub open-requires : goal.open-requires
open-requires c = record { some = c.in-Ok-for_writers.ensures.plan.some; few = c.in-Ok-for_writers.ensures.plan.few }

pub returns-in-Ok-for_writers : goal.returns-in-Ok-for_writers
returns-in-Ok-for_writers c =
    let plan = c.in-Ok-for_writers.plan in
    let is_plan = subst (λ (n : ℕ). IsPlanForWriters c.args.keys n c.args.writers plan) c.in-Ok.ensures.1 c.in-Ok-for_writers.ensures.plan in
    (c.open.result, c.number-in-Ok-for_writers.ensures, inl (plan, is_plan, c.open.ensures))

pub returns-in-Err : goal.returns-in-Err
returns-in-Err c =
    let fault = c.in-Err.field-0 in
    let is_fault = subst (λ (n : ℕ). IsFaultOfWriters c.args.keys n c.args.writers fault) c.in-Ok.ensures.1 c.in-Err.ensures.fault in
    (status.BadShape, c.number-in-Err.ensures, inr (fault, is_fault, refl, (refl, refl)))

pub returns-in_default : goal.returns-in_default
returns-in_default c = (status.BadShape, c.number.ensures, inr (BadPasses, (λ are. let few = are.0.1 in absurd (omega (arith, c.in_default.ensures, few))), refl, (refl, refl)))
