use Rattle.std.proofs.Common.{ℕ, refl, inl, inr, subst, arith}
use Rattle.segword.specs.declared.shape.ShapeFault.TheVariants.{BadPasses}
use Rattle.segshards.specs.Budget.{IsFaultOfBudget, IsPlanWithin}
use Rattle.seghandles.specs.declared.status.Status.TheVariants as status
use Rattle.seghandles.proofs.opening.raw_open_bytes.Goals as goal

pub open-requires : goal.open-requires
open-requires c = record { some = c.in-Ok-for_bytes.ensures.plan.some; few = c.in-Ok-for_bytes.ensures.plan.few }

pub returns-in-Ok-for_bytes : goal.returns-in-Ok-for_bytes
returns-in-Ok-for_bytes c =
    let plan = c.in-Ok-for_bytes.plan in
    let is_plan = subst (λ (n : ℕ). IsPlanWithin c.args.bytes n plan) c.in-Ok.ensures.1 c.in-Ok-for_bytes.ensures.plan in
    (c.open.result, c.number-in-Ok-for_bytes.ensures, inl (plan, is_plan, c.open.ensures))

pub returns-in-Err : goal.returns-in-Err
returns-in-Err c =
    let fault = c.in-Err.field-0 in
    let is_fault = subst (λ (n : ℕ). IsFaultOfBudget c.args.bytes n fault) c.in-Ok.ensures.1 c.in-Err.ensures.fault in
    (status.BadShape, c.number-in-Err.ensures, inr (fault, is_fault, refl, (refl, refl)))

pub returns-in_default : goal.returns-in_default
returns-in_default c = (status.BadShape, c.number.ensures, inr (BadPasses, (λ are. let few = are.1 in absurd (omega (arith, c.in_default.ensures, few))), refl, (refl, refl)))
