-- The words of this crate that others use, from one place.
pub use Rattle.segload.specs.Gates.{knows_nothing, lets_all_through}
pub use Rattle.segload.specs.Loads.{IsLoad, IsLoadFault}
use Rattle.segload.specs.declared.totals.PassTotals as declared_pass_totals
use Rattle.segload.specs.declared.plan.LoadPlan as declared_plan
use Rattle.segload.specs.declared.totals.Totals as declared_totals
use Rattle.segload.specs.declared.worker.Worker as declared_worker

-- The types of this crate that others name.
abbrev pub PassTotals : Type 0
PassTotals = declared_pass_totals.PassTotals

abbrev pub LoadPlan : Type 0
LoadPlan = declared_plan.LoadPlan

abbrev pub Totals : Type 0
Totals = declared_totals.Totals

abbrev pub Worker : Type 0
Worker = declared_worker.Worker
