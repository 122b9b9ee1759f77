use Rattle.segcore.proofs.Schedules.{lawful, sees_more}
use Rattle.segcore.proofs.InOrder.{is_told, sees_all, in_order}
use Rattle.segcore.proofs.Facts.{says}
use Rattle.segcore.proofs.laws.every_schedule.Goals as goal

pub returns : goal.returns
returns c = record { lawful = lawful; seen = sees_more; whole = sees_all; told = is_told; in_order = in_order; says = says }
