use Rattle.std.proofs.Common.{refl}
use Rattle.segsolo.proofs.AloneCommands.{serves_any_draw, serves_command}
use Rattle.segsolo.proofs.AloneHolds.{turns_hold, turns_held, turns_release, turns_not_held, turns_not_released}
use Rattle.segsolo.proofs.AloneLocks.{turns_lock, turns_unlock}
use Rattle.segsolo.proofs.AloneStarts.{starts_new}
use Rattle.segsolo.proofs.laws.one_pass_is_served.Goals as goal

pub returns : goal.returns
returns c = record {
  start = starts_new;
  command = serves_command;
  any_draw = serves_any_draw;
  lock = turns_lock;
  unlock = turns_unlock;
  hold = turns_hold;
  held = turns_held;
  release = turns_release;
  nothing = λ b p was not. (turns_not_held b p p was refl not, turns_not_released b p p was refl not);
}
