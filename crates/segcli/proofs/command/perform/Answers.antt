use Rattle.std.proofs.Common.{refl}
use Rattle.segcli.proofs.command.perform.Goals as goal

pub returns-in-Load : goal.returns-in-Load
returns-in-Load g c = rw c.in-Load.is (refl, c.perform_load.ensures.failed, c.perform_load.ensures.outcome)

pub returns-in-Replay : goal.returns-in-Replay
returns-in-Replay g c = rw c.in-Replay.is (c.perform_replay.ensures.failed, c.perform_replay.ensures.outcome)
