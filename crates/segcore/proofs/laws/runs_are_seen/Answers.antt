use Rattle.segcore.proofs.SeenRuns.{runs_are_seen, seen_step, seen_world}
use Rattle.segcore.proofs.laws.runs_are_seen.Goals as goal

pub returns : goal.returns
returns c = record { world = seen_world; step = seen_step; run = runs_are_seen }
