use Rattle.segcore.proofs.Within.{reads_within, steps_within}
use Rattle.segcore.proofs.laws.stays_within.Goals as goal

pub returns : goal.returns
returns c = record { steps = steps_within; reads = reads_within }
