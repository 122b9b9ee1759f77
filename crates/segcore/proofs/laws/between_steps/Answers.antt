use Rattle.segcore.proofs.Meanwhile.{meanwhile, told_counts, told_grows}
use Rattle.segcore.proofs.laws.between_steps.Goals as goal

pub returns : goal.returns
returns c = record { others = meanwhile; counts = told_counts; grows = told_grows }
