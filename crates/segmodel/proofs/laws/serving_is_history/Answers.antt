use Rattle.segmodel.proofs.Commands.{serving_is_history}
use Rattle.segmodel.proofs.laws.serving_is_history.Goals as goal

pub returns : goal.returns
returns c = serving_is_history
