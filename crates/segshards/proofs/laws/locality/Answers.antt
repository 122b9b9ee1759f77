use Rattle.segshards.proofs.OneOrder.{in_one_order}
use Rattle.segshards.proofs.laws.locality.Goals as goal

pub returns : goal.returns
returns c = in_one_order
