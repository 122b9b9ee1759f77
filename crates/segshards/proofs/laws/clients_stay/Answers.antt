use Rattle.segshards.proofs.Same.{each_stays, one_stays}
use Rattle.segshards.proofs.laws.clients_stay.Goals as goal

pub returns : goal.returns
returns c = record { one = one_stays; each = each_stays }
