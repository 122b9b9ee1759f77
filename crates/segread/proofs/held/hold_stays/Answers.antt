use Rattle.segread.proofs.HoldCalls.{stays, has_row}
use Rattle.segread.proofs.held.hold_stays.Goals as goal

pub returns : goal.returns
returns c = record { stays = λ shape hold p q is same. stays shape hold.row p q is same; row = λ board hold p is quiet. has_row board p hold.row quiet is }
