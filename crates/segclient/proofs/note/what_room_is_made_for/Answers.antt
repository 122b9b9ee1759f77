use Rattle.segclient.proofs.Serving.{room_serves}
use Rattle.segclient.proofs.note.what_room_is_made_for.Goals as goal

pub returns : goal.returns
returns c = room_serves
