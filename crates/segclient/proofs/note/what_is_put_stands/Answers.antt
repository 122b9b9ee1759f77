use Rattle.segclient.proofs.Told.{put_stands}
use Rattle.segclient.proofs.note.what_is_put_stands.Goals as goal

pub returns : goal.returns
returns c = put_stands
