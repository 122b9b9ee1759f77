use Rattle.segclient.proofs.Added.{put_adds, room_adds}
use Rattle.segclient.proofs.note.what_a_put_adds.Goals as goal

pub returns-clause-put : goal.returns-clause-put
returns-clause-put c = λ i time key value told old new member puts. put_adds i time key value old new member told puts

pub returns-clause-room : goal.returns-clause-room
returns-clause-room c = room_adds
