-- How an answer is counted, by clients and by loads.
use Rattle.segmodel.specs.Words.{DeleteAnswer, GetAnswer, GetsAnswer, WriteAnswer}
use Rattle.segmodel.specs.declared.answer.DeleteAnswer.TheVariants as delete
use Rattle.segmodel.specs.declared.answer.GetAnswer.TheVariants as get
use Rattle.segmodel.specs.declared.answer.GetsAnswer.TheVariants as gets
use Rattle.segmodel.specs.declared.answer.WriteAnswer.TheVariants as write
use Rattle.segread.specs.declared.into.GetsIntoAnswer.TheVariants as gets_into
use Rattle.segread.specs.declared.into.IntoAnswer.TheVariants as into
use Rattle.segread.specs.Words.{GetsIntoAnswer, IntoAnswer}
use Rattle.segtally.specs.declared.tally.Tally.{Tally}
use Rattle.segtally.specs.declared.tally.Tally.TheVariants as tally

abbrev pub get_tally : GetAnswer → Tally
get_tally (get.Found value) = tally.Hit
get_tally get.Miss = tally.Miss
get_tally get.Busy = tally.Busy

-- as of the get, also where the buffer was too short
abbrev pub into_tally : IntoAnswer → Tally
into_tally (into.Found length) = tally.Hit
into_tally (into.Short length) = tally.Hit
into_tally into.Miss = tally.Miss
into_tally into.Busy = tally.Busy

abbrev pub gets_tally : GetsAnswer → Tally
gets_tally (gets.Found value version) = tally.Hit
gets_tally gets.Miss = tally.Miss
gets_tally gets.Busy = tally.Busy

-- as of the gets, also where the buffer was too short
abbrev pub gets_into_tally : GetsIntoAnswer → Tally
gets_into_tally (gets_into.Found length version) = tally.Hit
gets_into_tally (gets_into.Short length version) = tally.Hit
gets_into_tally gets_into.Miss = tally.Miss
gets_into_tally gets_into.Busy = tally.Busy

abbrev pub write_tally : WriteAnswer → Tally
write_tally write.Stored = tally.Stored
write_tally write.NotStored = tally.NotStored
write_tally write.Exists = tally.Exists
write_tally write.NotFound = tally.NotFound
write_tally write.NoRoom = tally.NoRoom
write_tally write.BucketFull = tally.BucketFull
write_tally write.Busy = tally.Busy

abbrev pub delete_tally : DeleteAnswer → Tally
delete_tally delete.Deleted = tally.Deleted
delete_tally delete.NotFound = tally.NotFound
delete_tally delete.Busy = tally.Busy
