-- How the answer to a put is counted: as a write with this answer.
use Rattle.segmodel.specs.Words.{WriteAnswer}
use Rattle.segmodel.specs.declared.answer.WriteAnswer.TheVariants as write
use Rattle.segtally.specs.declared.tally.Tally.{Tally}
use Rattle.segtally.specs.Tallies.{write_tally}
use Rattle.segclient.specs.declared.put.PutAnswer.{PutAnswer}
use Rattle.segclient.specs.declared.put.PutAnswer.TheVariants as put

abbrev pub write_of : PutAnswer → WriteAnswer
write_of put.Stored = write.Stored
write_of put.NoRoom = write.NoRoom
write_of put.BucketFull = write.BucketFull
write_of put.Busy = write.Busy

abbrev pub put_tally : PutAnswer → Tally
put_tally told = write_tally (write_of told)
