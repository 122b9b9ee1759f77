-- Which shard a write leaves in want of room.
use Rattle.std.specs.Prelude.{ℕ, Option, Some, None}
use Rattle.segmodel.specs.Words.{WriteAnswer}
use Rattle.segmodel.specs.declared.answer.WriteAnswer.TheVariants as write
use Rattle.segclient.specs.declared.put.PutAnswer.{PutAnswer}
use Rattle.segclient.specs.declared.put.PutAnswer.TheVariants as put

abbrev pub put_wants : PutAnswer → ℕ → Option ℕ
put_wants put.NoRoom shard = Some shard
put_wants _ shard = None

abbrev pub write_wants : WriteAnswer → ℕ → Option ℕ
write_wants write.NoRoom shard = Some shard
write_wants _ shard = None
