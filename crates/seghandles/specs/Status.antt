-- The number of each answer, as C has it.
use Rattle.std.specs.Prelude.{ℕ}
use Rattle.seghandles.specs.declared.status.Status.{Status}
use Rattle.seghandles.specs.declared.status.Status.TheVariants as status

abbrev pub number_of : Status → ℕ
number_of status.Ok = 0
number_of status.Miss = 1
number_of status.Busy = 2
number_of status.NoRoom = 3
number_of status.BucketFull = 4
number_of status.NotStored = 5
number_of status.Exists = 6
number_of status.NotFound = 7
number_of status.BadKey = 8
number_of status.BadValue = 9
number_of status.ShortBuffer = 10
number_of status.BadShape = 11
number_of status.OutOfMemory = 12
number_of status.NoHandle = 13
number_of status.AlreadyHolding = 14
number_of status.NotHolding = 15
number_of status.ClientOut = 16
number_of status.Foreign = 17
number_of status.End = 18
