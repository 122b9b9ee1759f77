-- The words of this crate that others use, from one place.
pub use Rattle.segwrite.specs.Full.{CanGrow, GrowsFor, HasNoWord, WasFull}
pub use Rattle.segwrite.specs.Refusing.{request_of}
pub use Rattle.segwrite.specs.Spans.{rows_of}
pub use Rattle.segwrite.specs.Steps.{most_steps_of_delete, most_steps_of_row, most_steps_of_write}
pub use Rattle.segwrite.specs.Steps.{most_tries_for_bit, most_tries_to_exchange, WritesInSteps}
pub use Rattle.segwrite.specs.Storing.{IsNextRow}
pub use Rattle.segwrite.specs.Telling.{cas_reply, IsTold, WasTold}
pub use Rattle.segwrite.specs.Writes.{AddsReply, CostsOfWrite, Deletes, IsDeleteAnswer, IsSetAnswer}
pub use Rattle.segwrite.specs.Writes.{IsWriteAnswer, more, one_more, UsesRow, UsesRows, Writes}
pub use Rattle.segwrite.specs.Writing.{IsEarlier, IsInChain}
use Rattle.segwrite.specs.declared.condition.Condition as declared_condition
use Rattle.segwrite.specs.declared.find.Target as declared_target

-- The types of this crate that others name.
abbrev pub Condition : Type 0
Condition = declared_condition.Condition

abbrev pub Target : Type 0
Target = declared_target.Target
