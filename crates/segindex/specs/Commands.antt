-- What a command is answered: what the call that it names answers.
use Rattle.std.specs.Prelude.{ℕ}
use Rattle.segmodel.specs.declared.request.Request.TheVariants.{Delete}
use Rattle.segmodel.specs.Words.{Answer}
use Rattle.segmodel.specs.declared.answer.Answer.TheVariants as answer
use Rattle.segmodel.specs.declared.answer.Command.{Command}
use Rattle.segmodel.specs.declared.answer.Command.TheVariants as command
use Rattle.segbase.specs.Words.{Board, Pass}
use Rattle.segread.specs.Words.{ReadsKey, ReadsVersion}
use Rattle.segwrite.specs.Words.{Deletes, Writes}
use Rattle.segevict.specs.Words.{EvictsSegment, KeepsItems}
use Rattle.segindex.specs.Refilling.{RefillsSegment}

-- The answer is that of the call that the command names. A get and a gets are made with this draw.
abbrev pub AnswersCommand : Board → Command → ℕ → Answer → Pass → Pass → Type 0
AnswersCommand b (command.Write (Delete key now)) draw (answer.Delete told) p q =
    Deletes b key now told p q
AnswersCommand b (command.Write (Delete key now)) draw _ p q = ⊥
AnswersCommand b (command.Write request) draw (answer.Write told) p q = Writes b request told p q
AnswersCommand b (command.Get key now) draw (answer.Get told) p q = ReadsKey b key draw now told p q
AnswersCommand b (command.Gets key now) draw (answer.Gets told) p q =
    ReadsVersion b key draw now told p q
AnswersCommand b (command.Keep segment cutoff) draw (answer.Keep told) p q =
    KeepsItems b segment cutoff told p q
AnswersCommand b (command.Evict segment) draw (answer.Evict told) p q =
    EvictsSegment b segment told p q
AnswersCommand b (command.Refill segment deadline) draw (answer.Refill told) p q =
    RefillsSegment b segment deadline told p q
AnswersCommand b _ draw _ p q = ⊥
