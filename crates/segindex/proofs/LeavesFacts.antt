-- Worked examples: what each command that makes room leaves of its segment.
use Rattle.std.proofs.Common.{◌≡◌, ℕ, Some}
use Rattle.segword.specs.Words.{Shape}
use Rattle.segmodel.specs.declared.answer.Answer.TheVariants as answer
use Rattle.segmodel.specs.declared.answer.Command.TheVariants as command
use Rattle.segmodel.specs.declared.answer.EvictAnswer.TheVariants as evict
use Rattle.segmodel.specs.declared.answer.KeepAnswer.TheVariants as keep
use Rattle.segmodel.specs.declared.answer.RefillAnswer.TheVariants as refill
use Rattle.segmodel.specs.Words.{after, NoneStandsIn}
use Rattle.segbase.specs.Words.{current_of, Pass, seen}
use Rattle.segevict.specs.Words.{AreSeldom}
use Rattle.segindex.specs.Answered.{LeavesSegment}

-- what a keep that is Kept leaves was read too seldom
seldom_stays : (shape : Shape) (segment cutoff count : ℕ) (p q : Pass)
    → LeavesSegment shape (command.Keep segment cutoff) (answer.Keep (keep.Kept count)) p q
    → AreSeldom shape segment cutoff p q
seldom_stays shape segment cutoff count p q is = is

-- an evict that is Evicted leaves no key in its segment
none_stays : (shape : Shape) (segment count : ℕ) (p q : Pass)
    → LeavesSegment shape (command.Evict segment) (answer.Evict (evict.Evicted count)) p q
    → NoneStandsIn (after shape (seen q)) segment
none_stays shape segment count p q is = is

-- a segment that was refilled is current
refilled_is_current : (shape : Shape) (segment deadline : ℕ) (p q : Pass)
    → LeavesSegment shape (command.Refill segment deadline) (answer.Refill refill.Refilled) p q
    → current_of q ≡ Some segment
refilled_is_current shape segment deadline p q is = is
