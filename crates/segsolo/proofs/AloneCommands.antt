-- A command of the only pass is served as the model says, by the record of the call that it is.
use Rattle.std.proofs.Common.{ℕ, ap, refl}
use Rattle.segmodel.specs.Words.{Answer}
use Rattle.segmodel.specs.declared.answer.Answer.TheVariants as answer
use Rattle.segmodel.specs.declared.answer.Command.{Command}
use Rattle.segmodel.specs.declared.answer.Command.TheVariants as command
use Rattle.segmodel.specs.declared.request.Request.TheVariants as request
use Rattle.segbase.specs.Words.{Board, Pass}
use Rattle.segindex.specs.Words.{AnswersCommand}
use Rattle.segstore.proofs.Costs.{draws_nothing, reads_nothing}
use Rattle.segindex.proofs.Since.{get_since, gets_since}
use Rattle.segsolo.specs.Alone.{IsAlone, ServesAlone, ServesButFrequencies}
use Rattle.segsolo.proofs.AloneDeletes.{serves_delete}
use Rattle.segsolo.proofs.AloneDraws.{exactly, get_served, gets_served}
use Rattle.segsolo.proofs.AloneEvicts.{serves_evict}
use Rattle.segsolo.proofs.AloneKeeps.{serves_keep}
use Rattle.segsolo.proofs.AloneReads.{serves_get, serves_gets}
use Rattle.segsolo.proofs.AloneRefills.{serves_refill}
use Rattle.segsolo.proofs.AloneWrites.{serves_write}

pub serves_command : (b : Board) (p q : Pass) (command : Command) (told : Answer) → IsAlone b p → AnswersCommand b command 0 told p q → ServesAlone b command told p q
serves_command b p q (command.Write (request.Set key value now)) (answer.Write told) was is = serves_write b p q (request.Set key value now) told refl was is
serves_command b p q (command.Write (request.Add key value now)) (answer.Write told) was is = serves_write b p q (request.Add key value now) told refl was is
serves_command b p q (command.Write (request.Replace key value now)) (answer.Write told) was is = serves_write b p q (request.Replace key value now) told refl was is
serves_command b p q (command.Write (request.Cas key value version now)) (answer.Write told) was is = serves_write b p q (request.Cas key value version now) told refl was is
serves_command b p q (command.Write (request.Delete key now)) (answer.Delete told) was is = serves_delete b p q key now told was is
serves_command b p q (command.Get key now) (answer.Get told) was is =
    serves_get b p q key now told was is.on is.costs.looks.draws_nothing is.keeps is.costs.raises
    (get_since b.shape key now told p q is.answer)
serves_command b p q (command.Gets key now) (answer.Gets told) was is =
    serves_gets b p q key now told was is.on is.costs.looks.draws_nothing is.keeps is.costs.raises
    (gets_since b.shape key now told p q is.answer) is.unlocked
serves_command b p q (command.Keep segment cutoff) (answer.Keep told) was is = serves_keep b p q segment cutoff told was is
serves_command b p q (command.Evict segment) (answer.Evict told) was is = serves_evict b p q segment told was is.on is.costs.draws_nothing (ap (λ r. r.0) is.costs.reads_nothing) is.answer is.not_yours
serves_command b p q (command.Refill segment deadline) (answer.Refill told) was is =
    serves_refill b p q segment deadline told was is.on (draws_nothing p q is.costs_nothing) (ap (λ r. r.0) (reads_nothing p q is.costs_nothing)) is.answer is.not_yours is.in_use is.held
serves_command b p q command told was is = absurd is

-- with any draw it is served so but for the frequencies of items
pub serves_any_draw : (b : Board) (p q : Pass) (command : Command) (draw : ℕ) (told : Answer) → IsAlone b p → AnswersCommand b command draw told p q → ServesButFrequencies b command told p q
serves_any_draw b p q (command.Get key now) draw (answer.Get told) was is = get_served b p q key draw now told was is
serves_any_draw b p q (command.Gets key now) draw (answer.Gets told) was is = gets_served b p q key draw now told was is
serves_any_draw b p q (command.Write (request.Delete key now)) draw (answer.Delete told) was is =
    exactly b (command.Write (request.Delete key now)) (answer.Delete told) p q
    (serves_command b p q (command.Write (request.Delete key now)) (answer.Delete told) was is)
serves_any_draw b p q (command.Write (request.Set key value now)) draw (answer.Write told) was is =
    exactly b (command.Write (request.Set key value now)) (answer.Write told) p q
    (serves_command b p q (command.Write (request.Set key value now)) (answer.Write told) was is)
serves_any_draw b p q (command.Write (request.Add key value now)) draw (answer.Write told) was is =
    exactly b (command.Write (request.Add key value now)) (answer.Write told) p q
    (serves_command b p q (command.Write (request.Add key value now)) (answer.Write told) was is)
serves_any_draw b p q (command.Write (request.Replace key value now)) draw (answer.Write told) was is =
    exactly b (command.Write (request.Replace key value now)) (answer.Write told) p q
    (serves_command b p q (command.Write (request.Replace key value now)) (answer.Write told) was is)
serves_any_draw b p q (command.Write (request.Cas key value version now)) draw (answer.Write told) was is =
    exactly b (command.Write (request.Cas key value version now)) (answer.Write told) p q
    (serves_command b p q (command.Write (request.Cas key value version now)) (answer.Write told) was is)
serves_any_draw b p q (command.Keep segment cutoff) draw (answer.Keep told) was is =
    exactly b (command.Keep segment cutoff) (answer.Keep told) p q
    (serves_command b p q (command.Keep segment cutoff) (answer.Keep told) was is)
serves_any_draw b p q (command.Evict segment) draw (answer.Evict told) was is =
    exactly b (command.Evict segment) (answer.Evict told) p q
    (serves_command b p q (command.Evict segment) (answer.Evict told) was is)
serves_any_draw b p q (command.Refill segment deadline) draw (answer.Refill told) was is =
    exactly b (command.Refill segment deadline) (answer.Refill told) p q
    (serves_command b p q (command.Refill segment deadline) (answer.Refill told) was is)
serves_any_draw b p q command draw told was is = absurd is
