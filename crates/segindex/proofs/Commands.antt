-- What commands leave: a pass has in mind what it had before, and a segment has nothing after a keep of everything.
use Rattle.std.proofs.Common.{◌≡◌, ℕ, List, Option, Some, None, inl, inr, refl, sym, ap, subst, ◌∙◌, arith}
use Rattle.segword.specs.Words.{Shape}
use Rattle.segmodel.specs.Words.{after, Answer, DeleteAnswer, EvictAnswer, KeepAnswer, NoneStandsIn, RefillAnswer, Request}
use Rattle.segmodel.specs.Words.{SegState, WriteAnswer}
use Rattle.segmodel.specs.declared.answer.Answer.TheVariants as answer
use Rattle.segmodel.specs.declared.answer.Command.{Command}
use Rattle.segmodel.specs.declared.answer.Command.TheVariants as command
use Rattle.segmodel.specs.declared.answer.WriteAnswer.TheVariants as write
use Rattle.segmodel.specs.declared.answer.DeleteAnswer.TheVariants as delete
use Rattle.segmodel.specs.declared.answer.EvictAnswer.TheVariants as evict
use Rattle.segmodel.specs.declared.answer.KeepAnswer.TheVariants as keep
use Rattle.segmodel.specs.declared.answer.RefillAnswer.TheVariants as refill
use Rattle.segmodel.specs.declared.request.Request.TheVariants as request
use Rattle.segbase.specs.Words.{Board, holding, Memo, Pass, seen, state_of}
use Rattle.segstore.specs.Words.{IsQuiet, memo}
use Rattle.segwrite.specs.Words.{IsDeleteAnswer, IsWriteAnswer}
use Rattle.segevict.specs.Words.{IsEvictAnswer, IsKeepAnswer, KeepsItems}
use Rattle.segindex.specs.Commands.{AnswersCommand}
use Rattle.segindex.specs.Refilling.{IsRefillAnswer}

-- ---- what the pass has in mind

write_memo : (shape : Shape) (request : Request) (told : WriteAnswer) (p q : Pass) → IsWriteAnswer shape request told p q → memo q ≡ memo p
write_memo shape request write.Stored p q is = is.2.memo
write_memo shape request write.NotStored p q is = is.2
write_memo shape request write.Exists p q is = is.2
write_memo shape request write.NotFound p q is = is.2
write_memo shape request write.NoRoom p q is = ap memo is
write_memo shape request write.BucketFull p q is = is.0.memo
write_memo shape request write.Busy p q is = is.0.memo

delete_memo : (shape : Shape) (key : List ℕ) (now : ℕ) (told : DeleteAnswer) (p q : Pass) → IsDeleteAnswer shape key now told p q → memo q ≡ memo p
delete_memo shape key now delete.Deleted p q is = is.2
delete_memo shape key now delete.NotFound p q is = is.2
delete_memo shape key now delete.Busy p q is = is.0.memo

keep_memo : (b : Board) (segment cutoff : ℕ) (told : KeepAnswer) (p q : Pass) → IsKeepAnswer b segment cutoff told p q → memo q ≡ memo p
keep_memo b segment cutoff (keep.Kept count) p q is = elim is [
  | inl moves ↦ moves.0.1.2.uses.3.memo
  | inr idle ↦ ap memo idle.2
]
keep_memo b segment cutoff keep.NotYours p q is = ap memo is
keep_memo b segment cutoff (keep.NoRoom count) p q is = elim is [
  | inl idle ↦ ap memo idle.3
  | inr moves ↦ moves.0.1.2.uses.3.memo
]
keep_memo b segment cutoff (keep.Busy count) p q is = is.0.1.2.uses.3.memo

evict_memo : (shape : Shape) (segment : ℕ) (told : EvictAnswer) (p q : Pass) → IsEvictAnswer shape segment told p q → memo q ≡ memo p
evict_memo shape segment (evict.Evicted count) p q is = elim is [
  | inl takes ↦ takes.1.memo
  | inr idle ↦ ap memo idle.2
]
evict_memo shape segment evict.NotYours p q is = ap memo is
evict_memo shape segment (evict.Busy count) p q is = is.1.memo

refill_memo : (segment deadline : ℕ) (told : RefillAnswer) (p q : Pass) → IsRefillAnswer segment deadline told p q → memo q ≡ memo p
refill_memo segment deadline refill.Refilled p q is = is.memo
refill_memo segment deadline refill.NotYours p q is = ap memo is
refill_memo segment deadline refill.NotEvicted p q is = ap memo is
refill_memo segment deadline refill.Held p q is = is.0.memo

pub command_memo : (b : Board) (p q : Pass) (command : Command) (draw : ℕ) (told : Answer) → AnswersCommand b command draw told p q → memo q ≡ memo p
command_memo b p q (command.Write (request.Set key value now)) draw (answer.Write told) is = write_memo b.shape (request.Set key value now) told p q is.answer
command_memo b p q (command.Write (request.Add key value now)) draw (answer.Write told) is = write_memo b.shape (request.Add key value now) told p q is.answer
command_memo b p q (command.Write (request.Replace key value now)) draw (answer.Write told) is = write_memo b.shape (request.Replace key value now) told p q is.answer
command_memo b p q (command.Write (request.Cas key value version now)) draw (answer.Write told) is = write_memo b.shape (request.Cas key value version now) told p q is.answer
command_memo b p q (command.Write (request.Delete key now)) draw (answer.Delete told) is = delete_memo b.shape key now told p q is.answer
command_memo b p q (command.Get key now) draw (answer.Get told) is = is.keeps.memo
command_memo b p q (command.Gets key now) draw (answer.Gets told) is = is.keeps.memo
command_memo b p q (command.Keep segment cutoff) draw (answer.Keep told) is = keep_memo b segment cutoff told p q is.answer
command_memo b p q (command.Evict segment) draw (answer.Evict told) is = evict_memo b.shape segment told p q is.answer
command_memo b p q (command.Refill segment deadline) draw (answer.Refill told) is = refill_memo segment deadline told p q is.answer
command_memo b p q command draw told is = absurd is

pub command_holds : (b : Board) (p q : Pass) (command : Command) (draw : ℕ) (told : Answer) → AnswersCommand b command draw told p q → holding q ≡ holding p
command_holds b p q command draw told is = ap (λ (m : Memo). m.holding) (command_memo b p q command draw told is)

-- ---- a keep of everything

-- no frequency is below 0, and no key stands in a segment that isn't in use
pub none_kept : (b : Board) (segment count : ℕ) (p q : Pass) → IsQuiet b p → KeepsItems b segment 0 (keep.Kept count) p q → NoneStandsIn (after b.shape (seen q)) segment
none_kept b segment count p q quiet is = by (state_of p segment) refl is.answer
  where
    by : (state : Option SegState) → state_of p segment ≡ state → IsKeepAnswer b segment 0 (keep.Kept count) p q → NoneStandsIn (after b.shape (seen q)) segment
    by state at (inl kept) = λ key stands. let low = (kept.1 key stands).1.2.is in absurd (omega arith)
    by None at (inr none) = let no : keep.Kept count ≡ keep.NotYours = is.not_yours.1 at in cc
    by (Some state) at (inr none) = subst (λ r. NoneStandsIn (after b.shape (seen r)) segment) (sym none.2) (quiet.segments.unused segment state at (λ in_use. none.0 (at ∙ ap Some in_use)))
