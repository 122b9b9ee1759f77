-- What a command is answered: of each kind of command, what its call's contract says.
use Rattle.std.proofs.Common.{◌≡◌, ◌≢◌, ℕ, List, [], ◌∷◌, ◌++◌, length, Option, Some, None, inl, inr, refl, sym, ap, ◌∙◌, subst}
use Rattle.std.specs.List.{AllByRecursion}
use Rattle.segword.specs.Words.{Shape}
use Rattle.segmodel.specs.declared.answer.Answer.TheVariants as answer
use Rattle.segmodel.specs.declared.answer.Command.{Command}
use Rattle.segmodel.specs.declared.answer.Command.TheVariants as command
use Rattle.segmodel.specs.declared.answer.DeleteAnswer.TheVariants as delete
use Rattle.segmodel.specs.declared.answer.EvictAnswer.TheVariants as evict
use Rattle.segmodel.specs.declared.answer.GetAnswer.TheVariants as get
use Rattle.segmodel.specs.declared.answer.GetsAnswer.TheVariants as gets
use Rattle.segmodel.specs.declared.answer.KeepAnswer.TheVariants as keep
use Rattle.segmodel.specs.declared.answer.RefillAnswer.TheVariants as refill
use Rattle.segmodel.specs.declared.answer.SegState.TheVariants.{InUse}
use Rattle.segmodel.specs.declared.answer.WriteAnswer.TheVariants as write
use Rattle.segmodel.specs.declared.entry.Entry.TheVariants.{Refilled, Wrote}
use Rattle.segmodel.specs.declared.request.Reply.TheVariants as reply
use Rattle.segmodel.specs.declared.request.Request.TheVariants as request
use Rattle.segmodel.specs.Words.{after, Answer, DeleteAnswer, Entry, EvictAnswer, GetAnswer, GetsAnswer, KeepAnswer, NoneStandsIn}
use Rattle.segmodel.specs.Words.{RefillAnswer, Reply, Request, SegState, WriteAnswer}
use Rattle.segbase.specs.declared.pass.PlainPart.{PlainPart}
use Rattle.segbase.specs.Words.{Board, mine, number, Pass, seen, state_of}
use Rattle.segstore.specs.Words.{AddsEntry, GoesOn, IsQuiet}
use Rattle.segread.specs.Words.{ReadsKey, ReadsVersion}
use Rattle.segwrite.specs.Words.{Deletes, IsDeleteAnswer, IsWriteAnswer, Writes}
use Rattle.segevict.specs.Words.{AreEvictions, AreMoves, EvictsSegment, IsEvictAnswer, IsKeepAnswer, KeepsItems, MovesAway, TakesOut, WasOften}
use Rattle.segindex.specs.Answered.{CommandAddsEntries, CommandGoesOn, CommandHasEffect, CommandHasItsAnswer, CommandIsRefused, CommandLeavesSegment}
use Rattle.segindex.specs.Answered.{entries_told, IsOfCommand, IsReason, LeavesSegment, OfCommand}
use Rattle.segindex.specs.Refilling.{IsRefillAnswer, RefillsSegment}
use Rattle.segindex.proofs.Commands.{command_memo}
use Rattle.segindex.proofs.Effects.{of_delete, of_get, of_gets, of_write}

-- ---- by the call

-- what is so of the answer of each call
pub record OfCalls (Is : Board → Command → Answer → Pass → Pass → Type 0) : Type 0 where
  pub writes : (b : Board) (asked : Request) (told : WriteAnswer) (p q : Pass) → Writes b asked told p q → Is b (command.Write asked) (answer.Write told) p q
  pub deletes : (b : Board) (key : List ℕ) (now : ℕ) (told : DeleteAnswer) (p q : Pass) → Deletes b key now told p q → Is b (command.Write (request.Delete key now)) (answer.Delete told) p q
  pub gets_value : (b : Board) (key : List ℕ) (draw now : ℕ) (told : GetAnswer) (p q : Pass) → ReadsKey b key draw now told p q → Is b (command.Get key now) (answer.Get told) p q
  pub gets_version : (b : Board) (key : List ℕ) (draw now : ℕ) (told : GetsAnswer) (p q : Pass) → ReadsVersion b key draw now told p q → Is b (command.Gets key now) (answer.Gets told) p q
  pub keeps : (b : Board) (segment cutoff : ℕ) (told : KeepAnswer) (p q : Pass) → KeepsItems b segment cutoff told p q → Is b (command.Keep segment cutoff) (answer.Keep told) p q
  pub evicts : (b : Board) (segment : ℕ) (told : EvictAnswer) (p q : Pass) → EvictsSegment b segment told p q → Is b (command.Evict segment) (answer.Evict told) p q
  pub refills : (b : Board) (segment deadline : ℕ) (told : RefillAnswer) (p q : Pass) → RefillsSegment b segment deadline told p q → Is b (command.Refill segment deadline) (answer.Refill told) p q

of_calls : (Is : Board → Command → Answer → Pass → Pass → Type 0) → OfCalls Is → OfCommand Is
of_calls Is by b (command.Write (request.Set key value now)) draw (answer.Write told) p q is = by.writes b (request.Set key value now) told p q is
of_calls Is by b (command.Write (request.Add key value now)) draw (answer.Write told) p q is = by.writes b (request.Add key value now) told p q is
of_calls Is by b (command.Write (request.Replace key value now)) draw (answer.Write told) p q is = by.writes b (request.Replace key value now) told p q is
of_calls Is by b (command.Write (request.Cas key value version now)) draw (answer.Write told) p q is = by.writes b (request.Cas key value version now) told p q is
of_calls Is by b (command.Write (request.Delete key now)) draw (answer.Delete told) p q is = by.deletes b key now told p q is
of_calls Is by b (command.Get key now) draw (answer.Get told) p q is = by.gets_value b key draw now told p q is
of_calls Is by b (command.Gets key now) draw (answer.Gets told) p q is = by.gets_version b key draw now told p q is
of_calls Is by b (command.Keep segment cutoff) draw (answer.Keep told) p q is = by.keeps b segment cutoff told p q is
of_calls Is by b (command.Evict segment) draw (answer.Evict told) p q is = by.evicts b segment told p q is
of_calls Is by b (command.Refill segment deadline) draw (answer.Refill told) p q is = by.refills b segment deadline told p q is
of_calls Is by b command draw told p q is = absurd is

-- ---- each answer

pub kind : CommandHasItsAnswer
kind b (command.Write (request.Set key value now)) draw (answer.Write told) p q is = tt
kind b (command.Write (request.Add key value now)) draw (answer.Write told) p q is = tt
kind b (command.Write (request.Replace key value now)) draw (answer.Write told) p q is = tt
kind b (command.Write (request.Cas key value version now)) draw (answer.Write told) p q is = tt
kind b (command.Write (request.Delete key now)) draw (answer.Delete told) p q is = tt
kind b (command.Get key now) draw (answer.Get told) p q is = tt
kind b (command.Gets key now) draw (answer.Gets told) p q is = tt
kind b (command.Keep segment cutoff) draw (answer.Keep told) p q is = tt
kind b (command.Evict segment) draw (answer.Evict told) p q is = tt
kind b (command.Refill segment deadline) draw (answer.Refill told) p q is = tt
kind b command draw told p q is = absurd is

goes : OfCommand (λ b command told p q. GoesOn b p q)
goes = of_calls (λ b command told p q. GoesOn b p q) (record {
  writes = λ b asked told p q is. is.on;
  deletes = λ b key now told p q is. is.on;
  gets_value = λ b key draw now told p q is. is.on;
  gets_version = λ b key draw now told p q is. is.on;
  keeps = λ b segment cutoff told p q is. is.on;
  evicts = λ b segment told p q is. is.on;
  refills = λ b segment deadline told p q is. is.on;
})

pub on : CommandGoesOn
on b command draw told p q is = (goes b command draw told p q is, command_memo b p q command draw told is)

pub effect : CommandHasEffect
effect b (command.Write (request.Set key value now)) draw (answer.Write told) p q is = of_write b (request.Set key value now) told p q is
effect b (command.Write (request.Add key value now)) draw (answer.Write told) p q is = of_write b (request.Add key value now) told p q is
effect b (command.Write (request.Replace key value now)) draw (answer.Write told) p q is = of_write b (request.Replace key value now) told p q is
effect b (command.Write (request.Cas key value version now)) draw (answer.Write told) p q is = of_write b (request.Cas key value version now) told p q is
effect b (command.Write (request.Delete key now)) draw (answer.Delete told) p q is = of_delete b key now told p q is
effect b (command.Get key now) draw (answer.Get told) p q is = of_get b key draw now told p q is
effect b (command.Gets key now) draw (answer.Gets told) p q is = of_gets b key draw now told p q is
effect b (command.Keep segment cutoff) draw (answer.Keep told) p q is = tt
effect b (command.Evict segment) draw (answer.Evict told) p q is = tt
effect b (command.Refill segment deadline) draw (answer.Refill told) p q is = tt
effect b command draw told p q is = absurd is

-- ---- entries

abbrev Adds : Shape → Command → ℕ → Pass → Pass → Type 0
Adds shape command count p q = (more : List Entry) × (length more ≡ count) × AllByRecursion (IsOfCommand shape command p q) more × (mine q ≡ more ++ mine p)

module _ (b : Board) where
  none : (command : Command) (p q : Pass) → mine q ≡ mine p → Adds b.shape command 0 p q
  none command p q same = ([], refl, tt, same)

  one : (command : Command) (entry : Entry) (p q : Pass) → IsOfCommand b.shape command p q entry → AddsEntry entry p q → Adds b.shape command 1 p q
  one command entry p q is adds = (entry ∷ [], refl, (is, tt), adds)

  idle : (command : Command) (count : ℕ) (p q : Pass) → count ≡ 0 → q ≡ p → Adds b.shape command count p q
  idle command count p q zero same = subst (λ n. Adds b.shape command n p q) (sym zero) (none command p q (ap mine same))

  wrote : (asked : Request) (said : Reply) (segment : Option ℕ) (p q : Pass) → AddsEntry (Wrote (number p) asked said segment) p q → Adds b.shape (command.Write asked) 1 p q
  wrote asked said segment p q adds = one (command.Write asked) (Wrote (number p) asked said segment) p q (said, segment, refl) adds

  write_adds : (asked : Request) (told : WriteAnswer) (p q : Pass) → IsWriteAnswer b.shape asked told p q → Adds b.shape (command.Write asked) (entries_told (answer.Write told)) p q
  write_adds asked write.Stored p q is = wrote asked reply.Stored (Some is.0) p q is.1
  write_adds asked write.NotStored p q is = wrote asked reply.NotStored None p q is.0
  write_adds asked write.Exists p q is = wrote asked reply.Exists None p q is.0
  write_adds asked write.NotFound p q is = wrote asked reply.NotFound None p q is.0
  write_adds asked write.NoRoom p q is = none (command.Write asked) p q (ap mine is)
  write_adds asked write.BucketFull p q is = none (command.Write asked) p q is.0.entries
  write_adds asked write.Busy p q is = none (command.Write asked) p q is.0.entries

  delete_adds : (key : List ℕ) (now : ℕ) (told : DeleteAnswer) (p q : Pass) → IsDeleteAnswer b.shape key now told p q
      → Adds b.shape (command.Write (request.Delete key now)) (entries_told (answer.Delete told)) p q
  delete_adds key now delete.Deleted p q is = wrote (request.Delete key now) reply.Deleted None p q is.0
  delete_adds key now delete.NotFound p q is = wrote (request.Delete key now) reply.NotFound None p q is.0
  delete_adds key now delete.Busy p q is = none (command.Write (request.Delete key now)) p q is.0.entries

  are_moves : (segment into cutoff : ℕ) (p q : Pass) (more : List Entry) → AreMoves (number p) segment into (WasOften b.shape segment cutoff p q) more
      → AllByRecursion (IsOfCommand b.shape (command.Keep segment cutoff) p q) more
  are_moves segment into cutoff p q [] all = tt
  are_moves segment into cutoff p q (entry ∷ more) all = ((all.0.0, into, all.0.1, all.0.2), are_moves segment into cutoff p q more all.1)

  moves_add : (segment cutoff count : ℕ) (p q : Pass) → MovesAway b segment cutoff count p q → Adds b.shape (command.Keep segment cutoff) count p q
  moves_add segment cutoff count p q away =
      let moves = away.1.2 in
      (moves.moves, moves.counted, are_moves segment away.1.0 cutoff p q moves.moves moves.all, moves.entries)

  keep_adds : (segment cutoff : ℕ) (told : KeepAnswer) (p q : Pass) → IsKeepAnswer b segment cutoff told p q → Adds b.shape (command.Keep segment cutoff) (entries_told (answer.Keep told)) p q
  keep_adds segment cutoff (keep.Kept count) p q is = elim is [
    | inl moves ↦ moves_add segment cutoff count p q moves.0
    | inr still ↦ idle (command.Keep segment cutoff) count p q still.1 still.2
  ]
  keep_adds segment cutoff keep.NotYours p q is = none (command.Keep segment cutoff) p q (ap mine is)
  keep_adds segment cutoff (keep.NoRoom count) p q is = elim is [
    | inl still ↦ idle (command.Keep segment cutoff) count p q still.2 still.3
    | inr moves ↦ moves_add segment cutoff count p q moves.0
  ]
  keep_adds segment cutoff (keep.Busy count) p q is = moves_add segment cutoff count p q is.0

  are_evicted : (segment : ℕ) (p q : Pass) (more : List Entry) → AreEvictions (number p) segment more → AllByRecursion (IsOfCommand b.shape (command.Evict segment) p q) more
  are_evicted segment p q [] all = tt
  are_evicted segment p q (entry ∷ more) all = (all.0, are_evicted segment p q more all.1)

  takes_add : (segment count : ℕ) (p q : Pass) → TakesOut segment count p q → Adds b.shape (command.Evict segment) count p q
  takes_add segment count p q out = (out.evictions, out.counted, are_evicted segment p q out.evictions out.all, out.entries)

  evict_adds : (segment : ℕ) (told : EvictAnswer) (p q : Pass) → IsEvictAnswer b.shape segment told p q → Adds b.shape (command.Evict segment) (entries_told (answer.Evict told)) p q
  evict_adds segment (evict.Evicted count) p q is = elim is [
    | inl out ↦ takes_add segment count p q out.1
    | inr still ↦ idle (command.Evict segment) count p q still.1 still.2
  ]
  evict_adds segment evict.NotYours p q is = none (command.Evict segment) p q (ap mine is)
  evict_adds segment (evict.Busy count) p q is = takes_add segment count p q is.1

  refill_adds : (segment deadline : ℕ) (told : RefillAnswer) (p q : Pass) → IsRefillAnswer segment deadline told p q
      → Adds b.shape (command.Refill segment deadline) (entries_told (answer.Refill told)) p q
  refill_adds segment deadline refill.Refilled p q is = one (command.Refill segment deadline) (Refilled (number p) segment deadline) p q refl is.entry
  refill_adds segment deadline refill.NotYours p q is = none (command.Refill segment deadline) p q (ap mine is)
  refill_adds segment deadline refill.NotEvicted p q is = none (command.Refill segment deadline) p q (ap mine is)
  refill_adds segment deadline refill.Held p q is = none (command.Refill segment deadline) p q is.0.entries

pub entries : CommandAddsEntries
entries = of_calls (λ b command told p q. Adds b.shape command (entries_told told) p q) (record {
  writes = λ b asked told p q is. write_adds b asked told p q is.answer;
  deletes = λ b key now told p q is. delete_adds b key now told p q is.answer;
  gets_value = λ b key draw now told p q is. none b (command.Get key now) p q is.keeps.entries;
  gets_version = λ b key draw now told p q is. none b (command.Gets key now) p q is.keeps.entries;
  keeps = λ b segment cutoff told p q is. keep_adds b segment cutoff told p q is.answer;
  evicts = λ b segment told p q is. evict_adds b segment told p q is.answer;
  refills = λ b segment deadline told p q is. refill_adds b segment deadline told p q is.answer;
})

-- ---- segments

-- no key stands in a segment of the pass that isn't in use
unused_empty : (b : Board) (segment : ℕ) (p q : Pass) → IsQuiet b q → q ≡ p → state_of p segment ≢ Some InUse → state_of p segment ≢ None
    → NoneStandsIn (after b.shape (seen q)) segment
unused_empty b segment p q quiet same unused own = by (state_of p segment) refl
  where
    by : (state : Option SegState) → state_of p segment ≡ state → NoneStandsIn (after b.shape (seen q)) segment
    by None at = absurd (own at)
    by (Some state) at = quiet.segments.unused segment state (ap (λ r. state_of r segment) same ∙ at) (λ in_use. unused (at ∙ ap Some in_use))

keep_leaves : (b : Board) (segment cutoff : ℕ) (told : KeepAnswer) (p q : Pass) → KeepsItems b segment cutoff told p q
    → LeavesSegment b.shape (command.Keep segment cutoff) (answer.Keep told) p q
keep_leaves b segment cutoff (keep.Kept count) p q is = elim is.answer [
  | inl moves ↦ moves.1
  | inr still ↦ (λ key stands. absurd (
      unused_empty b segment p q is.on.quiet still.2 still.0
      (λ none. let no : keep.Kept count ≡ keep.NotYours = is.not_yours.1 none in cc) key stands))
]
keep_leaves b segment cutoff keep.NotYours p q is = tt
keep_leaves b segment cutoff (keep.NoRoom count) p q is = tt
keep_leaves b segment cutoff (keep.Busy count) p q is = tt

evict_leaves : (b : Board) (segment : ℕ) (told : EvictAnswer) (p q : Pass) → EvictsSegment b segment told p q
    → LeavesSegment b.shape (command.Evict segment) (answer.Evict told) p q
evict_leaves b segment (evict.Evicted count) p q is = elim is.answer [
  | inl out ↦ out.3
  | inr still ↦ unused_empty b segment p q is.on.quiet still.2 still.0
      (λ none. let no : evict.Evicted count ≡ evict.NotYours = is.not_yours.1 none in cc)
]
evict_leaves b segment evict.NotYours p q is = tt
evict_leaves b segment (evict.Busy count) p q is = tt

refill_leaves : (b : Board) (segment deadline : ℕ) (told : RefillAnswer) (p q : Pass) → IsRefillAnswer segment deadline told p q
    → LeavesSegment b.shape (command.Refill segment deadline) (answer.Refill told) p q
refill_leaves b segment deadline refill.Refilled p q is = ap (λ (plain : PlainPart). plain.current) is.plain
refill_leaves b segment deadline refill.NotYours p q is = tt
refill_leaves b segment deadline refill.NotEvicted p q is = tt
refill_leaves b segment deadline refill.Held p q is = tt

pub leaves : CommandLeavesSegment
leaves = of_calls (λ b command told p q. LeavesSegment b.shape command told p q) (record {
  writes = λ b asked told p q is. tt;
  deletes = λ b key now told p q is. tt;
  gets_value = λ b key draw now told p q is. tt;
  gets_version = λ b key draw now told p q is. tt;
  keeps = keep_leaves;
  evicts = evict_leaves;
  refills = λ b segment deadline told p q is. refill_leaves b segment deadline told p q is.answer;
})

-- ---- refusals

write_reason : (b : Board) (asked : Request) (told : WriteAnswer) (p q : Pass) → Writes b asked told p q → IsReason b (command.Write asked) (answer.Write told) p q
write_reason b asked write.Stored p q is = tt
write_reason b asked write.NotStored p q is = tt
write_reason b asked write.Exists p q is = tt
write_reason b asked write.NotFound p q is = tt
write_reason b asked write.NoRoom p q is = is.no_room.0 refl
write_reason b asked write.BucketFull p q is = is.answer.2
write_reason b asked write.Busy p q is = is.answer.1

delete_reason : (b : Board) (key : List ℕ) (now : ℕ) (told : DeleteAnswer) (p q : Pass) → Deletes b key now told p q
    → IsReason b (command.Write (request.Delete key now)) (answer.Delete told) p q
delete_reason b key now delete.Deleted p q is = tt
delete_reason b key now delete.NotFound p q is = tt
delete_reason b key now delete.Busy p q is = is.answer.1

get_reason : (b : Board) (key : List ℕ) (draw now : ℕ) (told : GetAnswer) (p q : Pass) → ReadsKey b key draw now told p q → IsReason b (command.Get key now) (answer.Get told) p q
get_reason b key draw now (get.Found value) p q is = tt
get_reason b key draw now get.Miss p q is = tt
get_reason b key draw now get.Busy p q is = is.answer

gets_reason : (b : Board) (key : List ℕ) (draw now : ℕ) (told : GetsAnswer) (p q : Pass) → ReadsVersion b key draw now told p q → IsReason b (command.Gets key now) (answer.Gets told) p q
gets_reason b key draw now (gets.Found value version) p q is = tt
gets_reason b key draw now gets.Miss p q is = tt
gets_reason b key draw now gets.Busy p q is = is.answer

keep_reason : (b : Board) (segment cutoff : ℕ) (told : KeepAnswer) (p q : Pass) → KeepsItems b segment cutoff told p q → IsReason b (command.Keep segment cutoff) (answer.Keep told) p q
keep_reason b segment cutoff (keep.Kept count) p q is = tt
keep_reason b segment cutoff keep.NotYours p q is = is.not_yours.0 refl
keep_reason b segment cutoff (keep.NoRoom count) p q is = elim is.answer [
  | inl still ↦ inl still.1
  | inr moves ↦ inr moves.1
]
keep_reason b segment cutoff (keep.Busy count) p q is = is.answer.2

evict_reason : (b : Board) (segment : ℕ) (told : EvictAnswer) (p q : Pass) → EvictsSegment b segment told p q → IsReason b (command.Evict segment) (answer.Evict told) p q
evict_reason b segment (evict.Evicted count) p q is = tt
evict_reason b segment evict.NotYours p q is = is.not_yours.0 refl
evict_reason b segment (evict.Busy count) p q is = is.answer.3

refill_reason : (b : Board) (segment deadline : ℕ) (told : RefillAnswer) (p q : Pass) → RefillsSegment b segment deadline told p q
    → IsReason b (command.Refill segment deadline) (answer.Refill told) p q
refill_reason b segment deadline refill.Refilled p q is = tt
refill_reason b segment deadline refill.NotYours p q is = is.not_yours.0 refl
refill_reason b segment deadline refill.NotEvicted p q is = is.in_use.0 refl
refill_reason b segment deadline refill.Held p q is = is.answer.1

pub refused : CommandIsRefused
refused = of_calls (λ b command told p q. IsReason b command told p q) (record {
  writes = write_reason;
  deletes = delete_reason;
  gets_value = get_reason;
  gets_version = gets_reason;
  keeps = keep_reason;
  evicts = evict_reason;
  refills = refill_reason;
})
