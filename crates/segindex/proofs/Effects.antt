-- What each call does, by its contract.
use Rattle.std.proofs.Common.{◌≡◌, IfSome, ℕ, List, Option, Some, None, option_map, sym, refl, ap, ◌∙◌, subst}
use Rattle.segmodel.specs.declared.answer.GetAnswer.TheVariants as get
use Rattle.segmodel.specs.declared.answer.GetsAnswer.TheVariants as gets
use Rattle.segmodel.specs.declared.request.Request.TheVariants.{Delete}
use Rattle.segmodel.specs.Words.{after, Cached, DeleteAnswer, reads, Reply, reply_of_delete, reply_of_write, Request, WriteAnswer}
use Rattle.segcore.specs.Event as event
use Rattle.segbase.specs.Words.{Board, Held, holding, Pass}
use Rattle.segread.specs.declared.held.HoldAnswer.TheVariants as hold
use Rattle.segwrite.specs.Words.{Deletes, Writes}
use Rattle.segwrite.proofs.Told.{write_since, delete_since}
use Rattle.segindex.specs.Linearizable.{DeleteHasEffect, effect_of_write, GetHasEffect, GetsHasEffect, Had, HoldHasEffect, WriteHasEffect}

pub of_get : GetHasEffect
of_get b key draw now (get.Found value) p q is = is.answer
of_get b key draw now get.Miss p q is = is.answer
of_get b key draw now get.Busy p q is = tt

pub of_gets : GetsHasEffect
of_gets b key draw now (gets.Found value version) p q is = is.answer
of_gets b key draw now gets.Miss p q is = is.answer
of_gets b key draw now gets.Busy p q is = tt

pub of_hold : HoldHasEffect
of_hold b key now (hold.Holding held) p q is =
    let takes = is.answer in let it = takes.is.held in let h = event.seen it.trace in let found = takes.between in
    let value : reads (after b.shape h) now key ≡ option_map (λ (x : Held). x.value) (holding q) =
    subst (λ k. reads (after b.shape h) now k ≡ Some it.value) takes.of (ap (λ (o : Option Cached). option_map (λ (x : Cached). x.value) o) takes.finds)
    ∙ sym (ap (λ (o : Option Held). option_map (λ (x : Held). x.value) o) takes.is.holds) in
    (found.0, found.1, (h, found.2, value))
of_hold b key now hold.Miss p q is = is.answer.1
of_hold b key now hold.Busy p q is = tt
of_hold b key now hold.AlreadyHolding p q is = tt

write_by : (b : Board) (request : Request) (told : WriteAnswer) (p q : Pass) → Writes b request told p q
    → (said : Option Reply) → reply_of_write told ≡ said
    → IfSome (effect_of_write request said) (λ effect. Had b.shape effect p q)
write_by b request told p q is None none = tt
write_by b request told p q is (Some said) same = write_since b request told said p q is same

delete_by : (b : Board) (key : List ℕ) (now : ℕ) (told : DeleteAnswer) (p q : Pass) → Deletes b key now told p q
    → (said : Option Reply) → reply_of_delete told ≡ said
    → IfSome (effect_of_write (Delete key now) said) (λ effect. Had b.shape effect p q)
delete_by b key now told p q is None none = tt
delete_by b key now told p q is (Some said) same = delete_since b key now told said p q is same

pub of_write : WriteHasEffect
of_write b request told p q is = write_by b request told p q is (reply_of_write told) refl

pub of_delete : DeleteHasEffect
of_delete b key now told p q is = delete_by b key now told p q is (reply_of_delete told) refl
