-- With one pass, a delete is served as the model says.
use Rattle.std.proofs.Common.{◌≡◌, ◌≢◌, ℕ, Bool, true, false, List, [], ◌∷◌, Some, None, refl, sym, ap, subst, ◌∙◌}
use Rattle.std.specs.Prelude.{MatchBool}
use Rattle.segmodel.specs.declared.entry.Entry.TheVariants.{Wrote}
use Rattle.segmodel.specs.declared.request.Request.TheVariants.{Delete}
use Rattle.segmodel.specs.declared.request.Reply.TheVariants as reply
use Rattle.segmodel.specs.declared.answer.DeleteAnswer.TheVariants as delete
use Rattle.segmodel.specs.declared.answer.Answer.TheVariants as answer
use Rattle.segmodel.specs.declared.answer.Command.TheVariants as command
use Rattle.segmodel.specs.Words.{after, after_reply, bucket_of, DeleteAnswer, is_locked, IsGiven}
use Rattle.segmodel.specs.Words.{Reply, reply_in, reply_of_delete, ServesDelete}
use Rattle.segmodel.specs.Serving as model
use Rattle.segbase.specs.Words.{Board, number, Pass, seen}
use Rattle.segwrite.specs.Words.{AddsReply, Deletes}
use Rattle.segsolo.specs.Alone.{state_at, IsAlone, ServesAlone}
use Rattle.segsolo.specs.Stored.{items_stored_in}
use Rattle.segindex.proofs.OnePass.{busy_by_lock}
use Rattle.segsolo.proofs.AlonePass.{more_seen, as_replied, counts_replied, reply_then, left, locked_here, free_here}
use Rattle.segsolo.proofs.AloneRows.{frequencies_replied, frequencies_still, served, served_still, still_named, reply_unstored}
use Rattle.segsolo.proofs.AloneWidths.{same_widths}

module _ (b : Board) (p q : Pass) (key : List ℕ) (now : ℕ) (was : IsAlone b p) (told : DeleteAnswer) (is : Deletes b key now told p q) where
  serves_so : (locked : Bool) → is_locked b.shape (state_at b.shape p) key ≡ locked
      → MatchBool locked (IsGiven delete.Busy (state_at b.shape p) told (state_at b.shape q))
      (model.IsReplied b.shape (state_at b.shape p) (Delete key now) (reply_of_delete told)
      (state_at b.shape q))
      → ServesDelete b.shape (state_at b.shape p) key now told (state_at b.shape q)
  serves_so locked is served = subst (λ (t : Bool). MatchBool t
      (IsGiven delete.Busy (state_at b.shape p) told (state_at b.shape q))
      (model.IsReplied b.shape (state_at b.shape p) (Delete key now) (reply_of_delete told) (state_at b.shape q)))
      (sym is) served

  -- replied by one entry
  replied : (r : Reply) → told ≢ delete.Busy → reply_of_delete told ≡ Some r → AddsReply (Delete key now) r p q
      → ((s : ℕ) → items_stored_in b.shape (Wrote (number p) (Delete key now) r None ∷ seen p) s ≡ items_stored_in b.shape (seen p) s)
      → after_reply b.shape (Delete key now) r (state_at b.shape p) ≡ record (state_at b.shape p) { cache = after b.shape (Wrote (number p) (Delete key now) r None ∷ seen p) }
      → ServesAlone b (command.Write (Delete key now)) (answer.Delete told) p q
  replied r other is_reply answered keeps leaves = served b (command.Write (Delete key now)) (answer.Delete told) p q was is.on.quiet
      (counts_replied b p q (Wrote (number p) (Delete key now) r None) was is.on.quiet answered.0 answered.1 keeps)
      (still_named b p q (Wrote (number p) (Delete key now) r None ∷ []) was is.on answered.0 (reply_unstored (number p) (Delete key now) r, tt)) (
        told,
        refl,
        serves_so false (free_here b.shape p key (λ locked. other (is.locked locked))) (
          is_reply ∙ ap Some was_replied,
          as_replied b p q (Wrote (number p) (Delete key now) r None) was is.on.quiet answered.0 answered.1 answered.2 keeps (same_widths b p q was is.on is.costs.draws_nothing)
              (frequencies_replied b p q was is.on (Wrote (number p) (Delete key now) r None) answered.0 (reply_unstored (number p) (Delete key now) r).0 is.costs.enters.raises_nothing)
              ∙ (sym leaves ∙ ap (λ r. after_reply b.shape (Delete key now) r (state_at b.shape p)) was_replied),
        ),
      )
    where
      was_replied : r ≡ reply_in b.shape (after b.shape (seen p)) (Delete key now)
      was_replied = reply_then b p q (Delete key now) r None is.on.quiet (more_seen b p q (Wrote (number p) (Delete key now) r None ∷ []) was is.on.quiet answered.0)

pub serves_delete : (b : Board) (p q : Pass) (key : List ℕ) (now : ℕ) (told : DeleteAnswer) → IsAlone b p → Deletes b key now told p q
    → ServesAlone b (command.Write (Delete key now)) (answer.Delete told) p q
serves_delete b p q key now delete.Deleted was is = replied b p q key now was delete.Deleted is reply.Deleted (λ e. cc) refl is.answer (λ s. refl) refl
serves_delete b p q key now delete.NotFound was is = replied b p q key now was delete.NotFound is reply.NotFound (λ e. cc) refl is.answer (λ s. refl) refl
serves_delete b p q key now delete.Busy was is =
    served_still b (command.Write (Delete key now)) (answer.Delete delete.Busy) p q was is.on is.answer.0 (
      delete.Busy,
      refl,
      serves_so b p q key now was delete.Busy is true (locked_here b.shape p key (busy_by_lock b p q (bucket_of b.shape key) was.quiet is.on.quiet was.one is.answer.1))
          (refl, left b p q was is.on is.answer.0 (same_widths b p q was is.on is.costs.draws_nothing) (frequencies_still b p q was is.on is.answer.0.entries is.costs.enters.raises_nothing)),
    )
