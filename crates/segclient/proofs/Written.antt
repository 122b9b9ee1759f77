-- What a write of a client comes to, of its call and what is cleared then.
use Rattle.std.proofs.Common.{◌≡◌, ◌≢◌, ℕ, Bool, true, false, inl, inr, refl, sym, ap, ◌∙◌, subst}
use Rattle.std.proofs.lemmas.Bool.{not-false, not-true}
use Rattle.segword.specs.Words.{Shape}
use Rattle.segmodel.specs.declared.answer.WriteAnswer.TheVariants as write
use Rattle.segmodel.specs.Words.{Request, WriteAnswer}
use Rattle.segbase.specs.Words.{Board, number, Pass}
use Rattle.segstore.specs.Words.{IsQuiet, memo}
use Rattle.segwrite.specs.Words.{IsWriteAnswer, Writes}
use Rattle.segtally.specs.Tallies.{write_tally}
use Rattle.segclient.specs.declared.member.Member.{Member}
use Rattle.segclient.specs.Clearing.{Clears}
use Rattle.segclient.specs.Counting.{cleared_too, counted}
use Rattle.segclient.specs.Made.{BeginsWrite, EndsWrite, life_of, MakesWrite, WritesIfTimely}
use Rattle.segclient.specs.PutParts.{is_outside}
use Rattle.segclient.specs.Puts.{StoredFor}
use Rattle.segclient.proofs.Added.{chosen_on}
use Rattle.segclient.proofs.Lasting.{write_for}
use Rattle.segclient.proofs.Setting.{timely_window}
use Rattle.segclient.proofs.Steps.{clears_come}

answer_keeps : (shape : Shape) (request : Request) (told : WriteAnswer) (p q : Pass) → IsWriteAnswer shape request told p q → memo q ≡ memo p
answer_keeps shape request write.Stored p q is = is.2.memo
answer_keeps shape request write.NotStored p q is = is.2
answer_keeps shape request write.Exists p q is = is.2
answer_keeps shape request write.NotFound p q is = is.2
answer_keeps shape request write.NoRoom p q is = ap memo is
answer_keeps shape request write.BucketFull p q is = is.0.memo
answer_keeps shape request write.Busy p q is = is.0.memo

room_not_stored : write.NoRoom ≢ write.Stored
room_not_stored same = cc

module _ (b : Board) (request : ℕ → Request) (old begun : Member) (new : Member) (quiet : IsQuiet b old.pass) where
  -- what a write comes to that was made, or refused
  ended : (told : WriteAnswer) (made : Bool) (q : Pass) → BeginsWrite made b old begun → EndsWrite told b (record begun { pass = q }) new
      → IsQuiet b q → number q ≡ number begun.pass → memo q ≡ memo begun.pass
      → WritesIfTimely b (life_of old) (request old.clock) told begun.pass q → (told ≡ write.Stored → StoredFor (life_of old) q)
      → MakesWrite request told b old new
  ended told made q begins ends on same kept writes stored =
      let settings = begins.counts.keeps.settings in
      let clears = subst (λ cutoff. Clears b cutoff ends.steps q new.pass) settings.cutoff ends.clears in
      record {
        chosen = begun.pass;
        chooses = begins.chooses;
        between = q;
        writes = writes;
        stored = stored;
        steps = ends.steps;
        clears = clears;
        few_steps = ends.few_steps;
        unasked = λ other. let nothing = ends.unasked other in (nothing.0, nothing.1 ∙ begins.counts.keeps.segments);
        unqueued = λ none. let nothing = ends.unqueued (settings.queues ∙ none) in (nothing.0, nothing.1 ∙ begins.counts.keeps.segments);
        memo = (clears_come b old.cutoff ends.steps q new.pass on clears).memo ∙ kept ∙ (chosen_on b old.pass begun.pass quiet begins.chooses.chooses).memo;
        counts = ends.stats ∙ ap (λ stats. cleared_too ends.steps (counted (write_tally told) stats)) begins.counts.stats;
        draws = ends.draws ∙ begins.counts.draws;
        settings = record {
          number = ends.settings.number ∙ same ∙ settings.number;
          clock = ends.settings.clock ∙ settings.clock;
          time_to_live = ends.settings.time_to_live ∙ settings.time_to_live;
          cutoff = ends.settings.cutoff ∙ settings.cutoff;
          queues = ends.settings.queues ∙ settings.queues;
        };
      }

  pub made_write : (told : WriteAnswer) (q : Pass) → IsQuiet b begun.pass → BeginsWrite true b old begun
      → Writes b (request begun.clock) told begun.pass q → EndsWrite told b (record begun { pass = q }) new → MakesWrite request told b old new
  made_write told q going begins writes ends =
      let made = subst (λ now. Writes b (request now) told begun.pass q) begins.counts.keeps.settings.clock writes in
      let inside = not-true (is_outside (life_of old) begun.pass) (sym begins.timely) in
      ended told true q begins ends made.on.quiet made.on.same (answer_keeps b.shape (request old.clock) told begun.pass q made.answer) (inr (inside, made))
      (λ is. write_for b (life_of old) (request old.clock) begun.pass q going (timely_window (life_of old) begun.pass inside)
      (subst (λ t. Writes b (request old.clock) t begun.pass q) is made))

  pub refused_write : (told : WriteAnswer) → told ≡ write.NoRoom → IsQuiet b begun.pass → BeginsWrite false b old begun → EndsWrite write.NoRoom b begun new → MakesWrite request told b old new
  refused_write told is going begins ends =
      subst (λ t. MakesWrite request t b old new) (sym is)
      (ended write.NoRoom false begun.pass begins ends going refl refl (inl (not-false (is_outside (life_of old) begun.pass) (sym begins.timely), refl, refl)) (λ same. absurd (room_not_stored same)))
