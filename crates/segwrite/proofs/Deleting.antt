-- A delete, from the take of the bit to its answer.
use Rattle.std.proofs.Common.{◌≡◌, ◌≢◌, ℕ, true, false, is_some, List, [], ◌∷◌, Option, Some, None, Bool, refl, sym, ap, ◌∙◌, subst, arith}
use Rattle.std.specs.Prelude.{IsSome}
use Rattle.std.proofs.lemmas.Bool.{eq-eqb}
use Rattle.segword.specs.Words.{Shape}
use Rattle.segmodel.specs.declared.request.Request.TheVariants.{Delete}
use Rattle.segmodel.specs.declared.request.Reply.TheVariants as reply
use Rattle.segmodel.specs.declared.answer.DeleteAnswer.TheVariants as delete
use Rattle.segmodel.specs.declared.entry.Entry.TheVariants.{Wrote}
use Rattle.segcore.specs.declared.event.Leaving.TheVariants as leaving
use Rattle.segmodel.specs.Words.{after, Begins, bucket_of, DeleteAnswer, Entry, key_of, moment_of, present, reply_to, Request}
use Rattle.segcore.specs.declared.event.Event.TheVariants.{Freed, Unlinked}
use Rattle.segcore.specs.Words.{acts, bucket_after, Event, Fits, HasBit, IsRefusal, May, release}
use Rattle.segbase.specs.Words.{AddsAtOnce, AddsEvents, Board, HasItemOf, IsPassOf, number, Pass}
use Rattle.segbase.specs.Words.{position, seen, trace}
use Rattle.segbase.proofs.Moves.{moved_on, moved_then}
use Rattle.segstore.specs.Words.{HasCleanBit, Idles, IsQuiet, MayEnterAny, memo, peek, TakesToWrite}
use Rattle.segstore.specs.Words.{TakesAtMost, TookToWrite}
use Rattle.segstore.proofs.Refills.{idles}
use Rattle.segwrite.specs.Words.{Target}
use Rattle.segwrite.specs.Steps.{most_steps_to_remove, most_tries_for_bit}
use Rattle.segwrite.specs.Writes.{Deletes, EntersForKey}
use Rattle.segwrite.specs.Writing.{IsInChain, IsEarlier, IsTarget, Finds, own_word}
use Rattle.segwrite.specs.Refusing.{reply_now, RefusesUnderBit, Removes, RemovesPresent}
use Rattle.segwrite.specs.Presence.{Peeks, IsPresentWord}
use Rattle.segstore.proofs.Peeking.{PeeksInto}
use Rattle.segwrite.proofs.Ending.{IsEntry, plain_back, memo_back, entered_on, entered, entered_undrawn, entered_peeking, entered_taking}
use Rattle.segwrite.proofs.Storing.{target_later}
use Rattle.segwrite.proofs.Linking.{event_at, unlink_event, own_item}
use Rattle.segwrite.proofs.Refused.{own_target, refused_goes_on, refused_replied, refused_undrawn, refused_peeking, refused_takes}
use Rattle.segwrite.proofs.Presence.{clean_still, may_enter_idle, peek_nowhere, peeks_after, began, enters_for, enters_none, came_wider}
use Rattle.segstore.proofs.UnderBit.{did_acts}
use Rattle.segstore.proofs.UnderWrite.{HasBegun}

-- what the look asks for, where the search ended
pub may_look : (b : Board) (request : Request) (key : List ℕ) (now bucket : ℕ) → request ≡ Delete key now
    → bucket ≡ bucket_of b.shape key → (p f : Pass) (found : Option Target) → HasCleanBit b p bucket → Idles b p f
    → MayEnterAny p → Finds b key found f
    → IsPassOf b f × (MayEnterAny f × (HasBit b.shape (trace f) (number f) (bucket_of b.shape (key_of request)) × Finds b (key_of request) found f))
may_look b request key now bucket asked home p f found clean search outside finds =
    let key_is = sym (ap key_of asked) in (
      search.moved.pass,
      (
        may_enter_idle b p f search outside,
        (
          subst (λ n. HasBit b.shape (trace f) (number f) n) (home
              ∙ ap (bucket_of b.shape) key_is) (clean_still b [] bucket p f clean search.moved tt).bit,
          subst (λ k. Finds b k found f) key_is finds,
        ),
      ),
    )

-- ---- under the bit: from p, where it was taken, to f, where the search ended, and g, where the pass knows whether the key is present

module _ (b : Board) (request : Request) (key : List ℕ) (now : ℕ) (bucket : ℕ) (asked : request ≡ Delete key now)
    (home : bucket ≡ bucket_of b.shape key) (p f g : Pass) (found word : Option Target)
    (clean : HasCleanBit b p bucket)
    (search : Idles b p f) (finds : Finds b key found f) (look : Peeks b (key_of request) f g) (known : IsPresentWord b (key_of request) now found word g) where
  key_is : key ≡ key_of request
  key_is = sym (ap key_of asked)

  at_home : bucket ≡ bucket_of b.shape (key_of request)
  at_home = home ∙ ap (bucket_of b.shape) key_is

  clean_found : HasCleanBit b f bucket
  clean_found = clean_still b [] bucket p f clean search.moved tt

  clean_now : HasCleanBit b g bucket
  clean_now = clean_still b (peek (number f) look.into) bucket f g clean_found look.moved (peek_nowhere b.shape bucket (number f) look.into)

  clean_home : HasCleanBit b g (bucket_of b.shape (key_of request))
  clean_home = subst (HasCleanBit b g) at_home clean_now

  asked_it : request ≡ Delete (key_of request) now
  asked_it = asked ∙ (λ i. Delete (key_is i) now)

  finds_it : Finds b (key_of request) found f
  finds_it = subst (λ k. Finds b k found f) key_is finds

  bit_found : HasBit b.shape (trace f) (number f) (bucket_of b.shape (key_of request))
  bit_found = subst (λ n. HasBit b.shape (trace f) (number f) n) at_home clean_found.bit

  looked_on : Peeks b (key_of request) p g
  looked_on = peeks_after b (key_of request) p f g search look

  abbrev here : Bool
  here = is_some (present (after b.shape (seen g)) now (key_of request))

  abbrev version : ℕ
  version = (after b.shape (seen g)).version (bucket_of b.shape (key_of request))

  replies : reply_now b g request ≡ reply_to (Delete (key_of request) now) here version
  replies = ap (reply_now b g) asked_it

  not_found : word ≡ None → reply_now b g request ≡ reply.NotFound
  not_found none = replies ∙ ap (λ o. reply_to (Delete (key_of request) now) (is_some o) version) (subst (λ o. IsPresentWord b (key_of request) now found o g) none known)

  pub may_tell : word ≡ None → IsPassOf b g × (HasCleanBit b g bucket × (bucket ≡ bucket_of b.shape (key_of request) × IsRefusal (reply_now b g request)))
  may_tell none = (look.moved.pass, (clean_now, (at_home, subst IsRefusal (sym (not_found none)) tt)))

  pub tells : (s : Pass) → word ≡ None → RefusesUnderBit b request (reply_now b g request) g s → Removes b request delete.NotFound p s
  tells s none told = (g, looked_on, subst (λ r. RefusesUnderBit b request r g s) (not_found none) told)

  module _ (target : Target) (own : word ≡ Some target) where
    known_word : (own_word found ≡ Some target) × IsSome (present (after b.shape (seen g)) now (key_of request))
    known_word = subst (λ o. IsPresentWord b (key_of request) now found o g) own known

    abbrev gone : Event
    gone = event_at b (unlink_event (key_of request) (leaving.Deletes (moment_of request))) target.place g

    the_target : IsTarget b (key_of request) target g × (target.word ≢ 0)
    the_target = let t = own_target b (key_of request) found target f finds_it known_word.0 in (
      target_later b (peek (number f) look.into) f g (key_of request) look.moved search.moved.pass bit_found
          (peek_nowhere b.shape (bucket_of b.shape (key_of request)) (number f) look.into) target t.0,
      t.1,
    )

    deletes_it : reply.Deleted ≡ reply_now b g (Delete (key_of request) (moment_of request))
    deletes_it = sym (ap (λ m. reply_now b g (Delete (key_of request) m)) (ap moment_of asked) ∙ ap (λ t. reply_to (Delete (key_of request) now) t version) known_word.1)

    pub may_clear : IsPassOf b g × (Fits b.shape (trace g) gone
        × (IsInChain b (bucket_of b.shape (key_of request)) target.place g
        × (HasItemOf b (key_of request) target.place g × IsEarlier b target.place target.word g)))
    may_clear =
        let own = own_item b (key_of request) target g the_target.0 the_target.1 in
        let fits : Fits b.shape (trace g) gone = record { guarded = clean_home.bit; follows = (deletes_it, refl); suits = (own.0.0, own.0.1, own.0.2, clean_home.unwritten) } in
        (look.moved.pass, (fits, (the_target.0.chain, (own.0, own.1))))

    module _ (r : Pass) (did : AddsAtOnce b (gone ∷ []) g r) where
      abbrev k : ℕ
      k = bucket_of b.shape (key_of request)

      acted : bucket_after b.shape (trace r) k ≡ acts gone (bucket_after b.shape (trace g) k)
      acted = did_acts b gone g r k did (eq-eqb k k refl) clean_home.bit

      pub may_free : IsPassOf b r × May b.shape (trace r) (number r) (release bucket true None)
      may_free = (
        did.moved.pass,
        subst (λ n. May b.shape (trace r) (number r) (release n true None)) (sym at_home)
            ((clean_home.bit.0, ap (λ u. u.holder) acted ∙ (clean_home.bit.1 ∙ ap Some (sym did.moved.same))), ap (λ u. u.written) acted, ap (λ u. u.spare) acted ∙ clean_home.undrawn, tt),
      )

      pub leaves : (s : Pass) → r.plain ≡ g.plain → memo r ≡ memo g
          → AddsAtOnce b (Freed (number r) bucket true ∷ []) r s
          → (bucket_after b.shape (trace s) bucket).holder ≡ None → s.plain ≡ r.plain → memo s ≡ memo r
          → Removes b request delete.Deleted p s
      leaves s plain keeps freed free plain_too keeps_too =
          let at = position b.shape (trace g) target.place in
          let both = moved_then b (gone ∷ []) (Freed (number r) bucket true ∷ []) g r s did.moved freed.moved in
          let named : (Freed (number r) bucket true ∷ gone ∷ []) ≡ (Freed (number g) k true ∷ gone ∷ []) = (λ i. Freed (did.moved.same i) (at_home i) true ∷ gone ∷ []) in (
            g,
            looked_on,
            (
              at,
              record {
                moved = subst (λ es. AddsEvents b es g s) named both;
                free = subst (λ n. (bucket_after b.shape (trace s) n).holder ≡ None) at_home free;
                plain = plain_too ∙ plain;
                memo = keeps_too ∙ keeps;
              },
            ),
          )

-- ---- the answer

-- the bit can't be had
pub deletes_nothing : (b : Board) (key : List ℕ) (now : ℕ) (p q : Pass) → TakesToWrite b (bucket_of b.shape key) false p q → TakesAtMost most_tries_for_bit p q → Deletes b key now delete.Busy p q
deletes_nothing b key now p q busy steps = record {
  on = busy.0;
  answer = (busy.1, busy.2);
  locked = λ has. refl;
  costs = record {
    takes = λ other. absurd (other refl);
    steps = (omega (arith, steps));
    draws_nothing = busy.3;
    enters = enters_none b.shape key p q busy.4;
    reads_nothing = λ told. busy.4;
  };
}

deletion_entry : (z : Shape) (key : List ℕ) (now at : ℕ) → IsEntry z (bucket_of z key) (λ pass. Unlinked pass key at (leaving.Deletes now)) (λ pass. Wrote pass (Delete key now) reply.Deleted None)
deletion_entry z key now at = record { at = λ pass. refl; adds = λ pass. refl; of = λ pass. refl; still = λ pass. tt; calm = λ pass. tt; undrawn = λ pass. tt; untried = λ pass. tt }

module _ (b : Board) (key : List ℕ) (now : ℕ) (p q s : Pass) (quiet : IsQuiet b p) (took : TookToWrite b (bucket_of b.shape key) p q) (tries : TakesAtMost most_tries_for_bit p q) where
  abbrev own_bucket : ℕ
  own_bucket = bucket_of b.shape key

  looked : Idles b q q
  looked = idles b q took.takes.2.pass

  -- with g after the look
  module _ (g : Pass) (look : Peeks b key q g) where
    had : HasBegun b own_bucket look.into p g
    had = began b own_bucket p q q quiet took looked key g look

    still : Idles b g g
    still = idles b g look.moved.pass

    abbrev into : Option ℕ
    into = look.into

    enters_once : PeeksInto into p s → Begins (trace g) (trace s) → EntersForKey b.shape key p s
    enters_once peeks up = enters_for b.shape key into p s peeks
        (came_wider b.shape key (number q) (number p) into (trace p) (trace q) (trace g) (trace s) took.takes.2.same (moved_on b _ p q took.takes.2) up look.came)

    pub deletes_present : (told : DeleteAnswer) → RemovesPresent b (Delete key now) told g s → TakesAtMost (most_steps_to_remove told) q s → Deletes b key now told p s
    deletes_present delete.Deleted (at, gives) steps =
        let is = deletion_entry b.shape key now at in let act : ℕ
        → Event = (λ pass. Unlinked pass key at (leaving.Deletes now)) in let entry : ℕ
        → Entry = (λ pass. Wrote pass (Delete key now) reply.Deleted None) in record {
          on = entered_on b own_bucket true act entry is p g g s quiet had still gives;
          answer = (
            entered b own_bucket true act entry is p g g s quiet had still gives,
            plain_back b own_bucket true act entry is p g g s quiet had still gives,
            memo_back b own_bucket true act entry is p g g s quiet had still gives,
          );
          locked = λ has. absurd (took.unlocked has);
          costs = record {
            steps = (omega (arith, tries, steps));
            takes = λ other. entered_taking b own_bucket true act entry is p g g s quiet had still gives;
            draws_nothing = entered_undrawn b own_bucket true act entry is p g g s quiet had still gives;
            enters = enters_once (entered_peeking b own_bucket true act entry is p g g s quiet had still gives) (moved_on b _ g s gives.moved);
            reads_nothing = λ (busy : delete.Deleted ≡ delete.Busy). cc;
          };
        }
    deletes_present delete.NotFound refuses steps = record {
      on = refused_goes_on b (Delete key now) reply.NotFound p g g s quiet had still refuses;
      answer = refused_replied b (Delete key now) reply.NotFound p g g s quiet had still refuses;
      locked = λ has. absurd (took.unlocked has);
      costs = record {
        steps = (omega (arith, tries, steps));
        takes = λ other. refused_takes b (Delete key now) reply.NotFound p g g s quiet had still refuses;
        draws_nothing = refused_undrawn b (Delete key now) reply.NotFound p g g s quiet had still refuses;
        enters = enters_once (refused_peeking b (Delete key now) reply.NotFound p g g s quiet had still refuses) (moved_on b _ g s refuses.moved);
        reads_nothing = λ (busy : delete.NotFound ≡ delete.Busy). cc;
      };
    }
    deletes_present delete.Busy none steps = absurd none

  pub deletes : (told : DeleteAnswer) → Removes b (Delete key now) told q s → TakesAtMost (most_steps_to_remove told) q s → Deletes b key now told p s
  deletes told (g, look, removes) steps = deletes_present g look told removes steps
