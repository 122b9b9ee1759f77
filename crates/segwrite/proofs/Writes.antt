-- A write of a key, from the take of the bit to its answer: what was found, what the cache replies, and each way in which it ends.
use Rattle.std.proofs.Common.{◌≡◌, ◌≢◌, ℕ, ◌+◌, ◌^◌, ◌<◌, true, false, is_some, List, [], ◌∷◌, Option, Some, None, refl, sym, ap, ◌∙◌, subst, inl, inr, ⊎_elim, arith}
use Rattle.std.proofs.lemmas.Bool.{false≢true}
use Rattle.std.proofs.lemmas.Option.{same_Some, none-some}
use Rattle.segword.specs.Words.{IsKey, IsWithin, span_of}
use Rattle.segmodel.specs.declared.request.Reply.TheVariants.{Stored}
use Rattle.segmodel.specs.declared.answer.WriteAnswer.TheVariants as write
use Rattle.segmodel.specs.Words.{adds_key, after, bucket_of, key_of, reply_of_write}
use Rattle.segmodel.specs.Words.{Begins, moment_of, reply_to, Request, standing, tag_of, value_of, WriteAnswer}
use Rattle.segcore.specs.declared.event.Event.TheVariants.{Freed}
use Rattle.segcore.specs.Words.{bucket_after, HasBit, IsRefusal, May, release}
use Rattle.segbase.specs.declared.pass.PlainPart.{PlainPart}
use Rattle.segbase.specs.Words.{AddsAtOnce, Board, current_of, IsPassOf, locked_of, number, Pass, seen, trace}
use Rattle.segbase.specs.Words.{used_of}
use Rattle.segstore.specs.Words.{AreRows, DrawsNothing, GoesOn, has_room_for, HasCleanBit, Idles, IsQuiet}
use Rattle.segstore.specs.Words.{KeepsSegments, MayEnterAny, memo, peek, ReadsNothing, TakesOneBit}
use Rattle.segstore.specs.Words.{TakesAtMost, TakesToWrite, TookToWrite}
use Rattle.segstore.proofs.Keeping.{same_used, keeps_plain}
use Rattle.segwrite.specs.declared.find.Found.{Found}
use Rattle.segwrite.specs.Words.{Target}
use Rattle.segwrite.specs.declared.condition.Condition.{Condition}
use Rattle.segcore.proofs.Moments.{begins_on}
use Rattle.segbase.proofs.Moves.{moved_on}
use Rattle.segstore.proofs.Refills.{idles}
use Rattle.segstore.proofs.Idling.{goes_same}
use Rattle.segstore.proofs.Peeking.{PeeksInto}
use Rattle.segwrite.specs.Presence.{depends_on_key, PeeksFor}
use Rattle.segwrite.specs.Spans.{rows_of}
use Rattle.segwrite.specs.Writes.{CostsOfAnswer, EntersForKey, IsWriteAnswer, Writes, UsesRows}
use Rattle.segwrite.specs.Full.{DrewInNeed, GrowsFor}
use Rattle.segwrite.specs.Steps.{most_steps_of_draw, most_steps_of_growth, most_steps_of_refusal, most_steps_of_room}
use Rattle.segwrite.specs.Steps.{most_steps_of_write, most_tries_for_bit, WritesInSteps}
use Rattle.segwrite.specs.Writing.{Finds, IsTarget, HasFullChain}
use Rattle.segwrite.specs.Growing.{Searches, target_of, CannotGrow, IsAsFound, MakesRoom}
use Rattle.segwrite.specs.Storing.{IsNextRow, Requests, StoresUnderBit}
use Rattle.segwrite.specs.Refusing.{request_of, IsToldBy, reply_now, RefusesUnderBit}
use Rattle.segwrite.proofs.Lengthening.{grows_none, in_need_wider}
use Rattle.segwrite.proofs.Steps.{told_steps}
use Rattle.segwrite.proofs.Refused.{asks, asks_rows, adds_absent, refused_goes_on, refused_undrawn, refused_peeking, refused_takes, refused_answer}
use Rattle.segwrite.proofs.Presence.{began, may_enter, taken_moved, peek_nowhere, enters_for, enters_none, came_wider, none_present, unread_if}
use Rattle.segwrite.proofs.Rooms.{searches_still, finds_of, as_found, DrawsOnce, HasRoom, has_room as room_for, no_room, room_steps, unroomed_steps}
use Rattle.segwrite.proofs.Sets.{found_clean, full_answer, full_goes_on, full_peeking, full_takes, full_undrawn, may_free}
use Rattle.segwrite.proofs.Sets.{stored_answer, stored_first, stored_goes_on, stored_grows, stored_peeking, stored_takes}
use Rattle.segstore.proofs.UnderBit.{moved_at}
use Rattle.segstore.proofs.UnderWrite.{HasBegun, begun, took_keeps}

-- all that follows where there is room, and the bit was taken
writes_with : (b : Board) (request : Request) (told : WriteAnswer) (p s : Pass) → ¬ (has_room_for b.shape (rows_of request) p ≡ false)
    → locked_of p ≢ Some (bucket_of b.shape (key_of request)) → told ≢ write.NoRoom → told ≢ write.Busy
    → GoesOn b p s → IsWriteAnswer b.shape request told p s → CostsOfAnswer b.shape request told p s
    → WritesInSteps b.shape request told p s → GrowsFor b.shape request p s
    → EntersForKey b.shape (key_of request) p s → (depends_on_key request ≡ false → ReadsNothing p s)
    → Writes b request told p s
writes_with b request told p s room unlocked some free on answer of_answer steps grows enters unread = record {
  on = on;
  answer = answer;
  no_room = (λ none. absurd (some none), λ none. absurd (room none));
  locked = λ has locked. absurd (unlocked locked);
  costs = record { of_answer = of_answer; steps = steps; grows = grows; enters = enters; reads_nothing = unread };
}

-- what a refusal by the cache, or for lack of a word, costs
refusal_costs : (b : Board) (request : Request) (told : WriteAnswer) (p s : Pass) → told ≢ write.Stored → told ≢ write.NoRoom → told ≢ write.Busy
    → TakesOneBit (bucket_of b.shape (key_of request)) p s → DrawsNothing p s → CostsOfAnswer b.shape request told p s
refusal_costs b request write.Stored p s unstored some free takes none = absurd (unstored refl)
refusal_costs b request write.NotStored p s unstored some free takes none = (takes, none)
refusal_costs b request write.Exists p s unstored some free takes none = (takes, none)
refusal_costs b request write.NotFound p s unstored some free takes none = (takes, none)
refusal_costs b request write.NoRoom p s unstored some free takes none = absurd (some refl)
refusal_costs b request write.BucketFull p s unstored some free takes none = (takes, none)
refusal_costs b request write.Busy p s unstored some free takes none = absurd (free refl)

-- there is room for the request's item exactly if there is room for the pair's
pub same_room : (b : Board) (w : Condition) (request : Request) (key value : List ℕ) (now : ℕ) → request ≡ request_of w key value now → (p : Pass)
    → has_room_for b.shape (rows_of request) p ≡ has_room_for b.shape (span_of key value) p
same_room b w request key value now asked p = ap (λ n. has_room_for b.shape n p) (asks_rows w key value now request asked)

pub has_rows : (b : Board) (w : Condition) (request : Request) (key value : List ℕ) (now : ℕ) → request ≡ request_of w key value now → (p : Pass)
    → ¬ (has_room_for b.shape (span_of key value) p ≡ false) → ¬ (has_room_for b.shape (rows_of request) p ≡ false)
has_rows b w request key value now asked p room none = room (sym (same_room b w request key value now asked p) ∙ none)

-- too few rows are left
pub ends_unstored : (b : Board) (request : Request) (p : Pass) → IsQuiet b p → has_room_for b.shape (rows_of request) p ≡ false → Writes b request write.NoRoom p p
ends_unstored b request p quiet few = record {
  on = goes_same b p quiet;
  answer = refl;
  no_room = (λ none. few, λ none. refl);
  locked = λ has locked. absurd (false≢true (sym few ∙ has));
  costs = record {
    of_answer = tt;
    steps = omega arith;
    grows = grows_none b.shape request p p (λ bucket. refl);
    enters = enters_none b.shape (key_of request) p p refl;
    reads_nothing = λ is_set. refl;
  };
}

-- the bit can't be had
pub ends_busy : (b : Board) (request : Request) (p q : Pass) → ¬ (has_room_for b.shape (rows_of request) p ≡ false)
    → TakesToWrite b (bucket_of b.shape (key_of request)) false p q → TakesAtMost most_tries_for_bit p q
    → Writes b request write.Busy p q
ends_busy b request p q room busy steps = record {
  on = busy.0;
  answer = (busy.1, busy.2);
  no_room = ((λ (e : write.Busy ≡ write.NoRoom). cc), λ none. absurd (room none));
  locked = λ has locked. refl;
  costs = record {
    of_answer = (busy.3, busy.4);
    steps = steps;
    grows = grows_none b.shape request p q busy.3;
    enters = enters_none b.shape (key_of request) p q busy.4;
    reads_nothing = λ is_set. busy.4;
  };
}

module _ (b : Board) (w : Condition) (request : Request) (key value words : List ℕ) (now bucket : ℕ)
    (asked : request ≡ request_of w key value now) (home : bucket ≡ bucket_of b.shape key) (copied : words ≡ key)
    (p q f : Pass) (found : Found) (quiet : IsQuiet b p) (took : TookToWrite b bucket p q) (search : Idles b q f) (searches : Searches b words found f) where
  abbrev k : ℕ
  k = bucket_of b.shape (key_of request)

  key_is : key_of request ≡ key
  key_is = (asks w key value now request asked).0

  pub at_home : bucket ≡ k
  at_home = home ∙ ap (bucket_of b.shape) (sym key_is)

  took_it : TookToWrite b k p q
  took_it = subst (λ n. TookToWrite b n p q) at_home took

  clean : HasCleanBit b f bucket
  clean = found_clean b bucket p q f quiet (begun b bucket p q took) search

  found_it : Searches b (key_of request) found f
  found_it = subst (λ x. Searches b x found f) (copied ∙ sym key_is) searches

  -- what the refusal is told from
  pub may_refuse : b.shape.first_version < 2 ^ 32
      → IsPassOf b f × (b.shape.first_version < 2 ^ 32
      × (HasCleanBit b f bucket × (bucket ≡ k × (MayEnterAny f
      × (Finds b (key_of request) (target_of found) f
      × request ≡ request_of w (key_of request) (value_of request) now)))))
  may_refuse few = (search.moved.pass, (few, (clean, (at_home, (may_enter b bucket p q f quiet took search, (finds_of b (key_of request) found f found_it, (asks w key value now request asked).2))))))

  module _ (g : Pass) (refusal : Option WriteAnswer) (looks : PeeksFor b request f g) (told : IsToldBy (reply_now b g request) refusal) where
    abbrev into : Option ℕ
    into = looks.peeks.into

    had : HasBegun b bucket into p g
    had = began b bucket p q f quiet took search (key_of request) g looks.peeks

    had_it : HasBegun b k into p g
    had_it = began b k p q f quiet took_it search (key_of request) g looks.peeks

    still : Idles b g g
    still = idles b g looks.peeks.moved.pass

    pub clean_now : HasCleanBit b g bucket
    clean_now = had.clean

    found_now : Searches b (key_of request) found g
    found_now = searches_still b (peek (number f) into) (key_of request) found f g search.moved.pass (subst (λ n. HasBit b.shape (trace f) (number f) n) at_home clean.bit)
        looks.peeks.moved (peek_nowhere b.shape k (number f) into) found_it

    enters_once : (s : Pass) → Begins (trace g) (trace s) → PeeksInto into p s → EntersForKey b.shape (key_of request) p s
    enters_once s up peeks = let m = taken_moved b bucket p q f quiet took search in enters_for b.shape (key_of request) into p s peeks
        (came_wider b.shape (key_of request) (number f) (number p) into (trace p) (trace f) (trace g) (trace s) m.same (moved_on b _ p f m) up looks.peeks.came)

    unread_set : (s : Pass) → PeeksInto into p s → depends_on_key request ≡ false → ReadsNothing p s
    unread_set s peeks is_set = unread_if into p s (looks.none is_set) peeks

    -- the cache refuses it
    pub ends_refused : ¬ (has_room_for b.shape (span_of key value) p ≡ false) → (answer : WriteAnswer) (s : Pass) → refusal ≡ Some answer
        → RefusesUnderBit b request (reply_now b g request) g s → TakesAtMost (most_steps_of_refusal request) p s
        → Writes b request answer p s
    ends_refused room answer s is refuses steps =
        let why = subst (IsToldBy (reply_now b g request)) is told in
        let undrawn = refused_undrawn b request (reply_now b g request) p g g s quiet had_it still refuses in
        let peeks = refused_peeking b request (reply_now b g request) p g g s quiet had_it still refuses in
        let some : answer ≢ write.NoRoom = λ none. none-some (reply_now b g request) (sym (ap reply_of_write none) ∙ why.0) in
        let free : answer ≢ write.Busy = λ busy. none-some (reply_now b g request) (sym (ap reply_of_write busy) ∙ why.0) in
        let word : answer ≢ write.BucketFull = λ full. none-some (reply_now b g request) (sym (ap reply_of_write full) ∙ why.0) in
        let unstored : answer ≢ write.Stored = λ stored. subst IsRefusal (same_Some (reply_now b g request) Stored (sym why.0 ∙ ap reply_of_write stored)) why.1 in
        writes_with b request answer p s (has_rows b w request key value now asked p room) took_it.unlocked some free
        (refused_goes_on b request (reply_now b g request) p g g s quiet had_it still refuses)
        (refused_answer b request (reply_now b g request) p g g s quiet had_it still refuses answer why.0 why.1)
        (refusal_costs b request answer p s unstored some free (refused_takes b request (reply_now b g request) p g g s quiet had_it still refuses) undrawn)
        (told_steps b.shape request answer p s unstored some word free steps)
        (grows_none b.shape request p s undrawn)
        (enters_once s (moved_on b _ g s refuses.moved) peeks) (unread_set s peeks)

    -- what the refusal asks for
    pub may_tell : (answer : WriteAnswer) → refusal ≡ Some answer → IsPassOf b g × (HasCleanBit b g bucket × (bucket ≡ k × IsRefusal (reply_now b g request)))
    may_tell answer is = (looks.peeks.moved.pass, (clean_now, (at_home, (subst (IsToldBy (reply_now b g request)) is told).1)))

    clean_there : HasCleanBit b g k
    clean_there = had_it.clean

    -- what making room asks for
    pub may_make : IsPassOf b g × HasCleanBit b g bucket × IsAsFound b bucket found g
    may_make = (looks.peeks.moved.pass, clean_now, subst (λ n. IsAsFound b n found g) (sym at_home) (as_found b (key_of request) found g found_now))

    module _ (r : Pass) (room : Option Target) (makes : MakesRoom b bucket found room g r) (drawn : TakesAtMost (most_steps_of_room b.shape found room) g r) where
      made : MakesRoom b k found room g r
      made = subst (λ n. MakesRoom b n found room g r) at_home makes

      -- it finds no word
      module _ (unmade : room ≡ None) where
        none : Idles b g r × CannotGrow b k r × HasFullChain b (key_of request) r
        none = no_room b (key_of request) g g r still looks.peeks.moved.pass clean_there found room unmade found_now made

        -- what giving the bit back asks for
        pub may_end : IsPassOf b r × May b.shape (trace r) (number r) (release bucket false None)
        may_end = (none.0.moved.pass, may_free b bucket p g r quiet had none.0)

        pub ends_full : ¬ (has_room_for b.shape (span_of key value) p ≡ false) → (s : Pass) → refusal ≡ None
            → AddsAtOnce b (Freed (number r) bucket false ∷ []) r s
            → (bucket_after b.shape (trace s) bucket).holder ≡ None → s.plain ≡ r.plain → memo s ≡ memo r
            → (TakesAtMost (most_steps_of_draw b.shape) g r
            → TakesAtMost (most_steps_of_refusal request + most_steps_of_draw b.shape) p s)
            → Writes b request write.BucketFull p s
        ends_full rows s unrefused freed free plain same steps =
            let stored = subst (IsToldBy (reply_now b g request)) unrefused told in
            let freed' = subst (λ n. AddsAtOnce b (Freed (number r) n false ∷ []) r s) at_home freed in
            let free' = subst (λ n. (bucket_after b.shape (trace s) n).holder ≡ None) at_home free in
            let answer = full_answer b (key_of request) p g r s quiet had_it none.0 none.2 none.1 freed' free' plain same in
            let version = (after b.shape (seen g)).version k in
            let absent = sym (moved_at b [] g r (key_of request) none.0.moved clean_there.bit tt).stands ∙ none.2.absent in
            let adds = adds_absent request version (ap (λ o. reply_to request (is_some o) version) (sym (none_present b (key_of request) (moment_of request) g absent)) ∙ stored) in
            let undrawn = full_undrawn b (key_of request) p g r s quiet had_it none.0 none.2 none.1 freed' free' plain same in
            let peeks = full_peeking b (key_of request) p g r s quiet had_it none.0 none.2 none.1 freed' free' plain same in
            writes_with b request write.BucketFull p s (has_rows b w request key value now asked p rows) took_it.unlocked (λ e. cc) (λ e. cc)
            (full_goes_on b (key_of request) p g r s quiet had_it none.0 none.2 none.1 freed' free' plain same)
            (answer.0, adds, answer.1)
            (full_takes b (key_of request) p g r s quiet had_it none.0 none.2 none.1 freed' free' plain same, undrawn)
            (steps (unroomed_steps b (key_of request) g g r still looks.peeks.moved.pass clean_there found room unmade made drawn))
            (grows_none b.shape request p s undrawn)
            (enters_once s (begins_on (trace g) (trace r) (trace s) (moved_on b [] g r none.0.moved) (moved_on b _ r s freed.moved)) peeks) (unread_set s peeks)

      -- it is stored
      module _ (target : Target) (given : room ≡ Some target) where
        there : HasRoom b (key_of request) target g g r
        there = room_for b (key_of request) g g r still looks.peeks.moved.pass clean_there found room target given found_now made

        draws : DrawsOnce b.shape (key_of request) (number p) there.own (seen g) (trace g) (trace r)
        draws = subst (λ n. DrawsOnce b.shape (key_of request) n there.own (seen g) (trace g) (trace r)) had.moved.same there.draws

        keeps : KeepsSegments b r
        keeps = keeps_plain b there.own g r there.ready.moved there.ready.calm there.ready.plain (took_keeps b bucket p g quiet had)

        -- what storing asks for
        pub may_store : (segment row tag : ℕ) → refusal ≡ None
            → (current_of p ≡ Some segment) × (used_of p segment ≡ Some row) × AreRows b.shape row (span_of words value)
            → IsKey words → tag ≡ tag_of words → IsWithin b.limits words value
            → IsPassOf b r × (KeepsSegments b r × (IsNextRow b request segment row r
            × (Requests b request words value r × (IsKey words
            × (tag ≡ tag_of words × (HasCleanBit b r k × (IsTarget b (key_of request) target r
            × IsWithin b.limits (key_of request) (value_of request))))))))
        may_store segment row tag unrefused next key_of_words tagged within =
            let same = there.ready.plain ∙ had.plain in let a = asks w key value now request asked in
            let stored = sym (subst (IsToldBy (reply_now b g request)) unrefused told) in
            let rows : rows_of request ≡ span_of words value = asks_rows w key value now request asked ∙ ap (λ k. span_of k value) (sym copied) in
            let row_is : IsNextRow b request segment row r = record {
              current = ap (λ (x : PlainPart). x.current) same ∙ next.0;
              used = same_used p r segment same ∙ next.1;
              fits = subst (AreRows b.shape row) (sym rows) next.2;
            } in
            let asked_within : IsWithin b.limits (key_of request) (value_of request) =
            subst (λ x. IsWithin b.limits x (value_of request)) (copied ∙ sym a.0) (subst (IsWithin b.limits words) (sym a.1) within) in
            let requests : Requests b request words value r = record {
              of = (a.0 ∙ sym copied, a.1);
              stored = stored
                  ∙ (λ i. reply_to request (is_some ((sym (there.same.finds (moment_of request))) i))
                  ((sym there.same.version) i));
            } in
            (there.ready.moved.pass, (keeps, (row_is, (requests, (key_of_words, (tagged, (there.ready.clean, (there.target_is, asked_within))))))))

        pub ends_stored : ¬ (has_room_for b.shape (span_of key value) p ≡ false) → refusal ≡ None → (segment row : ℕ) (t s : Pass)
            → StoresUnderBit b request segment row r t → KeepsSegments b t → UsesRows segment (rows_of request) r t
            → AddsAtOnce b (Freed (number t) bucket true ∷ []) t s
            → (bucket_after b.shape (trace s) bucket).holder ≡ None → s.plain ≡ t.plain → memo s ≡ memo t
            → (TakesAtMost 0 g r → TakesAtMost (most_steps_of_write request) p s)
            → (TakesAtMost (most_steps_of_growth b.shape) g r
            → TakesAtMost (most_steps_of_write request + most_steps_of_growth b.shape) p s)
            → Writes b request write.Stored p s
        ends_stored rows unrefused segment row t s done kept uses freed free plain same steps grown =
            let freed' = subst (λ n. AddsAtOnce b (Freed (number t) n true ∷ []) t s) at_home freed in
            let free' = subst (λ n. (bucket_after b.shape (trace s) n).holder ≡ None) at_home free in
            let answer = stored_answer b request segment row p g r t s quiet had_it there.own there.ready done kept uses freed' free' plain same in
            let version = (after b.shape (seen g)).version k in
            let adds : standing (after b.shape (seen g)) (key_of request) ≡ None → adds_key request false ≡ true = λ absent.
            adds_absent request version (ap (λ o. reply_to request (is_some o) version)
            (sym (none_present b (key_of request) (moment_of request) g absent))
            ∙ subst (IsToldBy (reply_now b g request)) unrefused told) in
            let peeks = stored_peeking b request segment row p g r t s quiet had_it there.own there.ready done kept uses freed' free' plain same in
            writes_with b request write.Stored p s (has_rows b w request key value now asked p rows) took_it.unlocked (λ e. cc) (λ e. cc)
            (stored_goes_on b request segment row p g r t s quiet had_it there.own there.ready done kept uses freed' free' plain same) (segment, answer.0, answer.1) (
              stored_takes b request segment row p g r t s quiet had_it there.own there.ready done kept uses freed' free' plain same,
              stored_first b request segment row p g r t s quiet had_it there.own there.ready done kept uses freed' free' plain same,
            )
            (⊎_elim
            (λ none. inl (steps none))
            (λ more. inr (
              grown more.0,
              in_need_wider b.shape (key_of request) (number p) (trace g) (trace r)
                  (trace p) (trace s) (moved_on b _ p g had_it.moved)
                  (begins_on (trace r) (trace t) (trace s) (moved_on b _ r t done.2) (moved_on b _ t s freed.moved))
                  (subst (λ n. DrewInNeed b.shape (key_of request) n (trace g) (trace r)) had.moved.same more.1),
            ))
            (room_steps b (key_of request) g g r still looks.peeks.moved.pass clean_there found room target given found_now made drawn))
            (stored_grows b request segment row p g r t s quiet had_it there.own there.ready done kept uses freed' free' plain same (seen g) draws adds)
            (enters_once s (begins_on (trace g) (trace r) (trace s) (moved_on b _ g r there.ready.moved)
            (begins_on (trace r) (trace t) (trace s) (moved_on b _ r t done.2) (moved_on b _ t s freed.moved)))
            peeks) (unread_set s peeks)
