-- What the calls of a command of a load came to in the history.
use Rattle.std.proofs.Common.{◌≡◌, ◌≢◌, ℕ, ◌+◌, ◌<◌, true, false, refl, sym, ap, ◌∙◌, subst, inl, inr, arith}
use Rattle.segmodel.specs.declared.answer.Answer.TheVariants as answer
use Rattle.segmodel.specs.declared.answer.GetsAnswer.TheVariants as gets
use Rattle.segmodel.specs.declared.answer.WriteAnswer.TheVariants as write
use Rattle.segmodel.specs.declared.answer.EvictAnswer.TheVariants as evict
use Rattle.segmodel.specs.declared.answer.RefillAnswer.TheVariants as refill
use Rattle.segmodel.specs.Words.{Answer, RefillAnswer}
use Rattle.segbase.specs.Words.{Board, mine, number, Pass, seen}
use Rattle.segstore.specs.Words.{GoesOn, IsQuiet}
use Rattle.segevict.proofs.RowsOut.{goes_then}
use Rattle.segindex.specs.Words.{AnswersCommand}
use Rattle.segpolicy.specs.declared.load.Kind.TheVariants as kind
use Rattle.segpolicy.specs.Words.{Cycle, Kind, Load, next_of}
use Rattle.segtally.specs.declared.tally.Tally.{Tally}
use Rattle.segtally.specs.declared.tally.Tally.TheVariants as tally
use Rattle.segtally.specs.Rings.{IsOwnRing}
use Rattle.segtally.proofs.Turns.{own_turned}
use Rattle.segload.specs.Making.{ClientState, CameTo, ComesTo, turned_on}
use Rattle.segload.specs.Calls.{asked_by, course_after, tally_of, MakesRoom, IsNotEvicted, IsNotRefilled, TriesForRoom, ServedAtOnce, ServedInNewRoom, ServedNoRoom, ServesLoad}
use Rattle.segload.proofs.Answered.{came, came_again, came_nowhere, command_free, empties, evict_free, refill_free, is_refilled, not_evicted, room_made, HoldsNothing, GivesUpSegment}
use Rattle.segload.proofs.Short.{IsShort}

-- ---- one call

-- a call that a command of a load names leads on
pub command_on : (b : Board) (of : Kind) (version : ℕ) (load : Load) (draw : ℕ) (told : Answer) (p q : Pass) → AnswersCommand b (asked_by of version load) draw told p q → GoesOn b p q
command_on b kind.Get version load draw (answer.Get told) p q is = is.on
command_on b kind.Gets version load draw (answer.Gets told) p q is = is.on
command_on b kind.Set version load draw (answer.Write told) p q is = is.on
command_on b kind.Add version load draw (answer.Write told) p q is = is.on
command_on b kind.Replace version load draw (answer.Write told) p q is = is.on
command_on b kind.Cas version load draw (answer.Write told) p q is = is.on
command_on b kind.Delete version load draw (answer.Delete told) p q is = is.on
command_on b of version load draw told p q is = absurd is

-- ---- the ring

course_kept : (given : Answer) (course : ClientState) → (course_after given course).segments ≡ course.segments
course_kept (answer.Gets (gets.Found value version)) course = refl
course_kept (answer.Gets gets.Miss) course = refl
course_kept (answer.Gets gets.Busy) course = refl
course_kept _ course = refl

pub serves_own : (b : Board) (n : ℕ) (load : Load) (told : Tally) (from to : ClientState) (p q : Pass)
    → 0 < b.shape.segments_each → ServesLoad (AnswersCommand b) load told from to p q
    → IsOwnRing b.shape n from.segments → IsOwnRing b.shape n to.segments
serves_own b n load told from to p q some (inl served) own = subst (IsOwnRing b.shape n) (sym (ap (λ c. c.segments) served.course ∙ course_kept served.given from)) own
serves_own b n load told from to p q some (inr (inl served)) own = subst (λ c. IsOwnRing b.shape n c.segments) (sym served.course) (own_turned b.shape n from.segments some own)
serves_own b n load told from to p q some (inr (inr served)) own = subst (λ c. IsOwnRing b.shape n c.segments) (sym served.course) (own_turned b.shape n from.segments some own)

-- ---- making room

-- what making room came to
record Tried (b : Board) (ring : Cycle) (p q : Pass) : Type 0 where
  on : GoesOn b p q
  free : HoldsNothing q

module _ (b : Board) (ring : Cycle) (p q : Pass) (quiet : IsQuiet b p) (free : HoldsNothing p) (own : IsOwnRing b.shape (number p) ring) where
  within : next_of ring < ring.first + ring.count
  within = let less = own.2 in omega (arith, less)

  made : MakesRoom (AnswersCommand b) (next_of ring) p q → Tried b ring p q × GivesUpSegment b.shape (next_of ring) true p q
  made room =
      let emptied_free = evict_free b.shape (next_of ring) (evict.Evicted room.count) p room.emptied room.evicts.answer free in (
        record {
          on = goes_then b p room.emptied q room.evicts.on room.refills.on;
          free = refill_free (next_of ring) _ refill.Refilled room.emptied q room.refills.answer emptied_free;
        },
        room_made b ring (next_of ring) room.count refill.Refilled p room.emptied q quiet emptied_free own within
            room.evicts.on room.refills.on room.evicts.answer room.refills.not_yours room.refills.in_use
            room.refills.answer,
      )

  not_out : IsNotEvicted (AnswersCommand b) (next_of ring) p q → Tried b ring p q × GivesUpSegment b.shape (next_of ring) false p q
  not_out not = (
    record { on = not.evicts.on; free = evict_free b.shape (next_of ring) not.told p q not.evicts.answer free },
    (
      empties b.shape (next_of ring) not.told p q not.evicts.answer,
      not_evicted b ring (next_of ring) not.told p q quiet free own within not.evicts.on not.evicts.not_yours not.evicts.answer not.refused,
    ),
  )

  is_not : (told : RefillAnswer) → told ≢ refill.Refilled → is_refilled told ≡ false
  is_not refill.Refilled ne = absurd (ne refl)
  is_not refill.NotYours ne = refl
  is_not refill.NotEvicted ne = refl
  is_not refill.Held ne = refl

  not_filled : IsNotRefilled (AnswersCommand b) (next_of ring) p q → Tried b ring p q × GivesUpSegment b.shape (next_of ring) false p q
  not_filled not =
      let emptied_free = evict_free b.shape (next_of ring) (evict.Evicted not.count) p not.emptied not.evicts.answer free in (
        record {
          on = goes_then b p not.emptied q not.evicts.on not.refills.on;
          free = refill_free (next_of ring) _ not.told not.emptied q not.refills.answer emptied_free;
        },
        subst (λ made. GivesUpSegment b.shape (next_of ring) made p q) (is_not not.told not.refused)
            (room_made b ring (next_of ring) not.count not.told p not.emptied q quiet emptied_free own within
            not.evicts.on not.refills.on not.evicts.answer not.refills.not_yours not.refills.in_use
            not.refills.answer),
      )

  not_made : TriesForRoom (AnswersCommand b) (next_of ring) false p q → Tried b ring p q × GivesUpSegment b.shape (next_of ring) false p q
  not_made (inl not) = not_out not
  not_made (inr not) = not_filled not

-- ---- a command

-- what a command came to
pub record Came (b : Board) (load : Load) (told : Tally) (from to : ClientState) (p q : Pass) : Type 0 where
  pub on : GoesOn b p q
  pub free : HoldsNothing q
  pub came : ComesTo b.shape (seen q) (number p) load told from to (mine p) (mine q)

module _ (b : Board) (load : Load) (told : Tally) (from to : ClientState) (p q : Pass) (quiet : IsQuiet b p) (free : HoldsNothing p) (own : IsOwnRing b.shape (number p) from.segments) where
  abbrev As : Tally → ClientState → Type 0
  As t c = CameTo b.shape (seen q) (number p) load.kind load t from c (mine p) (mine q)

  counted : (t : Tally) (c : ClientState) → told ≡ t → to ≡ c → As t c → As told to
  counted t c is goes came = subst (λ x. As x to) (sym is) (subst (As t) (sym goes) came)

  at_once : ServedAtOnce (AnswersCommand b) load told from to p q → Came b load told from to p q
  at_once served =
      let on = command_on b load.kind from.version load load.draw served.given p q served.answers in record {
        on = on;
        free = command_free b load.kind from.version load load.draw served.given p q served.answers free;
        came = counted (tally_of served.given) (course_after served.given from) served.counted served.course
            (came b load.kind load load.draw served.given from p q served.had_room quiet free on served.answers);
      }

  module _ (full : Pass) (none : AnswersCommand b (asked_by load.kind from.version load) load.draw (answer.Write write.NoRoom) p full) where
    full_on : GoesOn b p full
    full_on = command_on b load.kind from.version load load.draw (answer.Write write.NoRoom) p full none

    full_free : HoldsNothing full
    full_free = command_free b load.kind from.version load load.draw (answer.Write write.NoRoom) p full none free

    full_own : IsOwnRing b.shape (number full) from.segments
    full_own = subst (λ n. IsOwnRing b.shape n from.segments) (sym full_on.same) own

  in_new_room : IsShort load → ServedInNewRoom (AnswersCommand b) load told from to p q → Came b load told from to p q
  in_new_room one served =
      let full = served.full in let filled = served.filled in
      let on = full_on full served.found_none in
      let tried = made b from.segments full filled on.quiet (full_free full served.found_none) (full_own full served.found_none) served.room in
      let again_on = command_on b load.kind from.version load load.draw served.given filled q served.again in record {
        on = goes_then b p full q on (goes_then b full filled q tried.0.on again_on);
        free = command_free b load.kind from.version load load.draw served.given filled q served.again tried.0.free;
        came = counted (tally_of served.given) (turned_on from) served.counted served.course
            (came_again b load.kind load load.draw served.given from (turned_on from) p full filled q one served.found_none tried.0.on tried.0.free tried.1 refl served.again);
      }

  no_room : ServedNoRoom (AnswersCommand b) load told from to p q → Came b load told from to p q
  no_room served =
      let full = served.full in
      let on = full_on full served.found_none in
      let tried = not_made b from.segments full q on.quiet (full_free full served.found_none) (full_own full served.found_none) served.no_room in record {
        on = goes_then b p full q on tried.0.on;
        free = tried.0.free;
        came = counted tally.NoRoom (turned_on from) served.counted served.course
            (came_nowhere b load.kind load load.draw from (turned_on from) p full q served.found_none tried.1 refl);
      }

  pub serves_came : IsShort load → ServesLoad (AnswersCommand b) load told from to p q → Came b load told from to p q
  serves_came one (inl served) = at_once served
  serves_came one (inr (inl served)) = in_new_room one served
  serves_came one (inr (inr served)) = no_room served
