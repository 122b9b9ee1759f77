-- What holds of the commands that a pass made so far, as it goes on and as a history grows.
use Rattle.std.proofs.Common.{◌≡◌, ℕ, zero, suc, ◌+◌, ◌<◌, List, ◌∷◌, Some, None, refl, sym, ap, ◌∙◌, subst, inl, inr, arith}
use Rattle.segword.specs.Words.{Shape}
use Rattle.segmodel.specs.declared.request.Request.TheVariants as request
use Rattle.segmodel.specs.declared.entry.Entry.TheVariants.{Refilled}
use Rattle.segmodel.specs.History as histories
use Rattle.segmodel.specs.Words.{after, Begins, Cache, Entry, key_of, reads, reads_version, Request}
use Rattle.segcore.specs.Event as event
use Rattle.segcore.proofs.Moments.{begins_on}
use Rattle.segbase.specs.Words.{Board, IsNewPass, mine, number, Pass, seen}
use Rattle.segstore.specs.Words.{GoesOn, IsQuiet}
use Rattle.segindex.specs.Words.{AnswersCommand}
use Rattle.segpolicy.specs.declared.load.Kind.TheVariants as kind
use Rattle.segpolicy.specs.Words.{after_load, Draws, Kind, Load, next_load, next_of}
use Rattle.segtally.specs.declared.tally.Tally.{Tally}
use Rattle.segtally.specs.declared.tally.Tally.TheVariants as tally
use Rattle.segtally.specs.Rings.{IsOwnRing}
use Rattle.segload.specs.declared.totals.Tallies.{Tallies}
use Rattle.segload.specs.Words.{Worker}
use Rattle.segload.specs.Counting.{with_one_more, all_of, IsFew, RecyclesFew}
use Rattle.segload.specs.Making.{ClientState, load_deadline, load_moment, AtMoment, IsReadAs, IsVersionReadAs, IsFullFor, IsWrittenAs, IsStoredAs, CameTo, ComesTo, draws_after, Makes, start_of}
use Rattle.segload.specs.Calls.{MakesCalls, ServesLoad}
use Rattle.segload.specs.Working.{course_of, HasCounted, IsAtWork}
use Rattle.segload.proofs.Answered.{HoldsNothing}
use Rattle.segload.proofs.Served.{serves_came, serves_own}
use Rattle.segload.proofs.Short.{next_short}

-- what holds of all commands so far holds of a longer history
moment_later : (shape : Shape) (history later : List Entry) (pass : ℕ) (own : List Entry) (IsSo : Cache → Type 0)
    → Begins history later → AtMoment shape history pass own IsSo → AtMoment shape later pass own IsSo
moment_later shape history later pass own IsSo more at = (at.0, begins_on at.0 history later at.1 more, at.2, at.3)

read_later : (shape : Shape) (history later : List Entry) (pass : ℕ) (own : List Entry) (key : List ℕ)
    (told : Tally) → Begins history later → IsReadAs shape history pass own key told
    → IsReadAs shape later pass own key told
read_later shape history later pass own key tally.Hit more read = (read.0, moment_later shape history later pass own (λ cache. reads cache load_moment key ≡ Some read.0) more read.1)
read_later shape history later pass own key tally.Miss more read = moment_later shape history later pass own (λ cache. reads cache load_moment key ≡ None) more read
read_later shape history later pass own key tally.Busy more read = read
read_later shape history later pass own key _ more read = absurd read

version_later : (shape : Shape) (history later : List Entry) (pass : ℕ) (own : List Entry) (key : List ℕ)
    (told : Tally) (from to : ClientState) → Begins history later
    → IsVersionReadAs shape history pass own key told from to
    → IsVersionReadAs shape later pass own key told from to
version_later shape history later pass own key tally.Hit from to more read = (
  read.0,
  moment_later shape history later pass own
      (λ cache. reads_version shape cache load_moment key ≡ Some (read.0, to.version)) more read.1,
  read.2,
)
version_later shape history later pass own key tally.Miss from to more read = (read_later shape history later pass own key tally.Miss more read.0, read.1)
version_later shape history later pass own key tally.Busy from to more read = read
version_later shape history later pass own key _ from to more read = absurd read.0

written_later : (shape : Shape) (history later : List Entry) (pass : ℕ) (asked : Request) (told : Tally)
    (before now : List Entry) → Begins history later → IsWrittenAs shape history pass asked told before now
    → IsWrittenAs shape later pass asked told before now
written_later shape history later pass asked tally.BucketFull before now more written = (
  written.0,
  written.1,
  moment_later shape history later pass before (IsFullFor shape (key_of asked)) more
      written.2,
)
written_later shape history later pass asked tally.Stored before now more written = written
written_later shape history later pass asked tally.NotStored before now more written = written
written_later shape history later pass asked tally.Exists before now more written = written
written_later shape history later pass asked tally.NotFound before now more written = written
written_later shape history later pass asked tally.Deleted before now more written = written
written_later shape history later pass asked tally.Busy before now more written = written
written_later shape history later pass asked _ before now more written = absurd written

stored_later : (shape : Shape) (history later : List Entry) (pass : ℕ) (asked : Request) (told : Tally)
    (from to : ClientState) (before now : List Entry) → Begins history later
    → IsStoredAs shape history pass asked told from to before now
    → IsStoredAs shape later pass asked told from to before now
stored_later shape history later pass asked told from to before now more (inl (written, kept)) = inl (written_later shape history later pass asked told before now more written, kept)
stored_later shape history later pass asked told from to before now more (inr ((room, emptied, inl written), turned)) =
    inr ((room, emptied, inl (written_later shape history later pass asked told (Refilled pass (next_of from.segments) load_deadline ∷ room) now more written)), turned)
stored_later shape history later pass asked told from to before now more (inr ((room, emptied, inr none), turned)) = inr ((room, emptied, inr none), turned)

came_later : (shape : Shape) (history later : List Entry) (pass : ℕ) (of : Kind) (load : Load) (told : Tally)
    (from to : ClientState) (before now : List Entry) → Begins history later
    → CameTo shape history pass of load told from to before now
    → CameTo shape later pass of load told from to before now
came_later shape history later pass kind.Get load told from to before now more came = (read_later shape history later pass before load.key told more came.0, came.1, came.2)
came_later shape history later pass kind.Gets load told from to before now more came = (version_later shape history later pass before load.key told from to more came.0, came.1)
came_later shape history later pass kind.Set load told from to before now more came =
    stored_later shape history later pass (request.Set load.key load.value load_moment) told from to before now more
    came
came_later shape history later pass kind.Add load told from to before now more came =
    stored_later shape history later pass (request.Add load.key load.value load_moment) told from to before now more
    came
came_later shape history later pass kind.Replace load told from to before now more came =
    stored_later shape history later pass (request.Replace load.key load.value load_moment) told from to before now
    more came
came_later shape history later pass kind.Cas load told from to before now more came =
    stored_later shape history later pass (request.Cas load.key load.value from.version load_moment) told from to
    before now more came
came_later shape history later pass kind.Delete load told from to before now more came = (
  written_later shape history later pass (request.Delete load.key load_moment) told before now more came.0,
  came.1,
)

pub makes_later : (shape : Shape) (history later : List Entry) (pass : ℕ) (draws : Draws) (made : ℕ) (t : Tallies)
    (course : ClientState) (own : List Entry) → Begins history later
    → Makes shape history pass draws made t course own → Makes shape later pass draws made t course own
makes_later shape history later pass draws zero t course own more makes = makes
makes_later shape history later pass draws (suc made) t course own more (told, before, from, own_before, makes, came, counts) =
    let load = next_load (draws_after draws made) in (
      told,
      before,
      from,
      own_before,
      makes_later shape history later pass draws made before from own_before more
          makes,
      came_later shape history later pass load.kind load told from course own_before own more came,
      counts,
    )

all_counted : (told : Tally) (t : Tallies) → all_of (with_one_more told t) ≡ all_of t + 1
all_counted tally.Hit t = omega arith
all_counted tally.Miss t = omega arith
all_counted tally.Stored t = omega arith
all_counted tally.NotStored t = omega arith
all_counted tally.Exists t = omega arith
all_counted tally.NotFound t = omega arith
all_counted tally.Deleted t = omega arith
all_counted tally.NoRoom t = omega arith
all_counted tally.BucketFull t = omega arith
all_counted tally.Busy t = omega arith

-- ---- the calls of all commands

-- what the calls of the commands so far came to
pub record CameSoFar (b : Board) (n : ℕ) (draws : Draws) (made : ℕ) (t : Tallies) (course : ClientState) (q : Pass) : Type 0 where
  pub quiet : IsQuiet b q
  pub same : number q ≡ n
  pub free : HoldsNothing q
  pub makes : Makes b.shape (seen q) n draws made t course (mine q)
  pub own : IsOwnRing b.shape n course.segments

module _ (b : Board) (n : ℕ) (draws : Draws) (first : Pass) (new : IsNewPass b n first) (quiet : IsQuiet b first) where
  some : 0 < b.shape.segments_each
  some = quiet.pass.valid.0.0.1.0

  came_so_far : (made : ℕ) (t : Tallies) (course : ClientState) (q : Pass) → MakesCalls (AnswersCommand b) draws (start_of b.shape n) first made t course q → CameSoFar b n draws made t course q
  came_so_far zero t course q calls = record {
    quiet = subst (IsQuiet b) (sym calls.2) quiet;
    same = ap number calls.2 ∙ new.number;
    free = subst HoldsNothing (sym calls.2) (new.plain.locked, new.holding);
    makes = (calls.0, calls.1, ap mine calls.2 ∙ ap (λ t. histories.mine (number first) (event.seen t)) new.nothing);
    own = subst (λ c. IsOwnRing b.shape n c.segments) (sym calls.1) (refl, refl, some);
  }
  came_so_far (suc made) t course q (told, before, from, last, calls, served, counts) =
      let load = next_load (draws_after draws made) in
      let was = came_so_far made before from last calls in
      let one = serves_came b load told from course last q was.quiet was.free
      (subst (λ m. IsOwnRing b.shape m from.segments) (sym was.same) was.own) (next_short (draws_after draws made)) served in record {
        quiet = one.on.quiet;
        same = one.on.same ∙ was.same;
        free = one.free;
        makes = (
          told,
          before,
          from,
          mine last,
          makes_later b.shape (seen last) (seen q) n draws made before from (mine last) one.on.seen was.makes,
          subst (λ m. ComesTo b.shape (seen q) m load told from course (mine last) (mine q)) was.same one.came,
          counts,
        );
        own = serves_own b n load told from course last q some served was.own;
      }

  pub calls_make : (made : ℕ) (t : Tallies) (course : ClientState) (q : Pass)
      → MakesCalls (AnswersCommand b) draws (start_of b.shape n) first made t course q
      → Makes b.shape (seen q) n draws made t course (mine q)
  calls_make made t course q calls = (came_so_far made t course q calls).makes

-- a pass at its load that makes the next command of its workload, and counts what it came to
pub works_on : (b : Board) (draws : Draws) (first : Pass) (made : ℕ) (told : Tally) (worker later : Worker) → IsAtWork b draws first made worker → GoesOn b worker.client.pass later.client.pass
    → ServesLoad (AnswersCommand b) (next_load worker.workload) told (course_of worker.client) (course_of later.client) worker.client.pass later.client.pass
    → later.workload ≡ after_load worker.workload → later.tallies ≡ with_one_more told worker.tallies
    → HasCounted later.client → RecyclesFew worker.client.recycled later.client.recycled
    → IsAtWork b draws first (made + 1) later
works_on b draws first made told worker later was on serves after counts recycled few = record {
  quiet = on.quiet;
  workload = subst (λ n. later.workload ≡ draws_after draws n) one (after ∙ ap after_load was.workload);
  calls = subst (λ n. MakesCalls (AnswersCommand b) draws (start_of b.shape (number first)) first n later.tallies (course_of later.client) later.client.pass) one more;
  all = ap all_of counts ∙ (all_counted told worker.tallies ∙ ap (λ n. n + 1) was.all);
  counts = recycled;
  few = still_few;
}
  where
    one : suc made ≡ made + 1
    one = omega arith

    still_few : IsFew (made + 1) later.client.recycled
    still_few =
        let evicted = few.evictions in
        let evictions = was.few.evictions in
        let refilled = few.refillings in
        let refillings = was.few.refillings in record {
          evictions = omega (arith, evicted, evictions);
          refillings = omega (arith, refilled, refillings);
        }

    more : MakesCalls (AnswersCommand b) draws (start_of b.shape (number first)) first (suc made) later.tallies (course_of later.client) later.client.pass
    more = (
      told,
      worker.tallies,
      course_of worker.client,
      worker.client.pass,
      was.calls,
      subst (λ d. ServesLoad (AnswersCommand b) (next_load d) told (course_of worker.client) (course_of later.client) worker.client.pass later.client.pass) was.workload serves,
      counts,
    )
