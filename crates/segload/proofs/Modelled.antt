-- With one pass, the calls of a load are served as the model serves its commands.
use Rattle.std.proofs.Common.{◌≡◌, ℕ, zero, suc, false, List, [], ◌∷◌, length, slice_get, Some, refl, sym, ap, ◌∙◌, subst, inl, inr, arith}
use Rattle.std.proofs.lemmas.Option.{none-some, same_Some}
use Rattle.segword.specs.Words.{Shape}
use Rattle.segmodel.specs.declared.answer.Answer.TheVariants as answer
use Rattle.segmodel.specs.declared.answer.Command.{Command}
use Rattle.segmodel.specs.declared.answer.Command.TheVariants as command
use Rattle.segmodel.specs.declared.answer.EvictAnswer.TheVariants as evict
use Rattle.segmodel.specs.declared.answer.RefillAnswer.TheVariants as refill
use Rattle.segmodel.specs.declared.answer.WriteAnswer.TheVariants as write
use Rattle.segmodel.specs.Words.{after, Answer, fresh, Serves, State}
use Rattle.segbase.specs.Words.{Board, Pass, seen}
use Rattle.segindex.specs.Words.{AnswersCommand}
use Rattle.segpolicy.specs.declared.load.Kind.TheVariants as kind
use Rattle.segpolicy.specs.Words.{Draws, draws_of, Kind, Load, next_load, next_of}
use Rattle.segsolo.specs.Alone.{IsAlone, IsSameButFrequencies, state_at, with_frequencies}
use Rattle.segsolo.specs.Served.{AnyDrawIsServed}
use Rattle.segsolo.proofs.AlonePass.{same_seen}
use Rattle.segsolo.proofs.AloneStarts.{starts_alone}
use Rattle.segtally.specs.declared.tally.Tally.{Tally}
use Rattle.segload.specs.declared.totals.Tallies.{Tallies}
use Rattle.segload.specs.Making.{ClientState, draws_after, load_deadline, start_of}
use Rattle.segload.specs.Calls.{asked_by, command_of, MakesCalls, MakesRoom, ServedAtOnce, ServedInNewRoom, ServedNoRoom, ServesLoad, TriesForRoom}
use Rattle.segload.specs.Loads.{CountsCommands, keys_of}
use Rattle.segload.specs.OnePass.{OnePassIsModelled, ServedByModel}
use Rattle.segload.proofs.Alike.{IsMadeByLoads, serves_alike}

-- the model came to a state, and the pass is alone at the same but for frequencies
pub record Modelled (b : Board) (Served : State → Type 0) (q : Pass) : Type 0 where
  pub alone : IsAlone b q
  pub state : State
  pub served : Served state
  pub same : IsSameButFrequencies state (state_at b.shape q)

is_made : (of : Kind) (version : ℕ) (load : Load) → IsMadeByLoads (asked_by of version load)
is_made kind.Get version load = tt
is_made kind.Gets version load = tt
is_made kind.Set version load = tt
is_made kind.Add version load = tt
is_made kind.Replace version load = tt
is_made kind.Cas version load = tt
is_made kind.Delete version load = tt

module _ (any_draw : AnyDrawIsServed) (b : Board) where
  -- ---- one call

  one_call : (asked : Command) (draw : ℕ) (given : Answer) (p q : Pass) (s : State) → IsMadeByLoads asked
      → IsAlone b p → IsSameButFrequencies s (state_at b.shape p) → AnswersCommand b asked draw given p q
      → Modelled b (Serves b.shape s asked given) q
  one_call asked draw given p q s by_load was same calls =
      let served = any_draw b p q asked draw given was calls in
      let alike = serves_alike b.shape same.0 s asked given served.1 by_load (subst (λ (o : State). Serves b.shape o asked given served.1) same.1 served.2) in record {
        alone = served.0;
        state = alike.0;
        served = alike.1;
        same = (served.3.0, served.3.1 ∙ ap (with_frequencies served.3.0) alike.2.1);
      }

  -- ---- making room

  made : (segment : ℕ) (p q : Pass) (s : State) → IsAlone b p → IsSameButFrequencies s (state_at b.shape p)
      → MakesRoom (AnswersCommand b) segment p q → Modelled b (MakesRoom (ServedByModel b.shape) segment s) q
  made segment p q s was same room =
      let out = one_call (command.Evict segment) 0 (answer.Evict (evict.Evicted room.count)) p room.emptied s tt was same room.evicts in
      let filled = one_call (command.Refill segment load_deadline) 0 (answer.Refill refill.Refilled) room.emptied q out.state tt out.alone out.same room.refills in record {
        alone = filled.alone;
        state = filled.state;
        served = record { emptied = out.state; count = room.count; evicts = out.served; refills = filled.served };
        same = filled.same;
      }

  not_made : (segment : ℕ) (p q : Pass) (s : State) → IsAlone b p → IsSameButFrequencies s (state_at b.shape p)
      → TriesForRoom (AnswersCommand b) segment false p q
      → Modelled b (TriesForRoom (ServedByModel b.shape) segment false s) q
  not_made segment p q s was same (inl not) =
      let out = one_call (command.Evict segment) 0 (answer.Evict not.told) p q s tt was same not.evicts in record {
        alone = out.alone;
        state = out.state;
        served = inl (record { told = not.told; refused = not.refused; evicts = out.served });
        same = out.same;
      }
  not_made segment p q s was same (inr not) =
      let out = one_call (command.Evict segment) 0 (answer.Evict (evict.Evicted not.count)) p not.emptied s tt was same not.evicts in
      let kept = one_call (command.Refill segment load_deadline) 0 (answer.Refill not.told) not.emptied q out.state tt out.alone out.same not.refills in record {
        alone = kept.alone;
        state = kept.state;
        served = inr (record { emptied = out.state; count = not.count; told = not.told; refused = not.refused; evicts = out.served; refills = kept.served });
        same = kept.same;
      }

  -- ---- a command

  module _ (load : Load) (told : Tally) (from to : ClientState) (p q : Pass) (s : State) (was : IsAlone b p) (same : IsSameButFrequencies s (state_at b.shape p)) where
    abbrev ByModel : State → Type 0
    ByModel state = ServesLoad (ServedByModel b.shape) load told from to s state

    asked_once : (given : Answer) (here there : Pass) (at : State) → IsAlone b here
        → IsSameButFrequencies at (state_at b.shape here)
        → AnswersCommand b (command_of from.version load) load.draw given here there
        → Modelled b (Serves b.shape at (command_of from.version load) given) there
    asked_once given here there at alone alike calls = one_call (command_of from.version load) load.draw given here there at (is_made load.kind from.version load) alone alike calls

    at_once : ServedAtOnce (AnswersCommand b) load told from to p q → Modelled b ByModel q
    at_once served =
        let one = asked_once served.given p q s was same served.answers in record {
          alone = one.alone;
          state = one.state;
          served = inl (record { given = served.given; answers = one.served; had_room = served.had_room; counted = served.counted; course = served.course });
          same = one.same;
        }

    in_new_room : ServedInNewRoom (AnswersCommand b) load told from to p q → Modelled b ByModel q
    in_new_room served =
        let none = asked_once (answer.Write write.NoRoom) p served.full s was same served.found_none in
        let room = made (next_of from.segments) served.full served.filled none.state none.alone none.same served.room in
        let again = asked_once served.given served.filled q room.state room.alone room.same served.again in record {
          alone = again.alone;
          state = again.state;
          served = inr (inl (record {
            full = none.state;
            filled = room.state;
            given = served.given;
            found_none = none.served;
            room = room.served;
            again = again.served;
            counted = served.counted;
            course = served.course;
          }));
          same = again.same;
        }

    no_room : ServedNoRoom (AnswersCommand b) load told from to p q → Modelled b ByModel q
    no_room served =
        let none = asked_once (answer.Write write.NoRoom) p served.full s was same served.found_none in
        let room = not_made (next_of from.segments) served.full q none.state none.alone none.same served.no_room in record {
          alone = room.alone;
          state = room.state;
          served = inr (inr (record { full = none.state; found_none = none.served; no_room = room.served; counted = served.counted; course = served.course }));
          same = room.same;
        }

    one_load : ServesLoad (AnswersCommand b) load told from to p q → Modelled b ByModel q
    one_load (inl served) = at_once served
    one_load (inr (inl served)) = in_new_room served
    one_load (inr (inr served)) = no_room served

  -- ---- all commands

  all_loads : (draws : Draws) (begin : ClientState) (first : Pass) (start : State) → IsAlone b first
      → IsSameButFrequencies start (state_at b.shape first)
      → (count : ℕ) (t : Tallies) (course : ClientState) (q : Pass)
      → MakesCalls (AnswersCommand b) draws begin first count t course q → Modelled b (MakesCalls (ServedByModel b.shape) draws begin start count t course) q
  all_loads draws begin first start was same zero t course q calls = record {
    alone = subst (IsAlone b) (sym calls.2) was;
    state = start;
    served = (calls.0, calls.1, refl);
    same = subst (λ x. IsSameButFrequencies start (state_at b.shape x)) (sym calls.2) same;
  }
  all_loads draws begin first start was same (suc count) t course q (told, before, from, last, calls, serves, counts) =
      let so_far = all_loads draws begin first start was same count before from last calls in
      let one = one_load (next_load (draws_after draws count)) told from course last q so_far.state so_far.alone so_far.same serves in record {
        alone = one.alone;
        state = one.state;
        served = (told, before, from, so_far.state, so_far.served, one.served, counts);
        same = one.same;
      }

-- ---- a whole load

-- a list of one has its one at place 0 alone
only : (passes : List Pass) → length passes ≡ 1 → (last : Pass) × (slice_get passes 0 ≡ Some last) × ((place : ℕ) (p : Pass) → slice_get passes place ≡ Some p → p ≡ last)
only [] long = absurd (omega (arith, long))
only (last ∷ []) long = (last, refl, there)
  where
    there : (place : ℕ) (p : Pass) → slice_get (last ∷ []) place ≡ Some p → p ≡ last
    there zero p at = sym (same_Some last p at)
    there (suc place) p at = absurd (none-some p at)
only (last ∷ other ∷ more) long = absurd (omega (arith, long))

pub one_pass_is_modelled : AnyDrawIsServed → OnePassIsModelled
one_pass_is_modelled any_draw shape seed keys commands totals counted load one at =
    subst (λ (z : Shape). (course : ClientState) × (state : State)
    × MakesCalls (ServedByModel z) (draws_of seed 0 keys) (start_of z 0) (fresh z) commands counted.tallies course state × (totals.keys ≡ keys_of state.cache))
    load.of (counts.course, run.state, run.served, load.stand ∙ stand)
  where
    b : Board
    b = load.board

    lone : (last : Pass) × (slice_get load.passes 0 ≡ Some last) × ((place : ℕ) (p : Pass) → slice_get load.passes place ≡ Some p → p ≡ last)
    lone = only load.passes (load.all ∙ one)

    last : Pass
    last = lone.0

    counts : CountsCommands load.board seed keys commands 0 load.history last counted
    counts = load.each 0 last counted lone.1 at

    starts : IsAlone b counts.first × (state_at b.shape counts.first ≡ fresh b.shape)
    starts = starts_alone b counts.first counts.new (ap (λ (z : Shape). z.passes) load.of ∙ one)

    run : Modelled b (MakesCalls (ServedByModel b.shape) (draws_of seed 0 keys) (start_of b.shape 0) (fresh b.shape) commands counted.tallies counts.course) counts.done
    run = all_loads any_draw b (draws_of seed 0 keys) (start_of b.shape 0) counts.first (fresh b.shape) starts.0
        ((λ segment. []), starts.1) commands counted.tallies counts.course counts.done counts.calls

    -- a look at the table added nothing to what the pass had seen
    seen_all : seen counts.done ≡ load.history
    seen_all = sym (same_seen b counts.done last run.alone counts.table.only.on.quiet
        counts.table.only.keeps.entries) ∙ (ap seen (sym (lone.2 load.ends.place load.ends.pass load.ends.there))
        ∙ load.ends.has_seen)

    stand : keys_of (after shape load.history) ≡ keys_of run.state.cache
    stand = ap (λ z. keys_of (after z load.history)) (sym load.of) ∙ (ap (λ h. keys_of (after b.shape h)) (sym seen_all) ∙ ap (λ (s : State). keys_of s.cache) run.same.1)
