-- What a whole load comes to, put together.
use Rattle.std.proofs.Common.{◌≡◌, ℕ, ◌<◌, Bool, true, false, List, [], ◌∷◌, length, slice_get, Some, refl, sym, ap, subst, ◌∙◌, arith, inl, inr}
use Rattle.std.proofs.lemmas.Option.{slice_get_within, slice_get-get_or}
use Rattle.std.specs.Int.NonZero.{non_zero_u32_get}
use Rattle.segword.specs.Words.{IsValid}
use Rattle.segmodel.specs.Words.{after, Entry}
use Rattle.segmodel.specs.History as histories
use Rattle.segbase.specs.Words.{Board, mine, number, number_of, Pass, seen}
use Rattle.segindex.specs.Words.{AnswersCommand, AreAllQuiet, IsEndOfAll}
use Rattle.segindex.proofs.Made.{new_quiet}
use Rattle.segload.specs.Words.{LoadPlan, PassTotals, Totals, Worker}
use Rattle.segload.specs.Counting.{all_of, CountsRecycled}
use Rattle.segload.specs.Gates.{RanToEnd, Stops}
use Rattle.segload.specs.Making.{Makes, start_of}
use Rattle.segload.specs.Calls.{MakesCalls}
use Rattle.segload.specs.Working.{AreQuiet, course_of, draws_for, EndsAll, HasMadePlan, NoneStopped, IsFirstStopped}
use Rattle.segload.specs.Loads.{CountsCommands, keys_of, IsLoad, IsLetThrough, IsToldOfAll, IsStopped}
use Rattle.segload.proofs.Lists.{element_at}
use Rattle.segload.proofs.Ending.{ended_at}
use Rattle.segcore.proofs.Moments.{begins_on}
use Rattle.segload.specs.Lists.{AllAt}
use Rattle.segload.proofs.Counted.{counts_made}
use Rattle.segload.proofs.Made.{calls_make, makes_later}

module _ (b : Board) (may_answer : ℕ → ℕ → Bool → Type 0) (told : ℕ → ℕ → Type 0) (plan : LoadPlan) where
  -- each worker did its work
  abbrev pub AllWorked : List Worker → Type 0
  AllWorked workers = AllAt (HasMadePlan b may_answer told plan) workers

  pub are_quiet : (workers : List Worker) → AllWorked workers → AreQuiet b workers
  are_quiet workers worked n worker at = (worked n worker at).worked.quiet

  -- their passes are those of the index, all of them
  pub are_all : (workers : List Worker) (totals : List PassTotals) (passes : List Pass)
      → length workers ≡ b.shape.passes → AllWorked workers → EndsAll b plan.commands workers totals passes
      → AreAllQuiet b passes
  are_all workers totals passes long worked ends = record {
    quiet = λ n p at. (ended_at b plan.commands workers totals passes ends n p at).2.1.table.only.on.quiet;
    all = λ n below.
        let counted = ends.all in
        let one = element_at passes n (omega (arith, counted, long, below)) in
        let worker = ended_at b plan.commands workers totals passes ends n one.0 one.1 in
        (n, one.0, one.1, worker.2.1.table.only.on.same ∙ (worked n worker.0 worker.1).worked.is);
  }

  -- a pass of the index has one of its numbers
  pub numbered : (n : ℕ) (worker : Worker) (pass : ℕ) → HasMadePlan b may_answer told plan n worker → pass ≡ number_of worker.client.pass → pass < b.shape.passes
  numbered n worker pass worked is =
      let quiet = worked.worked.quiet.pass in
      subst (λ m. m < b.shape.passes) (sym (is ∙ quiet.numbered)) quiet.one_of

  -- each command of each pass was let through, where none was stopped
  pub all_let_through : (workers : List Worker) → length workers ≡ b.shape.passes → AllWorked workers → NoneStopped workers → IsLetThrough b.shape plan.commands may_answer
  all_let_through [] long worked none pass below = absurd (omega (arith, long, below))
  all_let_through (worker ∷ more) long worked none pass below =
      let there = slice_get-get_or (worker ∷ more) pass worker (omega (arith, long, below)) in
      (worked pass _ there).worked.let_through (none pass _ there)

  -- and was told of
  pub told_of_all : (workers : List Worker) → length workers ≡ b.shape.passes → AllWorked workers → NoneStopped workers → IsToldOfAll b.shape plan.commands told
  told_of_all [] long worked none pass below = absurd (omega (arith, long, below))
  told_of_all (worker ∷ more) long worked none pass below =
      let there = slice_get-get_or (worker ∷ more) pass worker (omega (arith, long, below)) in
      (worked pass _ there).worked.told_of (none pass _ there)

  ran_to_end : (n : ℕ) (worker : Worker) (is_stopped : Bool) → worker.is_stopped ≡ is_stopped → HasMadePlan b may_answer told plan n worker → RanToEnd may_answer told plan.commands n
  ran_to_end n worker true stopped worked = inr (worked.worked.stopped stopped).0
  ran_to_end n worker false runs worked = inl (worked.worked.let_through runs, worked.worked.told_of runs)

  -- the first that was stopped is the lowest of those that the gate stopped
  pub stopped_first : (workers : List Worker) (pass : ℕ) → IsValid b.shape → length workers ≡ b.shape.passes
      → AllWorked workers → IsFirstStopped workers pass → IsStopped b.shape plan.commands may_answer told pass
  stopped_first workers pass valid long worked first =
      let made = worked first.place first.worker first.there in
      let done = made.worked in
      let is : pass ≡ first.place = first.of ∙ (done.quiet.pass.numbered ∙ done.is) in
      let within = slice_get_within workers first.place first.worker first.there in record {
        valid = valid;
        one_of = numbered first.place first.worker pass made first.of;
        stops = subst (Stops may_answer told plan.commands) (sym is) (done.stopped first.stopped).0;
        lowest = λ lower below. let there = slice_get-get_or workers lower first.worker (omega (arith, is, below, within)) in
            let runs = first.first lower _ (omega (arith, is, below)) there in
            let went = (worked lower _ there).worked in
            (went.let_through runs, went.told_of runs);
        each = λ other below.
            let there = slice_get-get_or workers other first.worker (omega (arith, long, below)) in
            ran_to_end other _ _ refl (worked other _ there);
      }

  module _ (workers : List Worker) (totals : Totals) (passes : List Pass) (worked : AllWorked workers) (none : NoneStopped workers)
      (ended : EndsAll b plan.commands workers totals.passes.items passes) (history : List Entry) (end : IsEndOfAll b.shape passes history) where
    counted : (n : ℕ) (last : Pass) (of : PassTotals) → slice_get passes n ≡ Some last
        → slice_get totals.passes.items n ≡ Some of
        → CountsCommands b plan.seed (non_zero_u32_get plan.keys) plan.commands n history last of
    counted n last of there at =
        let below = slice_get_within passes n last there in
        let all = ended.all in
        let one = element_at workers n (omega (arith, below, all)) in
        let came = ended.each n one.0 of last one.1 at there in
        let look = came.table.only in
        let did = worked n one.0 one.1 in
        let done = did.worked.at_work (none n one.0 one.1) in
        let its_end = end.each n last there in
        let draws = draws_for plan n in
        let course = course_of one.0.client in
        let q = one.0.client.pass in
        let same : number last ≡ n = look.on.same ∙ did.worked.is in
        let own : mine q ≡ histories.mine n history = sym look.keeps.entries ∙ (sym its_end.mine ∙ ap (λ m. histories.mine m history) same) in
        let calls = subst (λ m. MakesCalls (AnswersCommand b) draws (start_of b.shape m) did.first plan.commands one.0.tallies course q) did.new.number done.calls in
        let counted_calls = subst (λ t. MakesCalls (AnswersCommand b) draws (start_of b.shape n) did.first plan.commands t course q) (sym came.tallies) calls in
        let quiet = new_quiet b n did.first did.new in
        let made = subst (Makes b.shape history n draws plan.commands of.tallies course) own
        (makes_later b.shape (seen q) history n draws plan.commands of.tallies course (mine q)
        (begins_on (seen q) (seen last) history look.on.seen its_end.goes_on)
        (calls_make b n draws did.first did.new quiet plan.commands of.tallies course q counted_calls)) in
        record {
          commands = came.commands;
          all = ap all_of came.tallies ∙ done.all;
          replies = counts_made b.shape history n draws plan.commands of.tallies course (histories.mine n history) made;
          recycled = subst (CountsRecycled of.recycled) own (subst (λ r. CountsRecycled r (mine q)) (sym came.recycled) done.counts);
          first = did.first;
          new = did.new;
          course = course;
          done = q;
          calls = counted_calls;
          table = came.table;
          made = made;
        }

    pub loaded : IsValid b.shape → length workers ≡ b.shape.passes → totals.keys ≡ keys_of (after b.shape history) → IsLoad b.shape plan.seed (non_zero_u32_get plan.keys) plan.commands totals
    loaded valid all stand = record {
      valid = valid;
      long = ended.counted ∙ all;
      board = b;
      of = refl;
      passes = passes;
      all = ended.all ∙ all;
      history = history;
      ends = end;
      each = counted;
      stand = stand;
    }
