-- A put as a whole: its first set, what room for it took, and how it ended.
use Rattle.std.proofs.Common.{◌≡◌, ◌≢◌, ℕ, List, Some, refl, sym, ap, ◌∙◌, subst}
use Rattle.segmodel.specs.declared.answer.WriteAnswer.TheVariants as write
use Rattle.segmodel.specs.declared.request.Request.TheVariants.{Set}
use Rattle.segbase.specs.Words.{number, Pass}
use Rattle.segindex.specs.Words.{board_of, Index, shape_of}
use Rattle.segstore.specs.Words.{GoesOn}
use Rattle.segwrite.specs.Words.{rows_of}
use Rattle.segtally.specs.Rings.{IsOwnRing}
use Rattle.segtally.specs.Tallies.{write_tally}
use Rattle.segclient.specs.declared.member.Member.{Member}
use Rattle.segclient.specs.declared.put.PutAnswer.{PutAnswer}
use Rattle.segclient.specs.declared.put.PutAnswer.TheVariants as put
use Rattle.segclient.specs.declared.segments.Policy.{Policy}
use Rattle.segclient.specs.declared.segments.Segments.{Segments}
use Rattle.segclient.specs.declared.stats.Stats.{Stats}
use Rattle.segclient.specs.Clearing.{Clears, IsCleared, Step}
use Rattle.segclient.specs.Counting.{cleared_too, counted}
use Rattle.segclient.specs.Made.{EndsPut}
use Rattle.segclient.specs.Member.{IsMember}
use Rattle.segclient.specs.Policies.{IsPolicyFor}
use Rattle.segclient.specs.PutCalls.{Plan}
use Rattle.segclient.specs.PutParts.{PutsWhole}
use Rattle.segclient.specs.Puts.{ChoosesFor, PutsFor, SetsFirst}
use Rattle.segclient.specs.Putting.{IsPutAnswer, most_calls}
use Rattle.segclient.specs.Tallies.{put_tally, write_of}
use Rattle.segclient.proofs.Added.{chosen_on, counted_too, put_memo}
use Rattle.segclient.proofs.Calls.{makes_on}
use Rattle.segclient.proofs.Cleared.{member_goes, nothing_stays, timely_stays}
use Rattle.segclient.proofs.Lasting.{put_for}
use Rattle.segclient.proofs.Steps.{clears_come}

-- what is cleared is counted before the put or behind it
counted_either_way : (told : PutAnswer) (steps : List Step) (stats : Stats)
    → cleared_too steps (counted (write_tally (write_of told)) stats) ≡ counted (put_tally told) (cleared_too steps stats)
counted_either_way put.Stored steps stats = refl
counted_either_way put.NoRoom steps stats = refl
counted_either_way put.BucketFull steps stats = refl
counted_either_way put.Busy steps stats = refl

not_written : (told : PutAnswer) → told ≢ put.Stored → write_of told ≢ write.Stored
not_written put.Stored other = absurd (other refl)
not_written put.NoRoom other = λ e. cc
not_written put.BucketFull other = λ e. cc
not_written put.Busy other = λ e. cc

-- after its first set a client is a client still
pub first_goes : (i : Index) (plan : Plan) (told : PutAnswer) (old : Member) (segments : Segments) (q : Pass)
    → IsMember i old → segments ≡ record old.segments { replaced = segments.replaced } → GoesOn (board_of i) old.pass q
    → SetsFirst (board_of i) plan told old.pass q → IsMember i (record old { pass = q; segments = segments })
first_goes i plan told old segments q member keeps on (chosen, chooses, sets) =
    let b = board_of i in
    let from = chosen_on b old.pass chosen member.0 chooses.chooses in
    let goes = member_goes i old q member on (λ source cleared.
    timely_stays b plan told chosen q from.on.quiet sets source (nothing_stays b old.pass chosen member.0 from.on from.entries source cleared)) in (
      goes.0,
      subst (λ (s : Segments). IsOwnRing (shape_of i) (number q) s.ring) (sym keeps) goes.1,
      subst (λ (s : Segments). IsCleared (shape_of i) s.source q) (sym keeps) goes.2,
    )

pub made_put : (i : Index) (time : ℕ) (key value : List ℕ) (told : PutAnswer) (policy : Policy) (old new : Member) (chosen : Pass)
    → IsMember i old → IsPolicyFor time old policy → ChoosesFor policy.window (board_of i) old.pass chosen
    → EndsPut (record {
      request = Some (Set key value policy.moment);
      cutoff = policy.cutoff;
      deadline = policy.deadline;
      window = policy.window;
    }) told (board_of i) chosen old new
    → PutsFor time key value told (board_of i) old new
made_put i time key value told policy old new chosen member is chooses ended =
    let b = board_of i in
    let from = chosen_on b old.pass chosen member.0 chooses.chooses in
    let q = ended.between.pass in
    let effort = ended.effort in
    let ends = ended.ends in
    let request = Set key value old.clock in
    let rows = rows_of request in
    let plan : Plan = record { request = Some request; cutoff = old.cutoff; deadline = policy.deadline; window = policy.window } in
    let whole : PutsWhole b plan (most_calls b.shape) told effort chosen q =
    subst (λ cutoff. PutsWhole b (record {
      request = Some (Set key value old.clock);
      cutoff = cutoff;
      deadline = policy.deadline;
      window = policy.window;
    }) (most_calls b.shape) told effort chosen q) is.cutoff
    (subst (λ moment. PutsWhole b (record {
      request = Some (Set key value moment);
      cutoff = policy.cutoff;
      deadline = policy.deadline;
      window = policy.window;
    }) (most_calls b.shape) told effort chosen q) is.moment ended.puts) in
    let on = makes_on b plan whole.calls chosen q from.on.quiet whole.makes in
    let clears = subst (λ cutoff. Clears b cutoff ends.steps q new.pass) ended.settings.cutoff ends.clears in
    record {
      until = policy.deadline;
      window = policy.window;
      life = is.life;
      deadline = is.deadline;
      asks = is.asks;
      calls = whole.calls;
      chosen = chosen;
      between = q;
      chooses = chooses;
      makes = whole.makes;
      answer = subst (λ n. IsPutAnswer b.shape n rows told whole.calls) from.on.same whole.answer;
      stored = put_for b plan (number chosen) rows told whole.calls chosen q from.on.quiet whole.answer whole.makes;
      not_stored = whole.not_stored;
      tries = whole.tries;
      full = whole.full;
      spares = whole.spares;
      steps = ends.steps;
      clears = clears;
      few_steps = ends.few_steps;
      unasked = λ other. (ends.unasked (not_written told other)).0;
      unqueued = λ none. (ends.unqueued (ended.settings.queues ∙ none)).0;
      memo = (clears_come b old.cutoff ends.steps q new.pass on.quiet clears).memo
          ∙ put_memo b plan (number chosen) rows told whole.calls chosen q from.on.quiet whole.answer whole.not_stored whole.makes ∙ from.memo;
      stats = ends.stats ∙ counted_either_way told ends.steps ended.between.stats
          ∙ ap (λ stats. counted (put_tally told) (cleared_too ends.steps stats)) (ended.counts ∙ counted_too whole.calls effort old.stats whole.comes);
      draws = ends.draws ∙ ended.draws;
      settings = record {
        number = ends.settings.number ∙ ended.settings.number;
        clock = ends.settings.clock ∙ ended.settings.clock;
        time_to_live = ends.settings.time_to_live ∙ ended.settings.time_to_live;
        cutoff = ends.settings.cutoff ∙ ended.settings.cutoff;
        queues = ends.settings.queues ∙ ended.settings.queues;
      };
      costs = whole.few;
    }
