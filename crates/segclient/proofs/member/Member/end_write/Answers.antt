use Rattle.std.proofs.Common.{ap, ◌∙◌}
use Rattle.segclient.specs.Counting.{cleared_too, counted}
use Rattle.segclient.proofs.Steps.{steps_counted}
use Rattle.segclient.proofs.member.Member.end_write.Goals as goal

pub returns-clause-ends : goal.returns-clause-ends
returns-clause-ends c =
    let old = c.args.self.now in
    let effort = c.clear_then-effort in
    let then = effort.ensures.clears in
    let some = then.some in
    record {
      steps = some.steps;
      clears = some.clears;
      few_steps = some.few;
      unasked = then.unasked;
      unqueued = then.unqueued;
      stats = c.count_effort.ensures ∙ steps_counted some.steps effort.result effort.new.self.stats some.comes
          ∙ ap (cleared_too some.steps) (then.stats ∙ c.count.ensures ∙ ap (λ tally. counted tally old.stats) c.of_write.ensures);
      draws = then.draws;
      settings = record { number = then.settings.number; clock = then.settings.clock; time_to_live = then.settings.time_to_live; cutoff = then.settings.cutoff; queues = then.settings.queues };
    }
