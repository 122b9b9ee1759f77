use Rattle.std.proofs.Common.{◌∙◌, ap, inl, subst}
use Rattle.segcli.specs.Commands.{ShowOutcome}
use Rattle.segcli.specs.Replayed.{replay_text}
use Rattle.segcli.specs.Streams.{output}
use Rattle.segcli.proofs.command.perform_replay.Goals as goal

pub returns-clause-outcome : goal.returns-clause-outcome
returns-clause-outcome g c =
    let out = c.in_ok-replayed.ensures.outcome in
    let o = output g.W.Sink c.args.writer.now c.show-shown.new.writer in
    inl (record {
      plan = c.plan_of.result;
      seen = out.0;
      replayed = c.in_ok-replayed.replayed;
      shown = c.show-shown.result;
      planned = c.plan_of.ensures;
      read = out.1;
      replays = out.2;
      whole = c.in_ok-replayed.ensures.whole;
      memory = c.in_ok-replayed.ensures.memory;
      shows = subst (λ text. ShowOutcome text o c.show-shown.result) (c.as_slice-3.ensures.value
          ∙ c.in_ok-text.ensures.text ∙ ap (replay_text c.args.asked.now.format) c.as_slice.ensures.value)
          c.show-shown.ensures.outcome;
      ended = c.end_of_replay.ensures.end;
    })
