use Rattle.std.proofs.Common.{◌≡◌, ◌∙◌, All, ap, length, subst, sym}
use Rattle.segreplay.specs.Caches.{AreFresh, caches_in, caches_of, HasValidShape}
use Rattle.segreplay.specs.Lives.{lives_after, lives_of}
use Rattle.segreplay.specs.Playing.{value_of}
use Rattle.segreplay.specs.Replays.{AllPlay, totals_from}
use Rattle.segreplay.specs.Traces.{EndsTrace}
use Rattle.segreplay.proofs.Lists.{given_back}
use Rattle.segreplay.proofs.run.replay.Goals as goal

pub totals_of-requires : goal.totals_of-requires
totals_of-requires g c = subst (All HasValidShape) (c.as_slice.ensures.value ∙ sym c.as_slice-3.ensures.value) c.in-Ok-make_all.ensures.valid

pub returns-in-Ok-totals_of-clause-outcome : goal.returns-in-Ok-totals_of-clause-outcome
returns-in-Ok-totals_of-clause-outcome g c =
    let run = c.run-end.ensures.outcome in
    let players = c.in-Ok-players_of.players in
    let ends = c.run-end.new.players in
    let made = run.2 in
    let plays = subst (λ old. AllPlay run.1 old made) c.as_mut_slice.ensures.value run.4 in
    let counts = run.5 in
    let same = c.as_slice-4.ensures.value ∙ given_back players.len ends players.items players.ok.0 (counts.long ∙ plays.long) in
    let plan = c.args.plan.now in
    let caches = caches_of plan.policies.now plan.shape plan.sizes in
    let dealt = c.in-Ok-make_all.made.dealt in
    let same_caches : caches_in dealt.items ≡ caches = c.in-Ok-make_all.ensures.each ∙ (c.as_slice.ensures.value ∙ c.in-Ok.ensures) in (
      run.0,
      run.3,
      record {
        turns = run.1;
        starts = players.items;
        made = made;
        ends = ends;
        ended = subst (λ rules. EndsTrace rules (g.S.Source.is_at_end c.run-end.new.source) run.0 run.1 c.run-end.result) c.new-reading.ensures.same run.6;
        fresh = subst (λ all. AreFresh 0 (value_of plan.value_bytes) all players.items) same_caches
            (subst (λ value. AreFresh 0 value (caches_in dealt.items) players.items) c.value_of-value.ensures c.in-Ok-players_of.ensures);
        plays = plays;
        counts = counts;
        totals = c.in-Ok-totals_of.ensures
            ∙ ap (λ n. totals_from n 0 c.as_slice-4.result.now c.as_slice-3.result.now) (c.count.ensures ∙ ap length (run.7 ∙ ap (λ l. lives_after l run.1) c.new-lives.ensures))
            ∙ ap (totals_from (lives_of run.1) 0 c.as_slice-4.result.now) (c.as_slice-3.ensures.value ∙ c.in-Ok.ensures)
            ∙ ap (λ all. totals_from (lives_of run.1) 0 all caches) same;
      },
    )
