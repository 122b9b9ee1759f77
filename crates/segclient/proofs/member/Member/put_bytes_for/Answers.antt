use Rattle.std.proofs.Common.{◌≢◌, is_some, refl, sym, ap, ◌∙◌, subst, arith}
use Rattle.segindex.specs.Words.{board_of}
use Rattle.segclient.specs.declared.put.PutAnswer.TheVariants as put
use Rattle.segclient.specs.declared.segments.Order.{Order}
use Rattle.segclient.specs.declared.segments.Segments.{Segments}
use Rattle.segclient.specs.PutParts.{MakesPut, most_for_put, plan_of, with_effort}
use Rattle.segclient.specs.Putting.{most_calls}
use Rattle.segclient.proofs.Ended.{first_goes, made_put}
use Rattle.segclient.proofs.Few.{put_few}
use Rattle.segclient.proofs.Order.{sets_end}
use Rattle.segclient.proofs.Whole.{whole_put}
use Rattle.segclient.proofs.member.Member.put_bytes_for.Goals as goal

stored_apart : put.Stored ≢ put.NoRoom
stored_apart e = cc

stored_full : put.Stored ≢ put.BucketFull
stored_full e = cc

pub end_put-requires : goal.end_put-requires
end_put-requires c =
    let order : Order = record { key = c.args.key; value = c.args.value; policy = c.policy_for-policy.result } in
    let first = c.set_first-first in
    record {
      member = first_goes c.args.index.now (plan_of order) first.result c.args.self.now first.new.segments first.new.pass c.requires.member first.ensures.keeps first.ensures.on first.ensures.sets;
    }

pub put_making_room-requires : goal.put_making_room-requires
put_making_room-requires c =
    let order : Order = record { key = c.args.key; value = c.args.value; policy = c.policy_for-policy.result } in
    let first = c.set_first-first in
    record {
      member = first_goes c.args.index.now (plan_of order) first.result c.args.self.now first.new.segments first.new.pass c.requires.member first.ensures.keeps first.ensures.on first.ensures.sets;
      timely = c.policy_for-policy.ensures.life.within;
    }

pub returns-in-Stored-clause-puts : goal.returns-in-Stored-clause-puts
returns-in-Stored-clause-puts c =
    let b = board_of c.args.index.now in
    let old = c.args.self.now in
    let policy = c.policy_for-policy.result in
    let order : Order = record { key = c.args.key; value = c.args.value; policy = policy } in
    let plan = plan_of order in
    let first = c.set_first-first in
    let told = first.result in
    let q = first.new.pass in
    let chosen = first.ensures.sets.0 in
    let none = c.none.result in
    let most = most_for_put b.shape in
    let puts = sets_end b plan most told chosen q (omega arith) (λ e. stored_apart (sym c.in-Stored.is ∙ e)) first.ensures.sets.2 in
    made_put c.args.index.now c.args.time_to_live c.args.key.now c.args.value.now told policy old c.end_put.new.self
    chosen c.requires.member c.policy_for-policy.ensures first.ensures.sets.1
    (record {
      effort = none;
      between = record old { pass = q; segments = first.new.segments; stats = with_effort none old.stats };
      puts = whole_put b plan most (most_calls b.shape) told none chosen q (put_few b.shape) (λ full. stored_full (sym c.in-Stored.is ∙ full))
          (subst (λ e. MakesPut b plan most told e chosen q) (sym c.none.ensures) puts);
      counts = refl;
      draws = refl;
      settings = record { number = first.ensures.on.same; clock = refl; time_to_live = refl; cutoff = refl; queues = ap (λ (s : Segments). is_some s.queues) first.ensures.keeps };
      ends = c.end_put.ensures.ends;
    })

pub returns-clause-puts : goal.returns-clause-puts
returns-clause-puts c =
    let old = c.args.self.now in
    let first = c.set_first-first in
    let last = c.put_making_room in
    let chosen = first.ensures.sets.0 in
    let ended = last.ensures.puts chosen first.ensures.sets.2 in
    made_put c.args.index.now c.args.time_to_live c.args.key.now c.args.value.now last.result c.policy_for-policy.result old last.new.self
    chosen c.requires.member c.policy_for-policy.ensures first.ensures.sets.1
    (record {
      effort = ended.effort;
      between = ended.between;
      puts = ended.puts;
      counts = ended.counts;
      draws = ended.draws;
      settings = record {
        number = ended.settings.number ∙ first.ensures.on.same;
        clock = ended.settings.clock;
        time_to_live = ended.settings.time_to_live;
        cutoff = ended.settings.cutoff;
        queues = ended.settings.queues ∙ ap (λ (s : Segments). is_some s.queues) first.ensures.keeps;
      };
      ends = ended.ends;
    })
