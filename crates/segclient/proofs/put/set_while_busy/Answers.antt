use Rattle.std.proofs.Common.{◌≡◌, ◌≢◌, ◌∷◌, refl, sym, ◌∙◌, subst, arith}
use Rattle.segmodel.specs.declared.answer.WriteAnswer.TheVariants as write
use Rattle.segindex.specs.Words.{board_of}
use Rattle.segstore.proofs.Idling.{goes_same, unchanged}
use Rattle.segwrite.specs.Words.{rows_of}
use Rattle.segevict.proofs.RowsOut.{goes_then}
use Rattle.segclient.specs.declared.put.PutAnswer.TheVariants as put
use Rattle.segclient.specs.PutCalls.{sets, Makes}
use Rattle.segclient.specs.PutParts.{busy_sets, plan_of, request_of}
use Rattle.segclient.proofs.Order.{no_room_full}
use Rattle.segclient.proofs.Setting.{busy_long, busy_more, can_set, no_sets, same_room, set_more}
use Rattle.segclient.proofs.put.set_while_busy.Goals as goal

stored_is : put.Stored ≢ put.NoRoom
stored_is e = cc

full_is : put.BucketFull ≢ put.NoRoom
full_is e = cc

busy_is : put.Busy ≢ put.NoRoom
busy_is e = cc

stored_full : put.Stored ≢ put.BucketFull
stored_full e = cc

busy_full : put.Busy ≢ put.BucketFull
busy_full e = cc

pub loop-tries-init : goal.loop-tries-init
loop-tries-init c = record {
  on = goes_same (board_of c.args.index.now) c.args.pass.now c.requires.quiet;
  busy = no_sets (board_of c.args.index.now) c.args.order c.args.pass.now;
  plain = refl;
}

pub loop-tries-preserved : goal.loop-tries-preserved
loop-tries-preserved c =
    let b = board_of c.args.index.now in
    let was = c.loop-tries.invariant in
    let writes = c.in-Busy.ensures.writes in
    record {
      on = goes_then b c.args.pass.now c.loop-tries.pass c.set_once.new.pass was.on writes.on;
      busy = busy_more b c.args.order c.loop-tries.tries c.args.pass.now c.loop-tries.pass c.set_once.new.pass c.requires.timely was.busy was.plain writes;
      plain = writes.answer.0.plain ∙ was.plain;
    }

pub returns-in-Stored-clause-on : goal.returns-in-Stored-clause-on
returns-in-Stored-clause-on c = goes_then (board_of c.args.index.now) c.args.pass.now c.loop-tries.pass c.set_once.new.pass c.loop-tries.invariant.on c.in-Stored.ensures.writes.on

pub returns-in-Stored-clause-sets : goal.returns-in-Stored-clause-sets
returns-in-Stored-clause-sets c =
    let was = c.loop-tries.invariant in
    record {
      calls = sets write.Stored ∷ busy_sets c.loop-tries.tries;
      makes = set_more (board_of c.args.index.now) c.args.order write.Stored c.loop-tries.tries c.args.pass.now
          c.loop-tries.pass c.set_once.new.pass c.requires.timely was.busy was.plain tt c.in-Stored.ensures.writes;
      few = let long = busy_long c.loop-tries.tries in omega (arith, long);
      are = (c.loop-tries.tries, refl);
      no_room = λ e. absurd (stored_is e);
      full = λ e. absurd (stored_full e);
    }

pub returns-in-NoRoom-clause-sets : goal.returns-in-NoRoom-clause-sets
returns-in-NoRoom-clause-sets c =
    let b = board_of c.args.index.now in
    let was = c.loop-tries.invariant in
    let writes = c.in-NoRoom.ensures.writes in
    record {
      calls = sets write.NoRoom ∷ busy_sets c.loop-tries.tries;
      makes = set_more b c.args.order write.NoRoom c.loop-tries.tries c.args.pass.now c.loop-tries.pass c.set_once.new.pass c.requires.timely was.busy was.plain tt writes;
      few = let long = busy_long c.loop-tries.tries in omega (arith, long);
      are = (c.loop-tries.tries, refl);
      no_room = λ e. let full = writes.no_room.0 refl in let rows = rows_of (request_of c.args.order) in (
        sym (same_room b rows c.args.pass.now c.loop-tries.pass was.plain) ∙ full,
        same_room b rows c.loop-tries.pass c.set_once.new.pass (unchanged c.loop-tries.pass c.set_once.new.pass writes.answer).plain ∙ full,
      );
      full = λ e. absurd (no_room_full e);
    }

pub returns-in-BucketFull-clause-on : goal.returns-in-BucketFull-clause-on
returns-in-BucketFull-clause-on c = goes_then (board_of c.args.index.now) c.args.pass.now c.loop-tries.pass c.set_once.new.pass c.loop-tries.invariant.on c.in-BucketFull.ensures.writes.on

pub returns-in-BucketFull-clause-sets : goal.returns-in-BucketFull-clause-sets
returns-in-BucketFull-clause-sets c =
    let was = c.loop-tries.invariant in
    record {
      calls = sets write.BucketFull ∷ busy_sets c.loop-tries.tries;
      makes = set_more (board_of c.args.index.now) c.args.order write.BucketFull c.loop-tries.tries c.args.pass.now
          c.loop-tries.pass c.set_once.new.pass c.requires.timely was.busy was.plain tt
          c.in-BucketFull.ensures.writes;
      few = let long = busy_long c.loop-tries.tries in omega (arith, long);
      are = (c.loop-tries.tries, refl);
      no_room = λ e. absurd (full_is e);
      full = λ e. can_set (board_of c.args.index.now) c.args.order c.args.pass.now c.loop-tries.pass c.set_once.new.pass c.requires.timely was.plain c.in-BucketFull.ensures.writes;
    }

pub returns-clause-sets : goal.returns-clause-sets
returns-clause-sets c =
    let was = c.loop-tries.invariant in
    let all : c.loop-tries.tries ≡ 16 = omega arith in
    record {
      calls = busy_sets 16;
      makes = subst (λ n. Makes (board_of c.args.index.now) (plan_of c.args.order) (busy_sets n) c.args.pass.now c.loop-tries.pass) all was.busy;
      few = let long = busy_long 16 in omega (arith, long);
      are = refl;
      no_room = λ e. absurd (busy_is e);
      full = λ e. absurd (busy_full e);
    }
