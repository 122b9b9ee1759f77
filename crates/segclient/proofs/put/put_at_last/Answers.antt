use Rattle.std.proofs.Common.{refl, sym, subst, arith}
use Rattle.segindex.specs.Words.{board_of}
use Rattle.segevict.specs.Words.{FindsOwn}
use Rattle.segevict.proofs.RowsOut.{goes_then}
use Rattle.segclient.specs.Putting.{most_calls}
use Rattle.segclient.specs.PutParts.{MakesPut, most_for_set, plan_of, PutsWhole, request_of}
use Rattle.segclient.proofs.Cleared.{look_stays, timely_stays}
use Rattle.segclient.proofs.Whole.{whole_none, whole_put, whole_row}
use Rattle.segclient.proofs.put.put_at_last.Goals as goal

pub returns-in_default : goal.returns-in_default
returns-in_default c =
    let b = board_of c.args.index.now in
    let one = c.set_in_room-told in
    record {
      on = one.ensures.on;
      own = one.ensures.own;
      queues = one.ensures.queues;
      cleared = one.ensures.cleared;
      puts = λ start is. whole_put b (plan_of c.args.order) (most_for_set b.shape) (most_calls b.shape) one.result.0 one.result.1 start one.new.pass (omega arith)
          c.in_default.not-BucketFull (one.ensures.sets start is);
    }

pub returns-in_default-own_to_evict-clause-on : goal.returns-in_default-own_to_evict-clause-on
returns-in_default-own_to_evict-clause-on c =
    goes_then (board_of c.args.index.now) c.args.pass.now c.set_in_room-told.new.pass c.own_to_evict.new.pass c.set_in_room-told.ensures.on c.own_to_evict.ensures.finds.on

pub returns-in_default-own_to_evict-clause-cleared : goal.returns-in_default-own_to_evict-clause-cleared
returns-in_default-own_to_evict-clause-cleared c =
    let one = c.set_in_room-told in
    look_stays (board_of c.args.index.now) one.new.pass c.own_to_evict.new.pass one.ensures.on.quiet c.own_to_evict.result c.own_to_evict.ensures.finds one.new.segments.source one.ensures.cleared

pub returns-in_default-own_to_evict-clause-puts : goal.returns-in_default-own_to_evict-clause-puts
returns-in_default-own_to_evict-clause-puts c = λ start is.
    let b = board_of c.args.index.now in
    let plan = plan_of c.args.order in
    let one = c.set_in_room-told in
    let most = most_for_set b.shape in
    let full = subst (λ t. MakesPut b plan most t one.result.1 start one.new.pass) c.in-BucketFull.is (one.ensures.sets start is) in
    let none = subst (λ found. FindsOwn b found one.new.pass c.own_to_evict.new.pass) c.in_default-own_to_evict.is c.own_to_evict.ensures.finds in
    whole_none b plan most (most_calls b.shape) one.result.1 start one.new.pass full (request_of c.args.order, refl) c.own_to_evict.new.pass (omega arith) none

pub take_out-requires-clause-cleared : goal.take_out-requires-clause-cleared
take_out-requires-clause-cleared c =
    let one = c.set_in_room-told in
    look_stays (board_of c.args.index.now) one.new.pass c.own_to_evict.new.pass one.ensures.on.quiet c.own_to_evict.result c.own_to_evict.ensures.finds one.new.segments.source one.ensures.cleared

pub returns-clause-on : goal.returns-clause-on
returns-clause-on c =
    let b = board_of c.args.index.now in
    let p = c.args.pass.now in
    let one = c.set_in_room-told.new.pass in
    let looked = c.own_to_evict.new.pass in
    let out = c.take_out.new.pass in
    goes_then b p out c.set_if_timely-told.new.pass
    (goes_then b p looked out (goes_then b p one looked c.set_in_room-told.ensures.on c.own_to_evict.ensures.finds.on) c.take_out.ensures.on)
    c.set_if_timely-told.ensures.on

pub returns-clause-cleared : goal.returns-clause-cleared
returns-clause-cleared c =
    let b = board_of c.args.index.now in
    let out = c.take_out in
    let last = c.set_if_timely-told in
    timely_stays b (plan_of c.args.order) last.result out.new.pass last.new.pass out.ensures.on.quiet last.ensures.sets out.new.segments.source out.ensures.cleared

pub returns-clause-puts : goal.returns-clause-puts
returns-clause-puts c = λ start is.
    let b = board_of c.args.index.now in
    let plan = plan_of c.args.order in
    let one = c.set_in_room-told in
    let most = most_for_set b.shape in
    let looked = c.own_to_evict in
    let out = c.take_out in
    let last = c.set_if_timely-told in
    let row = c.in-Some.row in
    let full = subst (λ t. MakesPut b plan most t one.result.1 start one.new.pass) c.in-BucketFull.is (one.ensures.sets start is) in
    let finds = subst (λ found. FindsOwn b found one.new.pass looked.new.pass) c.in-Some.is looked.ensures.finds in
    subst (λ effort. PutsWhole b plan (most_calls b.shape) last.result effort start last.new.pass) (sym c.plus-effort.ensures)
    (whole_row b plan most (most_calls b.shape) one.result.1 start one.new.pass full (request_of c.args.order, refl) row out.result looked.new.pass out.new.pass last.new.pass finds out.ensures.takes
    last.result (omega arith) last.ensures.sets)
