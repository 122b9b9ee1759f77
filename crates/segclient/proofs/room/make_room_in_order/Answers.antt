use Rattle.std.proofs.Common.{◌≡◌, ℕ, ◌+◌, ◌*◌, ◌<◌, ◌≤◌, true, None, ap, subst, arith}
use Rattle.segbase.specs.Words.{Board, Pass}
use Rattle.segindex.specs.Words.{board_of}
use Rattle.segstore.proofs.Idling.{goes_same}
use Rattle.segevict.proofs.RowsOut.{goes_then}
use Rattle.segclient.specs.declared.effort.Effort.{Effort}
use Rattle.segclient.specs.PutParts.{Arranges, effort_from, GivesUp, MakesRoom, most_in_turn}
use Rattle.segclient.proofs.Calls.{arranges_as, arranges_none}
use Rattle.segclient.proofs.Rooms.{given_afresh, gives_up, PassesOver, passes_on}
use Rattle.segclient.proofs.room.make_room_in_order.Goals as goal

-- the segment was given up
room_made : (c : goal.After-was_refilled)
    → MakesRoom (board_of c.args.index.now) None c.args.policy.deadline
    (most_in_turn (board_of c.args.index.now).shape) true (effort_from 1 0 (c.loop-tried.keys + c.from-keys.result))
    c.args.pass.now c.give_up-is_refilled.new.pass
room_made c =
    let b = board_of c.args.index.now in
    let was = c.loop-tried.invariant in
    let q = c.loop-tried.pass in
    let gives = c.give_up-is_refilled in
    let segment = c.in-Some.segment in
    let more = gives.result.1 in
    let keys = c.loop-tried.keys in
    let below : c.loop-tried.tried < b.shape.segments_each = subst (λ s. c.loop-tried.tried < s.segments_each) c.shape-tried-end.ensures c.loop-tried-test.true in
    let given = subst (λ made. GivesUp b segment c.args.policy.deadline made more q gives.new.pass) c.if-is_refilled.true gives.ensures.gives_up in
    gives_up b c.args.policy.deadline (2 * c.loop-tried.tried) keys c.args.pass.now q gives.new.pass was.over segment more c.in-Some.ensures.own.0
    (most_in_turn b.shape) (keys + c.from-keys.result) (omega arith) (ap (λ n. keys + n) c.from-keys.ensures) given

-- none was given up so far
passed_over : (b : Board) (deadline most total keys : ℕ) (effort : Effort) (p q : Pass) → most ≤ total
    → effort ≡ effort_from 0 0 keys → PassesOver b deadline most keys p q
    → Arranges b None deadline total effort p q
passed_over b deadline most total keys effort p q enough is over =
    arranges_as b None deadline most total (effort_from 0 0 keys) effort p q enough
    (ap (λ (e : Effort). e.refilled) is) (ap (λ (e : Effort). e.kept) is) (ap (λ (e : Effort). e.keys) is) over

pub loop-tried-init : goal.loop-tried-init
loop-tried-init c =
    let b = board_of c.args.index.now in
    record {
      on = goes_same b c.args.pass.now c.requires.quiet;
      over = arranges_none b None c.args.policy.deadline c.args.pass.now;
      few = omega arith;
    }

pub loop-tried-preserved : goal.loop-tried-preserved
loop-tried-preserved c =
    let b = board_of c.args.index.now in
    let p = c.args.pass.now in
    let was = c.loop-tried.invariant in
    let q = c.loop-tried.pass in
    let tried = c.loop-tried.tried in
    let keys = c.loop-tried.keys in
    let gives = c.give_up-is_refilled in
    let r = gives.new.pass in
    let segment = c.in-Some.segment in
    let more = gives.result.1 in
    let sum = keys + c.from-keys.result in
    let refused = subst (λ made. GivesUp b segment c.args.policy.deadline made more q r) c.if-is_refilled.false gives.ensures.gives_up in
    record {
      on = goes_then b p q r was.on gives.ensures.on;
      over = (passes_on b c.args.policy.deadline (2 * tried) keys p q r was.over segment more c.in-Some.ensures.own.0
          (2 * (tried + 1)) sum (omega arith) (ap (λ n. keys + n) c.from-keys.ensures) refused).next;
      few = let few = was.few in let fits = gives.type_inv in let from = c.from-keys.ensures in omega (arith, few, fits, from);
    }

pub returns-then-is_refilled-clause-on : goal.returns-then-is_refilled-clause-on
returns-then-is_refilled-clause-on c = goes_then (board_of c.args.index.now) c.args.pass.now c.loop-tried.pass c.give_up-is_refilled.new.pass c.loop-tried.invariant.on c.give_up-is_refilled.ensures.on

pub returns-then-is_refilled-clause-room : goal.returns-then-is_refilled-clause-room
returns-then-is_refilled-clause-room c = λ made. room_made c

pub returns-then-is_refilled-clause-afresh : goal.returns-then-is_refilled-clause-afresh
returns-then-is_refilled-clause-afresh c = λ made.
    let b = board_of c.args.index.now in
    let q = c.loop-tried.pass in
    let gives = c.give_up-is_refilled in
    given_afresh b c.args.policy.deadline c.in-Some.segment gives.result.1 q gives.new.pass
    (subst (λ made. GivesUp b c.in-Some.segment c.args.policy.deadline made gives.result.1 q gives.new.pass) c.if-is_refilled.true gives.ensures.gives_up)

pub returns-then-is_refilled-clause-arranges : goal.returns-then-is_refilled-clause-arranges
returns-then-is_refilled-clause-arranges c = (room_made c).arranges

pub returns-in_default-clause-arranges : goal.returns-in_default-clause-arranges
returns-in_default-clause-arranges c =
    let b = board_of c.args.index.now in
    let p = c.args.pass.now in
    let below : c.loop-tried.tried < b.shape.segments_each = subst (λ s. c.loop-tried.tried < s.segments_each) c.shape-tried-end.ensures c.loop-tried-test.true in
    passed_over b c.args.policy.deadline (2 * c.loop-tried.tried) (most_in_turn b.shape) c.loop-tried.keys
    c.evicting.result p c.loop-tried.pass (omega arith) c.evicting.ensures c.loop-tried.invariant.over

pub returns-clause-arranges : goal.returns-clause-arranges
returns-clause-arranges c =
    let b = board_of c.args.index.now in
    let p = c.args.pass.now in
    let ends = ap (λ s. s.segments_each) c.shape-tried-end.ensures in
    passed_over b c.args.policy.deadline (2 * c.loop-tried.tried) (most_in_turn b.shape) c.loop-tried.keys
    c.evicting-2.result p c.loop-tried.pass (omega (arith, ends)) c.evicting-2.ensures
    c.loop-tried.invariant.over
