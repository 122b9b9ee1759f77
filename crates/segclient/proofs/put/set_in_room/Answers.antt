use Rattle.std.proofs.Common.{◌≢◌, ◌+◌, refl, sym, ap, ◌∙◌, subst, arith}
use Rattle.std.proofs.lemmas.Bool.{false≢true}
use Rattle.segindex.specs.Words.{board_of}
use Rattle.segstore.proofs.Idling.{goes_same}
use Rattle.segevict.proofs.RowsOut.{goes_then}
use Rattle.segclient.specs.declared.put.PutAnswer.TheVariants as put
use Rattle.segclient.specs.declared.effort.Effort.{Effort}
use Rattle.segclient.specs.PutParts.{effort_from, MakesPut, most_for_room, most_for_set, plan_of, SetsIfTimely}
use Rattle.segclient.proofs.Calls.{both}
use Rattle.segclient.proofs.Cleared.{sets_stay}
use Rattle.segclient.proofs.Order.{as_many, lacked, no_room_end, none_more, room_on, sets_end, sets_on}
use Rattle.segclient.proofs.Setting.{not_outside}
use Rattle.segclient.proofs.put.set_in_room.Goals as goal

pub returns-in_default : goal.returns-in_default
returns-in_default c =
    let b = board_of c.args.index.now in
    let p = c.args.pass.now in
    let plan = plan_of c.args.order in
    record {
      on = goes_same b p c.requires.quiet;
      own = c.requires.own;
      queues = refl;
      cleared = c.requires.cleared;
      few = (
        let x = ap (λ (e : Effort). e.refilled) c.none.ensures in omega (arith, x),
        let x = ap (λ (e : Effort). e.kept) c.none.ensures in omega (arith, x),
        let x = ap (λ (e : Effort). e.keys) c.none.ensures in omega (arith, x),
      );
      sets = λ start is. subst (λ e. MakesPut b plan (most_for_set b.shape) c.args.told e start p)
          (sym c.none.ensures) (sets_end b plan (most_for_set b.shape) c.args.told start p (omega arith)
          c.in_default.not-NoRoom is);
    }

pub returns-then-not-is_made-clause-sets : goal.returns-then-not-is_made-clause-sets
returns-then-not-is_made-clause-sets c = λ start is.
    let b = board_of c.args.index.now in
    let p = c.args.pass.now in
    let plan = plan_of c.args.order in
    let room = c.make_room_for-is_made in
    let most = most_for_room b.shape in
    let none = effort_from 0 0 0 in
    let first = lacked b plan start p (subst (λ t. SetsIfTimely b plan t start p) c.in-NoRoom.is is) in
    as_many b plan (16 + most) (most_for_set b.shape) put.NoRoom (both none room.result.1) room.result.1 start room.new.pass (omega arith) (none_more room.result.1)
    (no_room_end b plan 16 none start p room.new.pass first most room.result.0 room.result.1 room.ensures.room c.if-not-is_made.true)

-- what was refilled has a deadline that is asked
pub set_while_busy-requires : goal.set_while_busy-requires
set_while_busy-requires c =
    let room = c.make_room_for-is_made in
    let order = c.args.order in
    record {
      quiet = room.ensures.on.quiet;
      timely = not_outside order.policy.window order.policy.deadline room.new.pass (room.ensures.room.until c.if-not-is_made.false) c.requires.timely;
    }

pub returns-clause-on : goal.returns-clause-on
returns-clause-on c = goes_then (board_of c.args.index.now) c.args.pass.now c.make_room_for-is_made.new.pass c.set_while_busy.new.pass c.make_room_for-is_made.ensures.on c.set_while_busy.ensures.on

pub returns-clause-cleared : goal.returns-clause-cleared
returns-clause-cleared c =
    let b = board_of c.args.index.now in
    let room = c.make_room_for-is_made in
    let last = c.set_while_busy in
    sets_stay b (plan_of c.args.order) last.result room.new.pass last.new.pass room.ensures.on.quiet last.ensures.sets room.new.segments.source room.ensures.cleared

pub returns-clause-sets : goal.returns-clause-sets
returns-clause-sets c = λ start is.
    let b = board_of c.args.index.now in
    let p = c.args.pass.now in
    let plan = plan_of c.args.order in
    let room = c.make_room_for-is_made in
    let last = c.set_while_busy in
    let most = most_for_room b.shape in
    let none = effort_from 0 0 0 in
    let first = lacked b plan start p (subst (λ t. SetsIfTimely b plan t start p) c.in-NoRoom.is is) in
    let on = room_on b plan 16 none start p room.new.pass first most room.result.0 room.result.1 room.ensures.room in
    let left = room.ensures.room.room ∙ c.if-not-is_made.false in
    let other : last.result ≢ put.NoRoom = λ lacks. false≢true (sym (last.ensures.sets.no_room lacks).0 ∙ left) in
    as_many b plan (16 + most + 16) (most_for_set b.shape) last.result (both none room.result.1) room.result.1 start last.new.pass (omega arith) (none_more room.result.1)
    (sets_on b plan (16 + most) (both none room.result.1) start room.new.pass last.new.pass on last.result other left last.ensures.sets)
