use Rattle.std.proofs.Common.{refl, ◌∙◌, subst, arith}
use Rattle.std.specs.Prelude.{is_some, min}
use Rattle.segword.specs.Words.{most_rows}
use Rattle.segindex.specs.Words.{board_of}
use Rattle.segclient.specs.PutParts.{MakesRowsIfNone, most_for_room}
use Rattle.segclient.specs.Puts.{deadline_of}
use Rattle.segclient.proofs.Added.{counted_too, room_memo}
use Rattle.segclient.proofs.Few.{room_few}
use Rattle.segclient.proofs.Left.{most_few}
use Rattle.segclient.proofs.member.Member.make_room.Goals as goal

pub returns-clause-makes : goal.returns-clause-makes
returns-clause-makes c =
    let old = c.args.self.now in
    let b = board_of c.args.index.now in
    let room = c.make_room_by-is_made in
    let rows = min (most_rows b.limits) b.shape.rows in
    let queued = is_some old.segments.queues in
    let made = subst (λ policy. MakesRowsIfNone b queued policy.cutoff policy.deadline (most_for_room b.shape) rows room.result.0 room.result.1 old.pass room.new.pass)
    c.policy-policy.ensures room.ensures.room in
    let room_made = made.0 in
    record {
      calls = room_made.arranges.calls;
      makes = room_made.arranges.makes;
      room = room_made.room;
      deadline = room_made.until;
      refused = λ none. room_made.refused none (most_few b.limits b.shape.rows);
      spares = made.1;
      memo = room_memo b old.cutoff (deadline_of old) room_made.arranges.calls old.pass room.new.pass c.requires.member.0 room_made.arranges.makes;
      stats = c.count_effort.ensures ∙ counted_too room_made.arranges.calls room.result.1 old.stats room_made.arranges.comes;
      draws = refl;
      settings = record { number = room.ensures.on.same; clock = refl; time_to_live = refl; cutoff = refl; queues = room.ensures.queues };
      costs = let few = room_made.arranges.few in let bound = room_few b.shape in omega (arith, few, bound);
    }
