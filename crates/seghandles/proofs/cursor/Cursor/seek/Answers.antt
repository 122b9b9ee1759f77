use Rattle.std.proofs.Common.{◌<◌, [], ◌∷◌, ◌++◌, length, rules, refl, inr}
use Rattle.seghandles.specs.Ending.{IsRead}
use Rattle.seghandles.proofs.Turned.{left_out, no_turn, one_turn, stops_refused}
use Rattle.seghandles.proofs.cursor.Cursor.seek.Goals as goal

pub loop-self-init : goal.loop-self-init
loop-self-init c = ([], no_turn c.args.self.now)

pub loop-self-preserved : goal.loop-self-preserved
loop-self-preserved c =
    let so = c.loop-self.invariant in
    let mid = c.loop-self.self in
    let read : IsRead mid = search rules in
    (so.0 ++ c.turn.new.self ∷ [], one_turn so.0 c.args.self.now mid c.turn.new.self so.1 read c.in-Listed.ensures)

pub returns-in-Refused : goal.returns-in-Refused
returns-in-Refused c =
    let so = c.loop-self.invariant in
    let mid = c.loop-self.self in
    let read : IsRead mid = search rules in
    let out = left_out c.in-Refused.why mid c.turn.new.self c.pop.new.self c.pop.result c.in-Refused.ensures c.pop.ensures.items c.pop.ensures.variant in
    record { mids = so.0; last = mid; closes = so.1; stops = stops_refused c.in-Refused.why mid _ read out }

pub returns-in-Gone : goal.returns-in-Gone
returns-in-Gone c =
    let so = c.loop-self.invariant in
    let mid = c.loop-self.self in
    let read : IsRead mid = search rules in
    record { mids = so.0; last = mid; closes = so.1; stops = (read, inr (refl, c.in-Gone.ensures)) }

pub returns-in-Done : goal.returns-in-Done
returns-in-Done c =
    let so = c.loop-self.invariant in
    let mid = c.loop-self.self in
    let read : IsRead mid = search rules in
    record { mids = so.0; last = mid; closes = so.1; stops = (read, c.in-Done.ensures) }

pub returns : goal.returns
returns c =
    let so = c.loop-self.invariant in
    let mid = c.loop-self.self in
    let more : mid.next < length mid.pairs.items = search rules in
    record { mids = so.0; last = mid; closes = so.1; stops = (refl, more) }
