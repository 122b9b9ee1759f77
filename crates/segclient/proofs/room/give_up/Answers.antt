use Rattle.std.proofs.Common.{refl, inr}
use Rattle.segindex.specs.Words.{board_of}
use Rattle.segevict.proofs.RowsOut.{goes_then}
use Rattle.segclient.proofs.Rooms.{own_known}
use Rattle.segclient.proofs.room.give_up.Goals as goal

pub unreachable-requires-in-NotYours : goal.unreachable-requires-in-NotYours
unreachable-requires-in-NotYours c = own_known (board_of c.args.index.now) c.args.pass.now c.args.segment c.requires.quiet c.requires.own (c.in-NotYours.ensures.evicts.not_yours.0 refl)

pub returns-in-Refilled-clause-on : goal.returns-in-Refilled-clause-on
returns-in-Refilled-clause-on c = goes_then (board_of c.args.index.now) c.args.pass.now c.evict.new.pass c.refill.new.pass c.in-Evicted.ensures.evicts.on c.in-Refilled.ensures.refills.on

pub returns-in-Held-clause-on : goal.returns-in-Held-clause-on
returns-in-Held-clause-on c = goes_then (board_of c.args.index.now) c.args.pass.now c.evict.new.pass c.refill.new.pass c.in-Evicted.ensures.evicts.on c.in-Held.ensures.refills.on

pub returns-in-Held-clause-gives_up : goal.returns-in-Held-clause-gives_up
returns-in-Held-clause-gives_up c = inr (c.evict.new.pass, c.in-Evicted.ensures.evicts, c.in-Held.ensures.refills)
