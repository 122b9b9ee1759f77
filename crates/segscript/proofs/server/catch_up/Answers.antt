use Rattle.std.proofs.Common.{subst, sym, ◌∙◌}
use Rattle.segindex.specs.Words.{board_of}
use Rattle.segscript.specs.Passes.{CatchesUp, HaveMet}
use Rattle.segscript.proofs.Meetings.{catches_up, quiet_of, stays_there, written_back}
use Rattle.segscript.proofs.server.catch_up.Goals as goal

pub returns-then-last-place : goal.returns-then-last-place
returns-then-last-place c = stays_there (board_of c.args.index.now) c.args.last c.args.place c.args.passes.now.items
    c.if-last-place.true (quiet_of (board_of c.args.index.now) c.args.passes.now.items c.requires.quiet)

pub returns : goal.returns
returns c =
    let b = board_of c.args.index.now in
    let old = c.args.passes.now in
    let new = c.meet_at.new.passes in
    let met : HaveMet b c.args.last c.args.place old.items new = subst (λ l. HaveMet b c.args.last c.args.place l new) c.deref_mut.ensures.value c.meet_at.ensures in
    subst (CatchesUp b c.args.last c.args.place old.items) (written_back old.len new _ (old.ok.0 ∙ sym met.long))
    (catches_up b c.args.last c.args.place old.items new c.if-last-place.false (quiet_of b old.items c.requires.quiet) met)
