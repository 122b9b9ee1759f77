use Rattle.std.proofs.Common.{refl, ap, ◌∙◌}
use Rattle.segindex.specs.Words.{shape_of}
use Rattle.segstore.specs.Words.{memo}
use Rattle.segclient.specs.Puts.{Puts}
use Rattle.seghandles.specs.Guest.{At}
use Rattle.seghandles.proofs.Made.{at_moment, makes_call}
use Rattle.seghandles.proofs.Rows.{row_stays}
use Rattle.seghandles.proofs.guest.Guest.put.Goals as goal

pub invariant_of-self-clause-row : goal.invariant_of-self-clause-row
invariant_of-self-clause-row c =
    let self = c.args.self.now in
    row_stays (shape_of self.share.index.value) self.member.pass c.put_bytes.new.self.pass self.share.held (c.put_bytes.ensures.puts.memo ∙ ap memo c.set_now.ensures.sets.rest.pass) self.row

pub returns : goal.returns
returns c =
    let Made = Puts c.args.key.now c.args.value.now c.put_bytes.result in
    makes_call (At c.args.now Made) _ c.args.self.now _ c.index.ensures
    (at_moment c.args.now Made _ c.args.self.now.member c.set_now.new.self c.put_bytes.new.self c.set_now.ensures.sets c.put_bytes.ensures.puts) refl refl
