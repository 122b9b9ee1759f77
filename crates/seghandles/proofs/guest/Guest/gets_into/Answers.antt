use Rattle.std.proofs.Common.{refl, ap, ◌∙◌}
use Rattle.segindex.specs.Words.{shape_of}
use Rattle.segstore.specs.Words.{memo}
use Rattle.segclient.specs.Made.{GetsVersionInto}
use Rattle.seghandles.specs.Guest.{At}
use Rattle.seghandles.proofs.Made.{at_moment, makes_call}
use Rattle.seghandles.proofs.Rows.{row_stays}
use Rattle.seghandles.proofs.guest.Guest.gets_into.Goals as goal

pub invariant_of-self-clause-row : goal.invariant_of-self-clause-row
invariant_of-self-clause-row c =
    let self = c.args.self.now in
    row_stays (shape_of self.share.index.value) self.member.pass c.gets_into.new.self.pass self.share.held
    (c.gets_into.ensures.reads.reads.reads.keeps.memo ∙ ap memo c.set_now.ensures.sets.rest.pass) self.row

pub returns : goal.returns
returns c =
    let Made = GetsVersionInto c.args.key.now c.gets_into.result c.args.bytes.now c.gets_into.new.bytes in
    makes_call (At c.args.now Made) _ c.args.self.now _ c.index.ensures
    (at_moment c.args.now Made _ c.args.self.now.member c.set_now.new.self c.gets_into.new.self c.set_now.ensures.sets c.gets_into.ensures.reads) refl refl
