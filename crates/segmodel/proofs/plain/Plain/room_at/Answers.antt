use Rattle.std.proofs.Common.{rules, ◌≡◌, ◌<◌, Some, arith}
use Rattle.segmodel.proofs.plain.Plain.room_at.Goals as goal

pub used_rows-used-requires : goal.used_rows-used-requires
used_rows-used-requires c =
    let kept = c.args.self.now.kept in
    let is : c.args.self.now.current ≡ Some c.in_ok-to.to = search rules in
    let own : c.in_ok-to.to < c.args.self.now.shape.segments_each = kept.own _ (kept.in_use _ is) in
    omega arith
