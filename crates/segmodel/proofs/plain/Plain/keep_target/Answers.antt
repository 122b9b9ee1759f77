use Rattle.std.proofs.Common.{rules, ◌≡◌, Some}
use Rattle.segmodel.proofs.plain.Plain.keep_target.Goals as goal

pub deadline-requires : goal.deadline-requires
deadline-requires c =
    let kept = c.args.self.now.kept in
    let is : c.args.self.now.current ≡ Some c.in_ok-to.to = search rules in
    kept.own _ (kept.in_use _ is)
