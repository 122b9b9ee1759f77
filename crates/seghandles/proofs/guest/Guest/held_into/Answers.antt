use Rattle.std.proofs.Common.{refl}
use Rattle.seghandles.proofs.Copied.{held_copied}
use Rattle.seghandles.proofs.guest.Guest.held_into.Goals as goal

pub returns : goal.returns
returns c = held_copied c.args.self.now.share.held c.value_into_by.result _ _ c.args.self.now _ refl refl c.value_into_by.ensures.reads
