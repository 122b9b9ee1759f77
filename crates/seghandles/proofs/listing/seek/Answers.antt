use Rattle.std.proofs.Common.{refl}
use Rattle.seghandles.specs.declared.kept.Kept.TheVariants as kept
use Rattle.seghandles.proofs.Ended.{sought_next}
use Rattle.seghandles.proofs.listing.seek.Goals as goal

pub returns : goal.returns
returns c = sought_next c.args.kept.now (kept.Cursor c.seek.new.self) c.in-Cursor.cursor c.seek.new.self c.seek.result c.in-Cursor.is refl c.seek.ensures
