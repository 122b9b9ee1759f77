use Rattle.std.proofs.Common.{refl}
use Rattle.seghandles.specs.declared.kept.Kept.TheVariants as kept
use Rattle.seghandles.proofs.Ended.{returned_next}
use Rattle.seghandles.proofs.listing.next.Goals as goal

pub returns : goal.returns
returns c =
    returned_next c.args.kept.now (kept.Cursor c.next.new.self) c.in-Cursor.cursor c.next.new.self (
      c.args.key.now,
      c.args.key_len.now,
    ) (c.next.new.key, c.next.new.key_len) (c.args.value.now, c.args.value_len.now)
    (c.next.new.value, c.next.new.value_len) c.next.result
    c.in-Cursor.is refl c.next.ensures
