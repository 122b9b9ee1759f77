-- What a handle lends: the value in it.
use Rattle.std.specs.Prelude.{Option, Some}
use Rattle.std.specs.Borrow.{Fml, LendsIf, MutBor}
use Rattle.seghandles.specs.declared.handle.Handle.{Handle}
use Rattle.seghandles.specs.declared.kept.Kept.{Kept}
use Rattle.seghandles.specs.contracts.handle.Handle.{the_row}
use Rattle.seghandles.specs.contracts.kept.Kept.{the_row as kept_row}

-- the handle with this value in it
abbrev pub with_kept : Handle → Kept → Handle
with_kept handle kept = record handle { value = Some kept }

-- The handle ends with what is left behind the reference. Without one it is as it was.
abbrev pub LendsKept : MutBor Handle → Option (MutBor Kept) → Fml
LendsKept handle lent = LendsIf the_row kept_row handle lent (with_kept handle.now) handle.now
