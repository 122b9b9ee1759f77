-- A handle whose cursor or cache goes.
use Rattle.std.proofs.Common.{◌≡◌, true, false, Option, Some, None, slice_get, refl, sym, ap, subst}
use Rattle.std.proofs.lemmas.Bool.{false≢true}
use Rattle.seghandles.specs.declared.cursor.Cursor.{Cursor}
use Rattle.seghandles.specs.declared.kept.Kept.{Kept}
use Rattle.seghandles.specs.declared.kept.Kept.TheVariants as kept
use Rattle.seghandles.specs.declared.status.Status.{Status}
use Rattle.seghandles.specs.declared.status.Status.TheVariants as status
use Rattle.seghandles.specs.Ending.{Freed, FreesCache, FreesCursor, is_cursor, Listed, ReturnsFound, ReturnsIn, ReturnsNext, Seeks, SeeksIn}
use Rattle.seghandles.specs.Exports.{Out}

abbrev IsOk : Status → Type 0
IsOk status.Ok = Unit {0}
IsOk _ = ⊥

not_ok : ¬ (status.Ok ≡ status.NoHandle)
not_ok e = subst IsOk e tt

frees : (was : Kept) → is_cursor was ≡ true → FreesCursor (Some was) None status.Ok
frees (kept.Cursor cursor) is = (refl, refl)
frees (kept.Cache cache) is = absurd (false≢true is)
frees (kept.Client client) is = absurd (false≢true is)
frees (kept.Note note) is = absurd (false≢true is)

leaves : (was : Kept) → is_cursor was ≡ false → FreesCursor (Some was) (Some was) status.NoHandle
leaves (kept.Cursor cursor) is = absurd (false≢true (sym is))
leaves (kept.Cache cache) is = (refl, refl)
leaves (kept.Client client) is = (refl, refl)
leaves (kept.Note note) is = (refl, refl)

-- a cursor that was taken out, and anything else that was put back
pub freed_cursor : (before after : Option Kept) (was : Kept) → before ≡ Some was → after ≡ None → is_cursor was ≡ true → FreesCursor before after status.Ok
freed_cursor before after was from into is =
    subst (λ (b : Option Kept). FreesCursor b after status.Ok) (sym from) (subst (λ (a : Option Kept). FreesCursor (Some was) a status.Ok) (sym into) (frees was is))

pub left_cursor : (before after : Option Kept) (was : Kept) → before ≡ Some was → after ≡ Some was → is_cursor was ≡ false → FreesCursor before after status.NoHandle
left_cursor before after was from into is =
    subst (λ (b : Option Kept). FreesCursor b after status.NoHandle) (sym from) (subst (λ (a : Option Kept). FreesCursor (Some was) a status.NoHandle) (sym into) (leaves was is))

-- a handle with something in it
pub freed_cache : (before after : Option Kept) (was : Kept) (returned : Status) → before ≡ Some was → FreesCache was after returned → Freed before after returned
freed_cache before after was returned from frees = subst (λ (b : Option Kept). Freed b after returned) (sym from) frees

-- ---- the next pair

-- a cursor returned it
pub returned_next : (was is : Kept) (old new : Cursor) (key key' value value' : Out) (returned : Status) → was ≡ kept.Cursor old → is ≡ kept.Cursor new
    → ReturnsNext (slice_get old.pairs.items old.next) old new key key' value value' returned → ReturnsIn was is key key' value value' returned
returned_next was is old new key key' value value' returned from into next =
    subst (λ (k : Kept). ReturnsIn k is key key' value value' returned) (sym from) (new, into, next)

pub sought_next : (was is : Kept) (old new : Cursor) (returned : Status) → was ≡ kept.Cursor old → is ≡ kept.Cursor new → Seeks returned old new → SeeksIn was is returned
sought_next was is old new returned from into so = subst (λ (k : Kept). SeeksIn k is returned) (sym from) (new, into, so)

found : (mid is : Kept) (new : Cursor) (key key' value value' : Out) (returned : Status) → mid ≡ kept.Cursor new → ReturnsIn mid is key key' value value' returned
    → (last : Cursor) × (is ≡ kept.Cursor last) × ReturnsNext (slice_get new.pairs.items new.next) new last key key' value value' returned
found mid is new key key' value value' returned from so = subst (λ (k : Kept). ReturnsIn k is key key' value value' returned) from so

-- a next pair was found, and returned
pub listed : (was mid is : Kept) (key key' value value' : Out) (returned : Status) → SeeksIn was mid status.Ok
    → ReturnsIn mid is key key' value value' returned → Listed (Some was) (Some is) key key' value value' returned
listed (kept.Cursor old) mid is key key' value value' returned sought so =
    let last = found mid is sought.0 key key' value value' returned sought.1 so in
    (last.0, ap (λ (k : Kept). Some k) last.1, record { sought = status.Ok; mid = sought.0; seeks = sought.2; returns = last.2 })
listed (kept.Cache cache) mid is key key' value value' returned sought so = absurd (not_ok sought.0)
listed (kept.Client client) mid is key key' value value' returned sought so = absurd (not_ok sought.0)
listed (kept.Note notes) mid is key key' value value' returned sought so = absurd (not_ok sought.0)

none_found : (why : Status) (mid : Cursor) (key value : Out) → ¬ (why ≡ status.Ok) → ReturnsFound why mid mid key key value value why
none_found status.Ok mid key value un = absurd (un refl)
none_found status.Miss mid key value un = ((refl, refl, refl), refl)
none_found status.Busy mid key value un = ((refl, refl, refl), refl)
none_found status.NoRoom mid key value un = ((refl, refl, refl), refl)
none_found status.BucketFull mid key value un = ((refl, refl, refl), refl)
none_found status.NotStored mid key value un = ((refl, refl, refl), refl)
none_found status.Exists mid key value un = ((refl, refl, refl), refl)
none_found status.NotFound mid key value un = ((refl, refl, refl), refl)
none_found status.BadKey mid key value un = ((refl, refl, refl), refl)
none_found status.BadValue mid key value un = ((refl, refl, refl), refl)
none_found status.ShortBuffer mid key value un = ((refl, refl, refl), refl)
none_found status.BadShape mid key value un = ((refl, refl, refl), refl)
none_found status.OutOfMemory mid key value un = ((refl, refl, refl), refl)
none_found status.NoHandle mid key value un = ((refl, refl, refl), refl)
none_found status.AlreadyHolding mid key value un = ((refl, refl, refl), refl)
none_found status.NotHolding mid key value un = ((refl, refl, refl), refl)
none_found status.ClientOut mid key value un = ((refl, refl, refl), refl)
none_found status.Foreign mid key value un = ((refl, refl, refl), refl)
none_found status.End mid key value un = ((refl, refl, refl), refl)

-- none was found, or it was no cursor
pub unlisted : (was mid : Kept) (why : Status) (key value : Out) → ¬ (why ≡ status.Ok) → SeeksIn was mid why → Listed (Some was) (Some mid) key key value value why
unlisted (kept.Cursor old) mid why key value un sought =
    (sought.0, ap (λ (k : Kept). Some k) sought.1, record { sought = why; mid = sought.0; seeks = sought.2; returns = none_found why sought.0 key value un })
unlisted (kept.Cache cache) mid why key value un sought = ((sought.0, refl, refl), ap (λ (k : Kept). Some k) sought.1)
unlisted (kept.Client client) mid why key value un sought = ((sought.0, refl, refl), ap (λ (k : Kept). Some k) sought.1)
unlisted (kept.Note notes) mid why key value un sought = ((sought.0, refl, refl), ap (λ (k : Kept). Some k) sought.1)
