-- A client that was given back to its cache, or wasn't.
use Rattle.std.proofs.Common.{◌≡◌, Option, Some, None, refl, sym, ap, subst}
use Rattle.seghandles.specs.declared.cache.Cache.{Cache}
use Rattle.seghandles.specs.declared.kept.Kept.{Kept}
use Rattle.seghandles.specs.declared.kept.Kept.TheVariants as kept
use Rattle.seghandles.specs.declared.status.Status.{Status}
use Rattle.seghandles.specs.declared.status.Status.TheVariants as status
use Rattle.seghandles.specs.Returning.{GivenBack, GoesBackFrom}

-- a cache stood in its handle
pub gave_back : (was is : Kept) (old new : Cache) (guest next : Option Kept) (returned : Status) → was ≡ kept.Cache old → is ≡ kept.Cache new
    → GoesBackFrom guest next old new returned → GivenBack (Some was) (Some is) guest next returned
gave_back was is old new guest next returned from into goes =
    subst (λ (k : Kept). GivenBack (Some k) (Some is) guest next returned) (sym from) (new, ap (λ (k : Kept). Some k) into, goes)

-- nothing stood in the client's handle
pub nobody_back : (guest next : Option Kept) (old : Cache) → guest ≡ None → next ≡ None → GoesBackFrom guest next old old status.NoHandle
nobody_back guest next old from into = subst (λ (g : Option Kept). GoesBackFrom g next old old status.NoHandle) (sym from) (refl, refl, into)
