-- A cache that was closed, or wasn't.
use Rattle.std.proofs.Common.{◌≡◌, is_none, true, false, Option, Some, None, refl, sym, subst}
use Rattle.std.proofs.lemmas.Bool.{false≢true}
use Rattle.seghandles.specs.declared.cache.Cache.{Cache}
use Rattle.seghandles.specs.declared.closing.Closing.{Closing}
use Rattle.seghandles.specs.declared.closing.Closing.TheVariants as closing
use Rattle.seghandles.specs.declared.kept.Kept.{Kept}
use Rattle.seghandles.specs.declared.kept.Kept.TheVariants as kept
use Rattle.seghandles.specs.declared.status.Status.{Status}
use Rattle.seghandles.specs.declared.status.Status.TheVariants as status
use Rattle.seghandles.specs.Closing.{Closed, Closes, ClosesAs, ClosesCache, ClosesFrom, IsListOf, IsLost, IsRefused}

-- a cache stood there
pub closes : (was now : Kept) (cache : Cache) (how : Closing) → was ≡ kept.Cache cache → ClosesCache cache now how → ClosesAs was now how
closes was now cache closing.Listed from is = subst (λ (k : Kept). IsListOf k now) (sym from) is
closes was now cache (closing.Refused why) from is = subst (λ (k : Kept). IsRefused k now why) (sym from) is
closes was now cache closing.Gone from is = subst IsLost (sym from) is

-- what a handle had, and an empty handle for the cursor
pub closed : (before after cursor next : Option Kept) (was : Kept) (returned : Status) → before ≡ Some was
    → is_none cursor ≡ true → Closes was after next returned → Closed before after cursor next returned
closed before after None next was returned from is closes = subst (λ (b : Option Kept). ClosesFrom b after next returned) (sym from) closes
closed before after (Some used) next was returned from is closes = absurd (false≢true is)

pub nothing_closed : (before after cursor next : Option Kept) → before ≡ None → after ≡ None → is_none cursor ≡ true → next ≡ cursor → Closed before after cursor next status.NoHandle
nothing_closed before after None next from into is same = subst (λ (b : Option Kept). ClosesFrom b after next status.NoHandle) (sym from) (refl, into, same)
nothing_closed before after (Some used) next from into is same = absurd (false≢true is)

-- a handle in use for the cursor
pub not_closed : (before cursor next : Option Kept) → is_none cursor ≡ false → next ≡ cursor → Closed before before cursor next status.NoHandle
not_closed before None next is same = absurd (false≢true (sym is))
not_closed before (Some used) next is same = (refl, refl, same)

-- nothing stands in an empty handle
pub empty : (o : Option Kept) → is_none o ≡ true → o ≡ None
empty None is = refl
empty (Some used) is = absurd (false≢true is)
