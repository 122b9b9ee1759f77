-- How an export answers: by what was done to the box in its handle, or for lack of one.
use Rattle.std.proofs.Common.{◌≡◌, ◌≤◌, ℕ, List, length, Option, Some, None, refl, sym, ap, subst}
use Rattle.segword.specs.Words.{value_limit}
use Rattle.seghandles.specs.declared.client.SharedClient.{SharedClient}
use Rattle.seghandles.specs.declared.kept.Kept.{Kept}
use Rattle.seghandles.specs.declared.kept.Kept.TheVariants as kept
use Rattle.seghandles.specs.declared.status.Status.{Status}
use Rattle.seghandles.specs.declared.status.Status.TheVariants as status
use Rattle.seghandles.specs.Exports.{Answers, ByClient, ByKey, ByValue, HasKeyLength}
use Rattle.seghandles.specs.Status.{number_of}

-- what stood in the handle before and afterwards
pub answered : (IsSo : Option Kept → Option Kept → Status → Type 0) (before after : Option Kept) (was is : Kept) (number : ℕ) (returned : Status)
    → before ≡ Some was → after ≡ Some is → number ≡ number_of returned → IsSo (Some was) (Some is) returned → Answers number (IsSo before after)
answered IsSo before after was is number returned from into returns so =
    (returned, returns, subst (λ (b : Option Kept). IsSo b after returned) (sym from) (subst (λ (a : Option Kept). IsSo (Some was) a returned) (sym into) so))

-- nothing stood there
pub unanswered : (IsSo : Option Kept → Option Kept → Status → Type 0) (before after : Option Kept) (number : ℕ)
    → before ≡ None → after ≡ None → number ≡ number_of status.NoHandle → IsSo None None status.NoHandle → Answers number (IsSo before after)
unanswered IsSo before after number from into returns so =
    (status.NoHandle, returns, subst (λ (b : Option Kept). IsSo b after status.NoHandle) (sym from) (subst (λ (a : Option Kept). IsSo None a status.NoHandle) (sym into) so))

-- a client stood there
pub by_client : (Refuses : Status → Type 0) (Does : SharedClient → SharedClient → Type 0) (was is : Kept) (old new : SharedClient)
    → was ≡ kept.Client old → is ≡ kept.Client new → Does old new → ByClient Refuses Does (Some was) (Some is)
by_client Refuses Does was is old new from into does =
    subst (λ (k : Kept). ByClient Refuses Does (Some k) (Some is)) (sym from) (new, ap (λ (k : Kept). Some k) into, does)

-- by a key of a good length, and by another
pub good_key : (Refuses : Status → Type 0) (key : List ℕ) (Does : SharedClient → SharedClient → Type 0) (old new : SharedClient)
    → HasKeyLength key → Does old new → ByKey Refuses key Does old new
good_key Refuses key Does old new is does = record { good = λ _. does; bad = λ un. absurd (un is) }

pub bad_key : (Refuses : Status → Type 0) (key : List ℕ) (Does : SharedClient → SharedClient → Type 0) (old : SharedClient)
    → ¬ (HasKeyLength key) → Refuses status.BadKey → ByKey Refuses key Does old old
bad_key Refuses key Does old un refused = record { good = λ is. absurd (un is); bad = λ _. (refused, refl) }

-- by a value of a good length, and by another
pub good_value : (Refuses : Status → Type 0) (value : List ℕ) (Does : SharedClient → SharedClient → Type 0) (old new : SharedClient)
    → length value ≤ value_limit → Does old new → ByValue Refuses value Does old new
good_value Refuses value Does old new is does = record { good = λ _. does; bad = λ un. absurd (un is) }

pub bad_value : (Refuses : Status → Type 0) (value : List ℕ) (Does : SharedClient → SharedClient → Type 0) (old : SharedClient)
    → ¬ (length value ≤ value_limit) → Refuses status.BadValue → ByValue Refuses value Does old old
bad_value Refuses value Does old un refused = record { good = λ is. absurd (un is); bad = λ _. (refused, refl) }
