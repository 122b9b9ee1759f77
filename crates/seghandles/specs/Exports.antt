-- What an export answers, and what it does with a handle, a key and a value.
use Rattle.std.specs.Prelude.{◌≡◌, ℕ, ◌≤◌, List, length, Option, Some}
use Rattle.segword.specs.declared.key.TheConstants.{KEY_BYTES}
use Rattle.segword.specs.Words.{value_limit}
use Rattle.segstore.specs.Words.{CopiesValue}
use Rattle.seghandles.specs.declared.client.SharedClient.{SharedClient}
use Rattle.seghandles.specs.declared.kept.Kept.{Kept}
use Rattle.seghandles.specs.declared.kept.Kept.TheVariants as kept
use Rattle.seghandles.specs.declared.status.Status.{Status}
use Rattle.seghandles.specs.declared.status.Status.TheVariants as status
use Rattle.seghandles.specs.Status.{number_of}

-- the answer is the number of a status of which this is so
abbrev pub Answers : ℕ → (Status → Type 0) → Type 0
Answers number IsSo = (returned : Status) × (number ≡ number_of returned) × IsSo returned

-- ---- refusals

abbrev pub Returns : Status → Status → Type 0
Returns returned why = returned ≡ why

-- the bytes of a buffer of C's, and a length of C's
abbrev pub Out : Type 0
Out = List ℕ × ℕ

-- nothing was written
abbrev pub WritesNothing : Out → Out → Status → Status → Type 0
WritesNothing out next returned why = (returned ≡ why) × (next ≡ out)

-- ---- by a handle, a key and a value

-- A handle with a client has it afterwards too, and the client did this.
-- Any other handle is as it was, and the call is refused by NoHandle.
abbrev pub ByClient : (Status → Type 0) → (SharedClient → SharedClient → Type 0)
    → Option Kept → Option Kept → Type 0
ByClient Refuses Does (Some (kept.Client old)) after =
    (new : SharedClient) × (after ≡ Some (kept.Client new)) × Does old new
ByClient Refuses Does before after = Refuses status.NoHandle × (after ≡ before)

abbrev pub HasKeyLength : List ℕ → Type 0
HasKeyLength bytes = (1 ≤ length bytes) × (length bytes ≤ KEY_BYTES)

-- With a key of 1 to KEY_BYTES bytes the client did this. Any other is refused by BadKey.
pub record ByKey (Refuses : Status → Type 0) (key : List ℕ)
    (Does : SharedClient → SharedClient → Type 0) (old new : SharedClient) : Type 0 where
  pub good : HasKeyLength key → Does old new
  pub bad : ¬ (HasKeyLength key) → Refuses status.BadKey × (new ≡ old)

-- With a value of at most value_limit bytes the client did this. Any other is refused by BadValue.
pub record ByValue (Refuses : Status → Type 0) (value : List ℕ)
    (Does : SharedClient → SharedClient → Type 0) (old new : SharedClient) : Type 0 where
  pub good : length value ≤ value_limit → Does old new
  pub bad : ¬ (length value ≤ value_limit) → Refuses status.BadValue × (new ≡ old)

-- ---- what is written

-- The length of the bytes was written. Where the buffer has room for them, they were copied
-- to its front, and what is behind them is as it was. A shorter buffer is as it was.
pub record CopiesOut (bytes : List ℕ) (returned : Status) (out next : Out) : Type 0 where
  pub len : next.1 ≡ length bytes
  pub copies : CopiesValue bytes (returned ≡ status.Ok) (returned ≡ status.ShortBuffer) out.0 next.0
