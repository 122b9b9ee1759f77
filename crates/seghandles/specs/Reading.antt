-- What the exports that read do.
use Rattle.std.specs.Prelude.{◌≡◌, ℕ, List, Bool, true, false, Option, Some, None}
use Rattle.segmodel.specs.Words.{GetAnswer, GetsAnswer}
use Rattle.segmodel.specs.declared.answer.GetAnswer.TheVariants as get
use Rattle.segmodel.specs.declared.answer.GetsAnswer.TheVariants as gets
use Rattle.segclient.specs.Made.{Gets, GetsVersion}
use Rattle.seghandles.specs.declared.client.SharedClient.{SharedClient}
use Rattle.seghandles.specs.declared.kept.Kept.{Kept}
use Rattle.seghandles.specs.declared.status.Status.{Status}
use Rattle.seghandles.specs.declared.status.Status.TheVariants as status
use Rattle.seghandles.specs.Calls.{MakesCall}
use Rattle.seghandles.specs.Exports.{ByClient, ByKey, CopiesOut, Out, Returns, WritesNothing}
use Rattle.seghandles.specs.Guest.{At}
use Rattle.seghandles.specs.Holding.{HoldsAt, ReadsHeld, Releases}

-- a value that was found is copied out
abbrev pub ReturnsGet : GetAnswer → Status → Out → Out → Type 0
ReturnsGet (get.Found value) returned out next = CopiesOut value returned out next
ReturnsGet get.Miss returned out next = WritesNothing out next returned status.Miss
ReturnsGet get.Busy returned out next = WritesNothing out next returned status.Busy

-- the client's get of the key had an answer, and this status was returned
pub record MakesGet (key : List ℕ) (now : ℕ) (out next : Out) (returned : Status)
    (old new : SharedClient) : Type 0 where
  pub answer : GetAnswer
  pub calls : MakesCall key (At now (Gets key answer)) old new
  pub returns : ReturnsGet answer returned out next

-- the same of any key: one of a bad length is refused
abbrev pub GotKey : List ℕ → ℕ → Out → Out → Status → SharedClient → SharedClient → Type 0
GotKey key now out next returned =
    ByKey (WritesNothing out next returned) key (MakesGet key now out next returned)

abbrev pub Got : List ℕ → ℕ → Option Kept → Option Kept → Out → Out → Status → Type 0
Got key now before after out next returned =
    ByClient (WritesNothing out next returned) (GotKey key now out next returned) before after

-- nothing was written, and no version
abbrev pub WritesNoVersion : Out → Out → ℕ → ℕ → Status → Status → Type 0
WritesNoVersion out next version next_version returned why =
    WritesNothing out next returned why × (next_version ≡ version)

-- the version is written too, where a value was found
abbrev pub ReturnsGets : GetsAnswer → Status → Out → Out → ℕ → ℕ → Type 0
ReturnsGets (gets.Found value of) returned out next version next_version =
    CopiesOut value returned out next × (next_version ≡ of)
ReturnsGets gets.Miss returned out next version next_version =
    WritesNoVersion out next version next_version returned status.Miss
ReturnsGets gets.Busy returned out next version next_version =
    WritesNoVersion out next version next_version returned status.Busy

pub record MakesGets (key : List ℕ) (now : ℕ) (out next : Out) (version next_version : ℕ)
    (returned : Status) (old new : SharedClient) : Type 0 where
  pub answer : GetsAnswer
  pub calls : MakesCall key (At now (GetsVersion key answer)) old new
  pub returns : ReturnsGets answer returned out next version next_version

abbrev pub GotKeyVersion : List ℕ → ℕ → Out → Out → ℕ → ℕ → Status
    → SharedClient → SharedClient → Type 0
GotKeyVersion key now out next version next_version returned =
    ByKey (WritesNoVersion out next version next_version returned) key
    (MakesGets key now out next version next_version returned)

abbrev pub GotVersion : List ℕ → ℕ → Option Kept → Option Kept → Out → Out → ℕ → ℕ → Status
    → Type 0
GotVersion key now before after out next version next_version returned =
    ByClient (WritesNoVersion out next version next_version returned)
    (GotKeyVersion key now out next version next_version returned) before after

-- ---- holds

abbrev pub Held : List ℕ → ℕ → Option Kept → Option Kept → Status → Type 0
Held key now before after returned =
    ByClient (Returns returned) (ByKey (Returns returned) key (HoldsAt key now returned)) before after

abbrev pub ReturnsHeld : Option (List ℕ) → Status → Out → Out → Type 0
ReturnsHeld (Some value) returned out next = CopiesOut value returned out next
ReturnsHeld None returned out next = WritesNothing out next returned status.NotHolding

-- the client read what it holds, and this status was returned
pub record MakesHeldRead (out next : Out) (returned : Status) (old new : SharedClient) : Type 0 where
  pub value : Option (List ℕ)
  pub reads : ReadsHeld value old new
  pub returns : ReturnsHeld value returned out next

abbrev pub GotHeld : Option Kept → Option Kept → Out → Out → Status → Type 0
GotHeld before after out next returned =
    ByClient (WritesNothing out next returned) (MakesHeldRead out next returned) before after

abbrev pub release_status : Bool → Status
release_status true = status.Ok
release_status false = status.NotHolding

abbrev pub Released : Option Kept → Option Kept → Status → Type 0
Released before after returned =
    ByClient (Returns returned)
    (λ old new. (ended : Bool) × Releases ended old new × (returned ≡ release_status ended)) before after
