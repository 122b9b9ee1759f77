-- Passes that come to lists, or leave them: one list for each shard.
use Rattle.std.specs.Prelude.{◌≡◌, List, [], ◌∷◌, ◌++◌}
use Rattle.std.specs.Global.{Vec}
use Rattle.segbase.specs.Words.{Pass}
use Rattle.segclient.specs.declared.client.Client as one
use Rattle.segshards.specs.Each.{AllThree}

-- the list of each shard has one pass more, at its end: that of the client of the shard
abbrev pub AreAdded : List one.Client → List (Vec Pass) → List (Vec Pass) → Type 0
AreAdded = AllThree (λ client old new. new.items ≡ old.items ++ client.member.pass ∷ [])

-- the client of each shard has the last pass of the shard's list, and the list has the others
abbrev pub AreTaken : List one.Client → List (Vec Pass) → List (Vec Pass) → Type 0
AreTaken = AllThree (λ client old new. old.items ≡ new.items ++ client.member.pass ∷ [])
