-- What the clients of all shards do, one after another.
use Rattle.std.specs.Prelude.{◌≡◌, List, [], ◌∷◌}
use Rattle.std.specs.List.{AllZip}
use Rattle.segbase.specs.Words.{Board}
use Rattle.segclient.specs.declared.member.Member.{Member}
use Rattle.segclient.specs.Client as of_one
use Rattle.segshards.specs.declared.client.Client.{Client}

-- it holds of what stands at each place of three lists, which are equally long
unfoldable pub AllThree : {A B C : Type 0} → (A → B → C → Type 0) → List A → List B → List C → Type 0
AllThree R [] [] [] = Unit {0}
AllThree R (a ∷ ones) (b ∷ others) (c ∷ thirds) = R a b c × AllThree R ones others thirds
AllThree R _ _ _ = ⊥

-- its clock and what it holds are as they were
pub record KeepsClock (old new : Client) : Type 0 where
  pub clock : new.clock ≡ old.clock
  pub holds : new.holds ≡ old.holds

-- the client of each shard made this call
abbrev pub EachMakes : (Board → Member → Member → Type 0) → Client → Client → Type 0
EachMakes Made old new =
    AllZip (of_one.MakesCall Made) old.shards.items new.shards.items × KeepsClock old new

-- the client of each shard made this call, with what stands at the shard's place of the list
abbrev pub EachAnswers : {A : Type 0}
    → (A → Board → Member → Member → Type 0) → List A → Client → Client → Type 0
EachAnswers Made each old new =
    AllThree (λ a was is. of_one.MakesCall (Made a) was is) each old.shards.items new.shards.items
    × KeepsClock old new
