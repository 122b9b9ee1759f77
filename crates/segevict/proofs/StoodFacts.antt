-- Worked examples: in which segment a key stood between two moments. A move takes it from one into another.
use Rattle.std.proofs.Common.{◌≡◌, ℕ, ◌∷◌, [], List, refl, subst, arith}
use Rattle.segmodel.specs.Example.{shape, a, deleted, relocated}
use Rattle.segmodel.specs.Words.{after, Entry, StandsIn}
use Rattle.segwrite.proofs.FullFacts.{only_moment}
use Rattle.segevict.specs.Tries.{StoodBetween}

-- at one moment a key stood where it stands then
stands_then : (segment : ℕ) (key : List ℕ) (old : List Entry) → StoodBetween shape segment key old old → StandsIn (after shape old) key segment
stands_then segment key old stood = subst (λ h. StandsIn (after shape h) key segment) (only_moment old stood.0 stood.1) stood.2

-- while a is moved from segment 0 into segment 1, it stood in both
stood_where_it_was : StoodBetween shape 0 a deleted relocated
stood_where_it_was = (deleted, (([], refl), (_ ∷ _ ∷ [], refl)), refl)

stood_where_it_came : StoodBetween shape 1 a deleted relocated
stood_where_it_came = (relocated, ((_ ∷ _ ∷ [], refl), ([], refl)), refl)

-- not before it, and not any more after it
not_ahead : ¬ (StoodBetween shape 1 a deleted deleted)
not_ahead stood = let same : 0 ≡ 1 = stands_then 1 a deleted stood in absurd (omega (arith, same))

not_behind : ¬ (StoodBetween shape 0 a relocated relocated)
not_behind stood = let same : 1 ≡ 0 = stands_then 0 a relocated stood in absurd (omega (arith, same))

-- a key that was deleted stands in no segment
not_once_deleted : (segment : ℕ) → ¬ (StoodBetween shape segment (101 ∷ []) deleted deleted)
not_once_deleted segment stood = stands_then segment (101 ∷ []) deleted stood
