-- What the writing of an item's rows leaves: words of these rows alone.
use Rattle.std.proofs.Common.{◌≡◌, ℕ, List, [], ◌∷◌, ◌++◌, refl}
use Rattle.std.specs.Prelude.{slice_index}
use Rattle.segword.specs.Words.{place_behind, row_behind, Shape}
use Rattle.segcore.specs.declared.event.Event.TheVariants.{Filled}
use Rattle.segcore.specs.Words.{Event, NoneAt, seen}
use Rattle.segstore.specs.Words.{fills}
use Rattle.segstore.proofs.Keeping.{AreCalm}
use Rattle.segstore.proofs.Draws.{AreUndrawn}
use Rattle.segstore.proofs.Still.{AreStill}
use Rattle.segstore.proofs.TakenBits.{AreNoTries}

-- what goes on over one word more holds of all that were stored
fills_all : (P : List Event → Type 0) (p s r : ℕ) (words places : List ℕ) → P []
    → ((own : List Event) (row place w : ℕ) → P own → P (Filled p s row place w ∷ own)) → P (fills p s r words places)
unfolding fills
fills_all P p s r words [] first more = first
fills_all P p s r words (place ∷ places) first more =
    more (fills p s r words places) (row_behind r place) (place_behind place) (slice_index words place) (fills_all P p s r words places first more)

pub fills_nowhere : (z : Shape) (b p s r : ℕ) (words places : List ℕ) → NoneAt z b (fills p s r words places)
fills_nowhere z b p s r words places = fills_all (NoneAt z b) p s r words places tt (λ own row place w none. (refl, none))

pub fills_calm : (p s r : ℕ) (words places : List ℕ) → AreCalm (fills p s r words places)
fills_calm p s r words places = fills_all AreCalm p s r words places tt (λ own row place w calm. (tt, calm))

pub fills_still : (p s r : ℕ) (words places : List ℕ) → AreStill (fills p s r words places)
fills_still p s r words places = fills_all AreStill p s r words places tt (λ own row place w still. (tt, still))

pub fills_undrawn : (p s r : ℕ) (words places : List ℕ) → AreUndrawn (fills p s r words places)
fills_undrawn p s r words places = fills_all AreUndrawn p s r words places tt (λ own row place w none. (tt, none))

pub fills_untried : (p s r : ℕ) (words places : List ℕ) → AreNoTries (fills p s r words places)
fills_untried p s r words places = fills_all AreNoTries p s r words places tt (λ own row place w none. (tt, none))

pub fills_seen : (p s r : ℕ) (words places : List ℕ) (h : List Event) → seen (fills p s r words places ++ h) ≡ seen h
fills_seen p s r words places h = fills_all (λ own. seen (own ++ h) ≡ seen h) p s r words places refl (λ own row place w same. same)
