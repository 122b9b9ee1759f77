-- Lists in which each element has a property at its place.
use Rattle.std.specs.Prelude.{◌≡◌, ℕ, List, slice_get, Some}

abbrev pub AllAt : {A : Type 0} → (ℕ → A → Type 0) → List A → Type 0
AllAt {A} P xs = (n : ℕ) (x : A) → slice_get xs n ≡ Some x → P n x
