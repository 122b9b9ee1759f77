-- Keys are compared by their bytes.
use Rattle.std.proofs.Common.{◌≡◌, ◌≢◌, ℕ, true, false, List, sym, ◌∙◌}
use Rattle.std.proofs.lemmas.Bool.{false≢true, false_from_ne_true}
use Rattle.std.proofs.lemmas.Slice.Eq.{bytes_eq-Decides}
use Rattle.segcore.specs.Mark.{same_key}

pub key_true : (k l : List ℕ) → same_key k l ≡ true → k ≡ l
unfolding same_key
key_true k l t = (bytes_eq-Decides k l).0 t

pub same_true : (k l : List ℕ) → k ≡ l → same_key k l ≡ true
unfolding same_key
same_true k l e = (bytes_eq-Decides k l).1 e

pub key_false : (k l : List ℕ) → same_key k l ≡ false → k ≢ l
unfolding same_true
key_false k l f e = false≢true (sym f ∙ same_true k l e)

pub same_false : (k l : List ℕ) → k ≢ l → same_key k l ≡ false
same_false k l ne = false_from_ne_true (same_key k l) (λ t. ne (key_true k l t))
