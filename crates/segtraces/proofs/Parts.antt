-- A text that is cut at a byte, as the parts between such bytes.
use Rattle.std.proofs.Common.{◌≡◌, ◌==◌, ◌+◌, ◌<◌, ◌-◌, ℕ, zero, suc, List, [], ◌∷◌, ◌++◌, length, drop, get_or, false, refl, ap, ◌∙◌, sym, arith}
use Rattle.std.specs.List.{All}
use Rattle.std.proofs.lemmas.Bool.{eq-eqb}
use Rattle.std.proofs.lemmas.List.{drop-drop, get_or_past, length-drop}
use Rattle.std.proofs.lemmas.List.Splits.{slice_split_at, slice_split_none}
use Rattle.segtraces.specs.Lines.{fields_of}

abbrev pub Lacks : ℕ → List ℕ → Type 0
Lacks at text = All (λ byte. (byte == at) ≡ false) text

pub one_part : (at : ℕ) (text : List ℕ) → Lacks at text → fields_of at text ≡ text ∷ []
one_part at text none = slice_split_none (λ byte. byte == at) text none

pub more_parts : (at : ℕ) {whole : List ℕ} (first rest : List ℕ) → whole ≡ first ++ at ∷ rest → Lacks at first → fields_of at whole ≡ first ∷ fields_of at rest
more_parts at first rest is none = rw is (slice_split_at (λ byte. byte == at) first at rest none (eq-eqb at at refl))

-- the fields behind the first of those that are left
pub one_more : (fields : List (List ℕ)) (i : ℕ) (first : List ℕ) (rest : List (List ℕ)) → drop i fields ≡ first ∷ rest → drop (i + 1) fields ≡ rest
one_more fields i first rest at = sym (drop-drop 1 i fields) ∙ ap (drop 1) at

-- no field is left behind the last one
pub no_more : (fields : List (List ℕ)) (i place : ℕ) (last : List ℕ) → drop i fields ≡ last ∷ [] → i < place → get_or fields place [] ≡ []
no_more fields i place last at below =
    let long : length fields - i ≡ 1 = sym (length-drop i fields) ∙ ap length at in
    get_or_past fields place [] (omega arith)

at_first : (fields : List (List ℕ)) (i : ℕ) → get_or fields i [] ≡ get_or (drop i fields) 0 []
at_first [] zero = refl
at_first [] (suc i) = refl
at_first (f ∷ fields) zero = refl
at_first (f ∷ fields) (suc i) = at_first fields i

-- the first of the fields that are left
pub at_field : (fields left : List (List ℕ)) (i : ℕ) → drop i fields ≡ left → get_or fields i [] ≡ get_or left 0 []
at_field fields left i at = at_first fields i ∙ ap (λ l. get_or l 0 []) at
