-- The place of the first field that names a column, field by field.
use Rattle.std.proofs.Common.{◌≡◌, ◌<◌, ◌≤◌, ◌+◌, ◌∙◌, ℕ, List, [], length, drop, true, false, Some, None, if◌then◌else◌, ap}
use Rattle.std.proofs.lemmas.List.{drop_all, drop_more}
use Rattle.segtraces.specs.declared.line.Column.{Column}
use Rattle.segtraces.specs.Lines.{field_at, is_named, place_named}

module _ (column : Column) (fields : List (List ℕ)) (i : ℕ) where
  here : i < length fields → place_named column i (drop i fields) ≡ (if is_named column (field_at i fields) then Some i else place_named column (i + 1) (drop (i + 1) fields))
  here below = ap (place_named column i) (drop_more fields i [] below)

  pub named : i < length fields → is_named column (field_at i fields) ≡ true → place_named column i (drop i fields) ≡ Some i
  named below is = here below ∙ ap (λ b. if b then Some i else place_named column (i + 1) (drop (i + 1) fields)) is

  pub not_named : i < length fields → is_named column (field_at i fields) ≡ false → place_named column i (drop i fields) ≡ place_named column (i + 1) (drop (i + 1) fields)
  not_named below isnt = here below ∙ ap (λ b. if b then Some i else place_named column (i + 1) (drop (i + 1) fields)) isnt

  pub none_named : length fields ≤ i → place_named column i (drop i fields) ≡ None
  none_named all = ap (place_named column i) (drop_all i fields all)
