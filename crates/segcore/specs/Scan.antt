-- Scans of a chain, over marked histories alone: looks at its words in turn, each at a later point,
-- none of which found what is sought.
use Rattle.std.specs.Prelude.{◌≡◌, ◌≢◌, ℕ, ◌+◌, ◌*◌, ◌%◌, ◌==◌, ◌⊎◌, List, [], ◌∷◌, Option, Some, None, if◌then◌else◌}
use Rattle.segword.specs.Words.{Shape}
use Rattle.segmodel.specs.Words.{Begins, bucket_of, IsLegal}
use Rattle.segcore.specs.Bucket.{slot}
use Rattle.segcore.specs.Mark.{Mark, entries, chained_to, place, last_at, IsAbsent, IsWellMarked}

-- ---- what is sought

-- A scan seeks the item of a key. If it is given a segment and a row, that item has to name them.

-- what is sought is nowhere: the key doesn't stand, or its item names another row
abbrev pub IsNowhere : Shape → List ℕ → Option (ℕ × ℕ) → List Mark → Type 0
IsNowhere shape key None marks = IsAbsent shape marks key
IsNowhere shape key (Some row) marks =
    IsAbsent shape marks key ⊎ (last_at marks key ≢ Some (slot key row.0 row.1))

-- what is sought isn't at this position: it is nowhere, or its key's place is another
abbrev pub IsNotAt : Shape → List ℕ → Option (ℕ × ℕ) → List Mark → ℕ → Type 0
IsNotAt shape key row marks position =
    ¬ (IsNowhere shape key row marks) → place shape marks key ≢ Some position

-- ---- the looks

-- the position after one in scan order: words 1 to 7 of each bucket in turn
abbrev pub position_after : ℕ → ℕ
position_after position = if position % 8 == 7 then position + 2 else position + 1

-- From a marked history on, the look at a position of the key's chain didn't find what is sought.
-- Each look after it was at a later one, and at the last of them the chain ended with that word.
abbrev pub IsScan :
    Shape → List ℕ → Option (ℕ × ℕ) → ℕ → List Mark → List (List Mark) → List Mark → Type 0
IsScan shape key row position from [] last = ⊥
IsScan shape key row position from (look ∷ []) last =
    Begins from look × IsNotAt shape key row look position × (look ≡ last)
    × (position ≡ 8 * chained_to last (bucket_of shape key) + 7)
IsScan shape key row position from (look ∷ other ∷ looks) last =
    Begins from look × IsNotAt shape key row look position
    × IsScan shape key row (position_after position) look (other ∷ looks) last

-- a scan: the first look, the others, and the marked history of the last, which is legal
pub record IsScanOf (shape : Shape) (key : List ℕ) (row : Option (ℕ × ℕ))
    (first : List Mark) (looks : List (List Mark)) (last : List Mark) : Type 0 where
  pub scan : IsScan shape key row 1 first (first ∷ looks) last
  pub legal : IsLegal shape (entries last)
  pub placed : IsWellMarked shape last
