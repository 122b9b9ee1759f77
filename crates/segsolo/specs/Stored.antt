-- What was stored in a segment: items, one behind the other,
-- and the keys and the frequencies of their rows, as the model has them.
use Rattle.std.specs.Prelude.{ℕ, ◌+◌, ◌-◌, ◌==◌, ◌&&◌, List, [], ◌∷◌, ◌++◌, replicate, Option, Some, None, if◌then◌else◌}
use Rattle.std.specs.BTreeMap.{is_at}
use Rattle.std.specs.Option.{option_or}
use Rattle.segword.specs.Words.{Shape, span_of}
use Rattle.segmodel.specs.declared.request.Reply.TheVariants.{Stored}
use Rattle.segmodel.specs.declared.entry.Entry.TheVariants.{Wrote, Refilled, Moved}
use Rattle.segmodel.specs.Serving.{span_of_item}
use Rattle.segmodel.specs.Words.{after, Entry, key_cmp, key_of, standing, value_of}
use Rattle.segcore.specs.Mark.{at}
use Rattle.segcore.specs.Words.{Mark}

-- The items that were stored in a segment, or moved there, since it was last refilled,
-- oldest first: the key of each, and how many rows it takes.
abbrev pub items_stored_in : Shape → List Entry → ℕ → List (List ℕ × ℕ)
items_stored_in shape [] segment = []
items_stored_in shape (Wrote pass request Stored (Some other) ∷ history) segment =
    if other == segment
    then items_stored_in shape history segment
    ++ (key_of request, span_of (key_of request) (value_of request)) ∷ []
    else items_stored_in shape history segment
items_stored_in shape (Moved pass key from to ∷ history) segment =
    if to == segment
    then items_stored_in shape history segment
    ++ (key, span_of_item key (standing (after shape history) key)) ∷ []
    else items_stored_in shape history segment
items_stored_in shape (Refilled pass other deadline ∷ history) segment =
    if other == segment then [] else items_stored_in shape history segment
items_stored_in shape (_ ∷ history) segment = items_stored_in shape history segment

-- the key of each row of these items
abbrev pub keys_of_rows : List (List ℕ × ℕ) → List (List ℕ)
keys_of_rows [] = []
keys_of_rows (item ∷ items) = replicate item.1 item.0 ++ keys_of_rows items

-- the keys that were stored in a segment, each as often as its item takes rows
abbrev pub keys_stored_in : Shape → List Entry → ℕ → List (List ℕ)
keys_stored_in shape history segment = keys_of_rows (items_stored_in shape history segment)

-- the frequency that an item had when it came to name the row
abbrev pub came_with : List Mark → ℕ → ℕ → ℕ
came_with [] segment row = 0
came_with (at key s r position frequency ∷ marks) segment row =
    if (s == segment) && (r == row) then frequency else came_with marks segment row
came_with (_ ∷ marks) segment row = came_with marks segment row

-- The frequency of each row of these items, the first of which begins in this row.
-- Hits raise that of an item's last row: it is the frequency that the item has now.
-- Each row before it has the one that the item came with. Both are told by the item's first row.
abbrev pub frequencies_of : (ℕ → ℕ) → (ℕ → ℕ) → ℕ → List (List ℕ × ℕ) → List ℕ
frequencies_of came now row [] = []
frequencies_of came now row (item ∷ items) =
    replicate (item.1 - 1) (came row)
    ++ now row ∷ frequencies_of came now (row + item.1) items

-- the row in which the last item of the key begins, where the first of the items begins in this one
abbrev pub last_row_of : List ℕ → ℕ → List (List ℕ × ℕ) → Option ℕ
last_row_of key row [] = None
last_row_of key row (item ∷ items) =
    option_or (last_row_of key (row + item.1) items)
    (if is_at (key_cmp key) item.0 then Some row else None)
