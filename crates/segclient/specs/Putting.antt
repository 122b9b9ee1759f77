-- What a put answers, by its calls.
use Rattle.std.specs.Prelude.{◌≡◌, ◌≢◌, ◌⊎◌, ℕ, ◌+◌, ◌*◌, ◌≤◌, true, false, List, [], ◌∷◌, ◌++◌, All, Contains, replicate, Some, None}
use Rattle.segword.specs.Words.{Shape}
use Rattle.segmodel.specs.declared.answer.WriteAnswer.TheVariants as write
use Rattle.segmodel.specs.Words.{owner}
use Rattle.segstore.specs.declared.row.RowRef.{RowRef}
use Rattle.segevict.specs.declared.eviction.EvictRowAnswer.{EvictRowAnswer}
use Rattle.segclient.specs.declared.put.PutAnswer.{PutAnswer}
use Rattle.segclient.specs.declared.put.PutAnswer.TheVariants as put
use Rattle.segclient.specs.PutCalls.{PutCall, sets, finds_own, takes_out, is_for_room}
use Rattle.segclient.specs.PutCalls.{is_for_word, is_set, IsRefused}

-- Stored by its last call, and only by that.
-- NoRoom of an item that takes no more rows than a segment has only if each segment of the pass
-- was refused.
-- BucketFull by its last set: behind it the pass found no item of its own in the bucket,
-- or an earlier set had found the bucket full. Busy if its last 16 sets were.
abbrev pub IsPutAnswer : Shape → ℕ → ℕ → PutAnswer → List PutCall → Type 0
IsPutAnswer shape pass rows put.Stored calls =
    (earlier : List PutCall)
    × (calls ≡ sets write.Stored ∷ earlier)
    × All (λ call. call ≢ sets write.Stored) earlier
IsPutAnswer shape pass rows put.NoRoom calls =
    rows ≤ shape.rows
    → (segment : ℕ)
    → owner shape segment ≡ pass
    → IsRefused segment calls
IsPutAnswer shape pass rows put.BucketFull calls =
    (earlier : List PutCall)
    × ((calls ≡ finds_own None ∷ sets write.BucketFull ∷ earlier)
    ⊎ ((calls ≡ sets write.BucketFull ∷ earlier) × Contains earlier (sets write.BucketFull)))
IsPutAnswer shape pass rows put.Busy calls =
    (earlier : List PutCall) × (calls ≡ replicate 16 (sets write.Busy) ++ earlier)

-- no call is one for room
abbrev pub MakesNoRoom : List PutCall → Type 0
MakesNoRoom calls = All (λ call. is_for_room call ≡ false) calls

-- no call comes of a full bucket
abbrev pub AreNotFull : List PutCall → Type 0
AreNotFull calls = All (λ call. is_for_word call ≡ false) calls

-- What comes behind a set that found the bucket full: a look that finds no item of the pass's own;
-- or a look that finds one, the evict of that one row, and sets.
abbrev pub TakesOneOut : List PutCall → Type 0
TakesOneOut later =
    (later ≡ finds_own None ∷ [])
    ⊎ ((row : RowRef) × (told : EvictRowAnswer) × (last : List PutCall)
    × All (λ call. is_set call ≡ true) last
    × (later ≡ last ++ takes_out row.segment row.row told ∷ finds_own (Some row) ∷ []))

-- A full bucket costs one item at most, and no segment: no call comes of one,
-- or those behind the first set that found the bucket full take one item out, or none.
abbrev pub CostsOneItem : List PutCall → Type 0
CostsOneItem calls =
    AreNotFull calls
    ⊎ ((later : List PutCall) × (earlier : List PutCall)
    × (calls ≡ later ++ sets write.BucketFull ∷ earlier)
    × AreNotFull earlier × TakesOneOut later)

-- how many sets were made last, with no other call between
unfoldable pub last_sets : List PutCall → ℕ
last_sets (sets told ∷ earlier) = last_sets earlier + 1
last_sets _ = 0

-- No call is the 17th set in a row.
unfoldable pub SetsAtMost16 : List PutCall → Type 0
SetsAtMost16 [] = Unit {0}
SetsAtMost16 (call ∷ earlier) = (last_sets (call ∷ earlier) ≤ 16) × SetsAtMost16 earlier

-- at most so many calls
abbrev pub most_calls : Shape → ℕ
most_calls shape = 4 * shape.segments_each + shape.rows + 56
