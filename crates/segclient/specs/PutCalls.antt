-- The calls of the index that a put makes, the newest first.
-- Which they are, for which segments and by which cutoffs, is left open:
-- no caller can observe it but by what is evicted.
use Rattle.std.specs.Prelude.{◌≡◌, ◌⊎◌, ℕ, ◌≤◌, Bool, true, false, List, [], ◌∷◌, Option, Some, None}
use Rattle.segmodel.specs.declared.answer.EvictAnswer.TheVariants as evict
use Rattle.segmodel.specs.declared.answer.RefillAnswer.TheVariants as refill
use Rattle.segmodel.specs.declared.answer.WriteAnswer.TheVariants as write
use Rattle.segmodel.specs.declared.request.Request.TheVariants.{Set}
use Rattle.segmodel.specs.Words.{EvictAnswer, owner, RefillAnswer, Request, WriteAnswer}
use Rattle.segbase.specs.Words.{Board, current_of, deadline_of, number, Pass}
use Rattle.segstore.specs.declared.row.RowRef.{RowRef}
use Rattle.segwrite.specs.Words.{IsSetAnswer, rows_of, Writes}
use Rattle.segevict.specs.declared.eviction.EvictRowAnswer.{EvictRowAnswer}
use Rattle.segevict.specs.declared.eviction.EvictRowAnswer.TheVariants as evict_row
use Rattle.segevict.specs.declared.retention.KeepRowAnswer.{KeepRowAnswer}
use Rattle.segevict.specs.declared.retention.KeepRowAnswer.TheVariants as kept
use Rattle.segevict.specs.Words.{EvictsItem, EvictsSegment, FindsOwn, KeepsItem}
use Rattle.segindex.specs.Refilling.{RefillsSegment}
use Rattle.segclient.specs.declared.segments.Window.{Window}

-- A call with its answer: a set of the put's own key, an evict of a segment,
-- a keep of a segment's row by a cutoff, or a refill of a segment.
-- Or a look for an item of the pass's own along the chain of a full bucket, or the evict of one row.
pub data PutCall : Type 0 where
  sets : WriteAnswer → PutCall
  evicts : ℕ → EvictAnswer → PutCall
  keeps : ℕ → ℕ → ℕ → KeepRowAnswer → PutCall
  refills : ℕ → RefillAnswer → PutCall
  finds_own : Option RowRef → PutCall
  takes_out : ℕ → ℕ → EvictRowAnswer → PutCall

-- what the calls are made for: the request of a put, which is a set, or none if only room is made;
-- the least cutoff of what is kept, if anything is; the deadline of what is refilled;
-- and the deadlines of what is stored into
pub record Plan : Type 0 where
  pub request : Option Request
  pub cutoff : Option ℕ
  pub deadline : ℕ
  pub window : Window

-- how many rows the item takes that a request stores, and one without a request
abbrev pub rows_asked : Option Request → ℕ
rows_asked None = 1
rows_asked (Some request) = rows_of request

-- the deadline is one of these
abbrev pub IsInWindow : Window → ℕ → Type 0
IsInWindow window until = (window.earliest ≤ until) × (until ≤ window.latest)

-- calls that only make room: no set is among them
abbrev pub room_plan : Option ℕ → ℕ → Plan
room_plan cutoff deadline = record {
  request = None;
  cutoff = cutoff;
  deadline = deadline;
  window = record { earliest = deadline; latest = deadline };
}

-- what the pass stores now expires at this moment
abbrev pub StoresUntil : ℕ → Pass → Type 0
StoresUntil deadline p =
    (segment : ℕ) × (current_of p ≡ Some segment) × (deadline_of p segment ≡ Some deadline)

-- the calls are those of a put
abbrev pub IsForPut : Plan → Type 0
IsForPut plan = (request : Request) × (plan.request ≡ Some request)

-- A call had its answer. Segments are the pass's own.
-- A set is made only in a segment with a deadline that is asked.
-- Only a put looks for an item of its own, or evicts one row.
abbrev pub IsCall : Board → Plan → PutCall → Pass → Pass → Type 0
IsCall b plan (sets told) p q =
    (key : List ℕ) × (value : List ℕ) × (now : ℕ) × (plan.request ≡ Some (Set key value now))
    × ((until : ℕ) → StoresUntil until p → IsInWindow plan.window until)
    × IsSetAnswer told × Writes b (Set key value now) told p q
IsCall b plan (evicts segment told) p q =
    (owner b.shape segment ≡ number p) × EvictsSegment b segment told p q
IsCall b plan (keeps segment row cutoff told) p q =
    (owner b.shape segment ≡ number p)
    × ((least : ℕ) × (plan.cutoff ≡ Some least) × (least ≤ cutoff))
    × KeepsItem b segment row cutoff told p q
IsCall b plan (refills segment told) p q =
    (owner b.shape segment ≡ number p) × RefillsSegment b segment plan.deadline told p q
IsCall b plan (finds_own found) p q = IsForPut plan × FindsOwn b found p q
IsCall b plan (takes_out segment row told) p q =
    IsForPut plan × (owner b.shape segment ≡ number p) × EvictsItem b segment row told p q

-- the calls were made, one after another
unfoldable pub Makes : Board → Plan → List PutCall → Pass → Pass → Type 0
Makes b plan [] p q = q ≡ p
Makes b plan (call ∷ earlier) p q =
    (between : Pass) × Makes b plan earlier p between × IsCall b plan call between q

-- Since the last set, or the last refill that came about, the segment was refused:
-- its evict was Busy, or its refill Held.
unfoldable pub IsRefused : ℕ → List PutCall → Type 0
IsRefused segment [] = ⊥
IsRefused segment (sets told ∷ earlier) = ⊥
IsRefused segment (refills other refill.Refilled ∷ earlier) = ⊥
IsRefused segment (evicts other (evict.Busy keys) ∷ earlier) =
    (segment ≡ other) ⊎ IsRefused segment earlier
IsRefused segment (refills other refill.Held ∷ earlier) =
    (segment ≡ other) ⊎ IsRefused segment earlier
IsRefused segment (call ∷ earlier) = IsRefused segment earlier

-- ---- which kind a call is of

-- whether it is one for room: an evict, a keep or a refill
abbrev pub is_for_room : PutCall → Bool
is_for_room (evicts segment told) = true
is_for_room (keeps segment row cutoff told) = true
is_for_room (refills segment told) = true
is_for_room _ = false

-- whether it is one that comes of a full bucket: a set that found it so, a look for an own item,
-- or the evict of one row
abbrev pub is_for_word : PutCall → Bool
is_for_word (sets write.BucketFull) = true
is_for_word (finds_own found) = true
is_for_word (takes_out segment row told) = true
is_for_word _ = false

abbrev pub is_set : PutCall → Bool
is_set (sets told) = true
is_set _ = false

-- ---- what calls came to

-- what is counted of it
pub data Amount : Type 0 where
  refilled_segments : Amount
  kept_items : Amount
  evicted_keys : Amount

-- how many segments a call refilled, how many items it moved, or how many keys it evicted
abbrev pub came_to : Amount → PutCall → ℕ
came_to refilled_segments (refills segment refill.Refilled) = 1
came_to kept_items (keeps segment row cutoff kept.Moved) = 1
came_to evicted_keys (evicts segment (evict.Evicted keys)) = keys
came_to evicted_keys (evicts segment (evict.Busy keys)) = keys
came_to evicted_keys (takes_out segment row evict_row.Evicted) = 1
came_to _ _ = 0
