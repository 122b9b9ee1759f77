-- What recycles a segment: answers as numbers, and entries of a history.
use Rattle.std.specs.Prelude.{ℕ, Bool, true, false}
use Rattle.segmodel.specs.declared.answer.EvictAnswer.TheVariants as evict
use Rattle.segmodel.specs.declared.answer.RefillAnswer.TheVariants as refill
use Rattle.segmodel.specs.declared.entry.Entry.TheVariants.{Evicted, Moved, Refilled}
use Rattle.segmodel.specs.Words.{Entry, EvictAnswer, RefillAnswer}

-- how many keys an evict took out that has this answer
abbrev pub evicted_by : EvictAnswer → ℕ
evicted_by (evict.Evicted keys) = keys
evicted_by (evict.Busy keys) = keys
evicted_by evict.NotYours = 0

-- how many segments a refill refilled that has this answer
abbrev pub refilled_by : RefillAnswer → ℕ
refilled_by refill.Refilled = 1
refilled_by _ = 0

abbrev pub is_eviction : Entry → Bool
is_eviction (Evicted pass key segment) = true
is_eviction _ = false

abbrev pub is_refilling : Entry → Bool
is_refilling (Refilled pass segment deadline) = true
is_refilling _ = false

abbrev pub is_move : Entry → Bool
is_move (Moved pass key from into) = true
is_move _ = false
