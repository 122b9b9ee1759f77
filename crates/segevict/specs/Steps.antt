-- How many steps an evict and a keep of one row take at most. They wait for nobody.
use Rattle.std.specs.Prelude.{ℕ, ◌+◌, Bool, true, false}
use Rattle.segword.specs.Words.{head_width, item_width}
use Rattle.segwrite.specs.Words.{most_steps_of_row, most_tries_for_bit, most_tries_to_exchange}
use Rattle.segevict.specs.declared.eviction.EvictRowAnswer.{EvictRowAnswer}
use Rattle.segevict.specs.declared.eviction.EvictRowAnswer.TheVariants as evict_row
use Rattle.segevict.specs.declared.retention.KeepRowAnswer.{KeepRowAnswer}
use Rattle.segevict.specs.declared.retention.KeepRowAnswer.TheVariants as kept

-- a look at each of a chain's 28 words
abbrev pub most_looks : ℕ
most_looks = 28

-- Before the bit: the loads of the row's key, and looks along the key's chain.
-- Three loads of word 0 tell how many rows the item takes: before its key is read,
-- before it is moved, and to go on behind it.
abbrev pub most_steps_to_look : ℕ
most_steps_to_look = head_width + most_looks + 3

-- then the tries for the bit
abbrev pub most_steps_to_try : ℕ
most_steps_to_try = most_steps_to_look + most_tries_for_bit

-- with the bit looks along the chain again, and the step that gives the bit back
abbrev pub most_steps_to_leave : ℕ
most_steps_to_leave = most_steps_to_try + most_looks + 1

-- under the bit: the looks, and where the row is named the exchange
abbrev pub most_steps_to_clear : Bool → ℕ
most_steps_to_clear true = most_looks + most_tries_to_exchange
most_steps_to_clear false = most_looks

-- And before it the loads of the item's rows and the writing of others,
-- of which a load tells how many were written.
abbrev pub most_steps_to_move : Bool → ℕ
most_steps_to_move true =
    most_looks + item_width + most_steps_of_row + most_tries_to_exchange + 1
most_steps_to_move false = most_looks

-- An evict of one row takes at most 384 steps if it is Evicted, 128 if Left, and 99 if Busy,
-- where keys have at most 24 bytes.
abbrev pub most_steps_of_evict_row : EvictRowAnswer → ℕ
most_steps_of_evict_row evict_row.Evicted = most_steps_to_leave + most_tries_to_exchange
most_steps_of_evict_row evict_row.Left = most_steps_to_leave
most_steps_of_evict_row evict_row.Busy = most_steps_to_try
most_steps_of_evict_row evict_row.NotYours = 0
most_steps_of_evict_row evict_row.NotUsed = 0

-- A keep of one row takes at most 409 steps if it is Moved, 128 if Left, 99 if Busy,
-- and 35 if there is no room, where keys have at most 24 bytes and values at most 32.
abbrev pub most_steps_of_keep_row : KeepRowAnswer → ℕ
most_steps_of_keep_row kept.Moved =
    most_steps_to_leave + item_width + most_steps_of_row + most_tries_to_exchange + 1
most_steps_of_keep_row kept.Left = most_steps_to_leave
most_steps_of_keep_row kept.NoRoom = most_steps_to_look
most_steps_of_keep_row kept.Busy = most_steps_to_try
most_steps_of_keep_row kept.NotYours = 0
most_steps_of_keep_row kept.NotUsed = 0
