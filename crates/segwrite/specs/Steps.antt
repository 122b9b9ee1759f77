-- How many steps writes and deletes take at most. They wait for nobody.
use Rattle.std.specs.Prelude.{ℕ, ◌+◌, ◌*◌, ◌⊎◌, Option, Some, None}
use Rattle.segword.specs.Words.{head_width, item_width, Shape}
use Rattle.segmodel.specs.declared.answer.WriteAnswer.TheVariants as write
use Rattle.segmodel.specs.declared.answer.DeleteAnswer.TheVariants as delete
use Rattle.segmodel.specs.declared.request.Request.TheVariants.{Set, Cas}
use Rattle.segmodel.specs.Words.{DeleteAnswer, key_of, Request, WriteAnswer}
use Rattle.segbase.specs.Words.{number, Pass, trace}
use Rattle.segstore.specs.Words.{TakesAtMost}
use Rattle.segwrite.specs.declared.find.Found.{Found}
use Rattle.segwrite.specs.declared.find.Found.TheVariants.{Word, Full}
use Rattle.segwrite.specs.declared.find.Target.{Target}
use Rattle.segwrite.specs.Full.{DrewInNeed}

-- tries for a bucket's bit
abbrev pub most_tries_for_bit : ℕ
most_tries_for_bit = 64

-- A search under the bit: a look at each of a chain's 28 words,
-- and at a word with the key's tag the loads of the row's key.
abbrev pub most_steps_of_search : ℕ
most_steps_of_search = 28 * (1 + head_width)

-- An exchange of an item word. It is tried again only if a hit has raised the item's frequency,
-- which is below 256.
abbrev pub most_tries_to_exchange : ℕ
most_tries_to_exchange = 256

-- The rows of an item written word by word: a load, and a store where the word differs.
abbrev pub most_steps_of_row : ℕ
most_steps_of_row = 2 * item_width

-- ---- room for a key

-- an exchange for each overflow bucket that is found drawn by another
abbrev pub most_steps_of_draw : Shape → ℕ
most_steps_of_draw shape = shape.overflow

-- A chain that grows: an overflow bucket is drawn, and joins the chain.
-- Each try to join stores the overflow bucket's first word, and exchanges the chain's last one.
abbrev pub most_steps_of_growth : Shape → ℕ
most_steps_of_growth shape = most_steps_of_draw shape + 2 * most_tries_to_exchange

abbrev pub most_steps_of_room : Shape → Found → Option Target → ℕ
most_steps_of_room shape (Word target) room = 0
most_steps_of_room shape (Full end) None = most_steps_of_draw shape
most_steps_of_room shape (Full end) (Some target) = most_steps_of_growth shape

-- ---- writes

-- Whether the key is present: the coming into the segment of its item, and the leaving.
-- A set doesn't depend on that.
abbrev pub most_steps_to_see : Request → ℕ
most_steps_to_see (Set key value now) = 0
most_steps_to_see request = 2

-- a cas looks at the version of its bucket
abbrev pub most_looks_at_version : Request → ℕ
most_looks_at_version (Cas key value version now) = 1
most_looks_at_version request = 0

abbrev pub most_steps_to_tell : Request → ℕ
most_steps_to_tell request = most_steps_to_see request + most_looks_at_version request

-- A write that is refused: the tries, the search, what tells whether the cache refuses it,
-- and the step that gives the bit back.
abbrev pub most_steps_of_refusal : Request → ℕ
most_steps_of_refusal request =
    most_tries_for_bit + most_steps_of_search + most_steps_to_tell request + 1

-- A write that is stored takes the steps of the row and of the exchange more.
abbrev pub most_steps_of_write : Request → ℕ
most_steps_of_write request =
    most_steps_of_refusal request + most_steps_of_row + most_tries_to_exchange

-- A set that is stored takes at most 477 steps, an add or replace 479, a cas 480.
-- It takes more only if its key was new, and the chain had to grow.
-- NoRoom takes no step, and Busy the tries.
abbrev pub WritesInSteps : Shape → Request → WriteAnswer → Pass → Pass → Type 0
WritesInSteps shape request write.Stored p q =
    TakesAtMost (most_steps_of_write request) p q
    ⊎ (TakesAtMost (most_steps_of_write request + most_steps_of_growth shape) p q
    × DrewInNeed shape (key_of request) (number p) (trace p) (trace q))
WritesInSteps shape request write.NoRoom p q = TakesAtMost 0 p q
WritesInSteps shape request write.BucketFull p q =
    TakesAtMost (most_steps_of_refusal request + most_steps_of_draw shape) p q
WritesInSteps shape request write.Busy p q = TakesAtMost most_tries_for_bit p q
WritesInSteps shape request _ p q = TakesAtMost (most_steps_of_refusal request) p q

-- ---- deletes

-- under the bit: the search, the coming into the item's segment and the leaving, the exchange,
-- and the step that gives the bit back
abbrev pub most_steps_to_remove : DeleteAnswer → ℕ
most_steps_to_remove delete.Deleted = most_steps_of_search + 2 + most_tries_to_exchange + 1
most_steps_to_remove delete.NotFound = most_steps_of_search + 2 + 1
most_steps_to_remove delete.Busy = 0

-- A delete takes at most 463 steps if it is Deleted, 207 if it is NotFound, and 64 if it is Busy.
abbrev pub most_steps_of_delete : DeleteAnswer → ℕ
most_steps_of_delete told = most_tries_for_bit + most_steps_to_remove told
