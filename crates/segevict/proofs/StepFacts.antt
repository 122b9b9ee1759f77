-- Worked examples: how many steps an evict and a keep of one row take.
use Rattle.std.proofs.Common.{◌≡◌, ℕ, ◌+◌, ◌*◌, arith}
use Rattle.segword.specs.Words.{head_width, item_width}
use Rattle.segbase.specs.Words.{Pass}
use Rattle.segstore.specs.Words.{step_count, TakesAtMost}
use Rattle.segevict.specs.declared.eviction.EvictRowAnswer.TheVariants as evict_row
use Rattle.segevict.specs.declared.retention.KeepRowAnswer.TheVariants as kept
use Rattle.segevict.specs.Steps.{most_steps_of_evict_row, most_steps_of_keep_row}

-- an evict of a row takes 384 at most, and no more, where the first words of an item are 4; with 33 it takes 413
abbrev steps_of_evict : ℕ
steps_of_evict = head_width + 380

evicted_in_steps : (p q : Pass) → step_count p ≡ 5 → step_count q ≡ 5 + steps_of_evict → TakesAtMost (most_steps_of_evict_row evict_row.Evicted) p q
evicted_in_steps p q before after = omega (arith, before, after)

evicted_in_no_more : (p q : Pass) → step_count p ≡ 5 → step_count q ≡ 6 + steps_of_evict → ¬ (TakesAtMost (most_steps_of_evict_row evict_row.Evicted) p q)
evicted_in_no_more p q before after took = absurd (omega (arith, before, after, took))

-- a keep of a row takes 409 at most, and no more, where an item has at most 8 words; with 544 it takes 2046
abbrev steps_of_move : ℕ
steps_of_move = head_width + 3 * item_width + 381

moved_in_steps : (p q : Pass) → step_count p ≡ 5 → step_count q ≡ 5 + steps_of_move → TakesAtMost (most_steps_of_keep_row kept.Moved) p q
moved_in_steps p q before after = omega (arith, before, after)

moved_in_no_more : (p q : Pass) → step_count p ≡ 5 → step_count q ≡ 6 + steps_of_move → ¬ (TakesAtMost (most_steps_of_keep_row kept.Moved) p q)
moved_in_no_more p q before after took = absurd (omega (arith, before, after, took))

-- a row that is left costs no exchange
abbrev steps_of_left : ℕ
steps_of_left = head_width + 124

left_in_no_more : (p q : Pass) → step_count p ≡ 5 → step_count q ≡ 6 + steps_of_left → ¬ (TakesAtMost (most_steps_of_evict_row evict_row.Left) p q)
left_in_no_more p q before after took = absurd (omega (arith, before, after, took))
