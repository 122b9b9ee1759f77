-- Worked examples: what the answers to writes leave as it was, what a set isn't told, and how many steps they take.
use Rattle.std.proofs.Common.{◌≡◌, ◌+◌, [], arith}
use Rattle.segword.specs.Words.{head_width, item_width, Shape}
use Rattle.segmodel.specs.declared.answer.WriteAnswer.TheVariants as write
use Rattle.segmodel.specs.declared.answer.DeleteAnswer.TheVariants as delete
use Rattle.segmodel.specs.declared.request.Request.TheVariants.{Set, Cas}
use Rattle.segmodel.specs.Words.{Request}
use Rattle.segbase.specs.Words.{Pass}
use Rattle.segstore.specs.Words.{step_count, TakesAtMost}
use Rattle.segwrite.specs.Steps.{most_steps_of_delete, most_steps_of_write}
use Rattle.segwrite.specs.Writes.{IsSetAnswer, IsWriteAnswer}

-- a write that lacks a row changes nothing, not even what the pass has seen
no_room : (shape : Shape) (request : Request) (p q : Pass) → IsWriteAnswer shape request write.NoRoom p q → q ≡ p
no_room shape request p q is = is

-- a set doesn't depend on what stands
not_stored : ¬ (IsSetAnswer write.NotStored)
not_stored set = set

exists : ¬ (IsSetAnswer write.Exists)
exists set = set

not_found : ¬ (IsSetAnswer write.NotFound)
not_found set = set

-- ---- steps

-- where the lengths and the longest key have four words, and the longest item has eight
abbrev IsShort : Type 0
IsShort = (head_width ≡ 4) × (item_width ≡ 8)

-- there a set that finds a word takes 477 at most, and no more
set_in_steps : (p q : Pass) → IsShort → step_count p ≡ 5 → step_count q ≡ 5 + 477 → TakesAtMost (most_steps_of_write (Set [] [] 0)) p q
set_in_steps p q short before after = omega (arith, short.0, short.1, before, after)

set_in_no_more : (p q : Pass) → IsShort → step_count p ≡ 5 → step_count q ≡ 6 + 477 → ¬ (TakesAtMost (most_steps_of_write (Set [] [] 0)) p q)
set_in_no_more p q short before after took = absurd (omega (arith, short.0, short.1, before, after, took))

-- a cas that finds one 480
cas_in_no_more : (p q : Pass) → IsShort → step_count p ≡ 5 → step_count q ≡ 6 + 480 → ¬ (TakesAtMost (most_steps_of_write (Cas [] [] 0 0)) p q)
cas_in_no_more p q short before after took = absurd (omega (arith, short.0, short.1, before, after, took))

-- a delete 463, or 207 where the key is absent
delete_in_no_more : (p q : Pass) → IsShort → step_count p ≡ 5 → step_count q ≡ 6 + 463 → ¬ (TakesAtMost (most_steps_of_delete delete.Deleted) p q)
delete_in_no_more p q short before after took = absurd (omega (arith, short.0, short.1, before, after, took))

absent_in_no_more : (p q : Pass) → IsShort → step_count p ≡ 5 → step_count q ≡ 6 + 207 → ¬ (TakesAtMost (most_steps_of_delete delete.NotFound) p q)
absent_in_no_more p q short before after took = absurd (omega (arith, short.0, short.1, before, after, took))
