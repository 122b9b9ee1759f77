-- How many steps a write takes: tries of one exchange, and all steps of a call.
use Rattle.std.proofs.Common.{◌≡◌, ◌≢◌, ℕ, ◌+◌, ◌*◌, ◌/◌, ◌^◌, ◌<◌, ◌≤◌, false, refl, sym, ◌∙◌, arith}
use Rattle.segword.specs.Words.{IsSameItem, Shape}
use Rattle.segmodel.specs.declared.answer.WriteAnswer.TheVariants as write
use Rattle.segmodel.specs.declared.request.Request.TheVariants.{Set, Add, Replace, Cas, Delete}
use Rattle.segmodel.specs.Words.{Request, WriteAnswer}
use Rattle.segbase.specs.Words.{Pass}
use Rattle.segstore.specs.Words.{step_count, TakesAtMost}
use Rattle.segwrite.specs.Steps.{most_steps_of_draw, most_steps_of_growth, most_steps_of_refusal, most_steps_of_row, most_steps_of_search, most_steps_of_write}
use Rattle.segwrite.specs.Steps.{most_steps_to_see, most_steps_to_tell, most_tries_for_bit, most_tries_to_exchange, WritesInSteps}
use Rattle.segwrite.specs.Presence.{depends_on_key}

-- ---- tries of an exchange

-- After so many tries in vain the item's word has risen from the first one to this one.
pub record Retried (first word tries : ℕ) : Type 0 where
  pub tag : word / 2 ^ 52 ≡ first / 2 ^ 52
  pub rises : tries + first / 2 ^ 44 ≤ word / 2 ^ 44

pub retried_none : (word : ℕ) → Retried word word 0
retried_none word = record { tag = refl; rises = omega arith }

pub retried_more : (first word found tries : ℕ) → Retried first word tries → IsSameItem word found → word < found → Retried first found (tries + 1)
retried_more first word found tries r same higher = record {
  tag = sym same.1 ∙ r.tag;
  rises = (let rises = r.rises in let place = same.2 in omega (arith, rises, place, higher));
}

pub retried_few : (first word tries : ℕ) → Retried first word tries → tries < 256
retried_few first word tries r = let tag = r.tag in let rises = r.rises in omega (arith, tag, rises)

-- each try in vain took a step
pub record TriedAgain (first word : ℕ) (p q : Pass) : Type 0 where
  pub tries : ℕ
  pub retried : Retried first word tries
  pub steps : step_count q ≤ step_count p + tries

pub tried_first : (word : ℕ) (p : Pass) → TriedAgain word word p p
tried_first word p = record { tries = 0; retried = retried_none word; steps = omega arith }

pub tried_later : (first word found : ℕ) (p q r : Pass) → TriedAgain first word p q → IsSameItem word found → word < found → TakesAtMost 1 q r → TriedAgain first found p r
tried_later first word found p q r t same higher one = record {
  tries = t.tries + 1;
  retried = retried_more first word found t.tries t.retried same higher;
  steps = (let before = t.steps in omega (arith, before, one));
}

pub tried_few : (first word : ℕ) (p q r : Pass) → TriedAgain first word p q → TakesAtMost 1 q r → TakesAtMost 256 p r
tried_few first word p q r t one = let few = retried_few first word t.tries t.retried in let before = t.steps in omega (arith, few, before, one)

-- ---- tries to join a chain

-- each try in vain took two steps
pub record TriedToJoin (first word : ℕ) (p q : Pass) : Type 0 where
  pub tries : ℕ
  pub retried : Retried first word tries
  pub steps : step_count q ≤ step_count p + 2 * tries

pub joined_first : (word : ℕ) (p : Pass) → TriedToJoin word word p p
joined_first word p = record { tries = 0; retried = retried_none word; steps = omega arith }

pub joined_later : (first word found : ℕ) (p q r : Pass) → TriedToJoin first word p q → IsSameItem word found → word < found → TakesAtMost 2 q r → TriedToJoin first found p r
joined_later first word found p q r t same higher two = record {
  tries = t.tries + 1;
  retried = retried_more first word found t.tries t.retried same higher;
  steps = (let before = t.steps in omega (arith, before, two));
}

pub joined_few : (first word : ℕ) (p q r : Pass) → TriedToJoin first word p q → TakesAtMost 2 q r → TakesAtMost 512 p r
joined_few first word p q r t two = let few = retried_few first word t.tries t.retried in let before = t.steps in omega (arith, few, before, two)

-- ---- a whole write: p, where it began; q, with the bit; f, after the search; g, after the look; r, with room; t, stored; s, with the bit given back

module _ (request : Request) (p q f g : Pass) (takes : TakesAtMost most_tries_for_bit p q)
    (searches : TakesAtMost most_steps_of_search q f) (looks : TakesAtMost (most_steps_to_tell request) f g) where
  pub refused_steps : (s : Pass) → TakesAtMost 1 g s → TakesAtMost (most_steps_of_refusal request) p s
  refused_steps s gives = omega (arith, takes, searches, looks, gives)

  pub full_steps : (shape : Shape) (r s : Pass) → TakesAtMost (most_steps_of_draw shape) g r
      → step_count s ≡ step_count r + 1 → TakesAtMost (most_steps_of_refusal request + most_steps_of_draw shape) p s
  full_steps shape r s draws gives = omega (arith, takes, searches, looks, draws, gives)

  pub stored_steps : (r t s : Pass) → TakesAtMost 0 g r → TakesAtMost (most_steps_of_row + most_tries_to_exchange) r t → step_count s ≡ step_count t + 1 → TakesAtMost (most_steps_of_write request) p s
  stored_steps r t s none stores gives = omega (arith, takes, searches, looks, none, stores, gives)

  pub grown_steps : (shape : Shape) (r t s : Pass) → TakesAtMost (most_steps_of_growth shape) g r
      → TakesAtMost (most_steps_of_row + most_tries_to_exchange) r t → step_count s ≡ step_count t + 1
      → TakesAtMost (most_steps_of_write request + most_steps_of_growth shape) p s
  grown_steps shape r t s grows stores gives = omega (arith, takes, searches, looks, grows, stores, gives)

-- a refusal by the cache
pub told_steps : (shape : Shape) (request : Request) (told : WriteAnswer) (p s : Pass) → told ≢ write.Stored
    → told ≢ write.NoRoom → told ≢ write.BucketFull → told ≢ write.Busy
    → TakesAtMost (most_steps_of_refusal request) p s → WritesInSteps shape request told p s
told_steps shape request write.Stored p s unstored some word free steps = absurd (unstored refl)
told_steps shape request write.NotStored p s unstored some word free steps = steps
told_steps shape request write.Exists p s unstored some word free steps = steps
told_steps shape request write.NotFound p s unstored some word free steps = steps
told_steps shape request write.NoRoom p s unstored some word free steps = absurd (some refl)
told_steps shape request write.BucketFull p s unstored some word free steps = absurd (word refl)
told_steps shape request write.Busy p s unstored some word free steps = absurd (free refl)

-- ---- what tells whether the cache refuses it

-- the key of any other write than a set is looked for in its segment
pub sees_key : (request : Request) → ¬ (depends_on_key request ≡ false) → 2 ≤ most_steps_to_see request
sees_key (Set key value now) depends = absurd (depends refl)
sees_key (Add key value now) depends = omega arith
sees_key (Replace key value now) depends = omega arith
sees_key (Cas key value version now) depends = omega arith
sees_key (Delete key now) depends = omega arith
