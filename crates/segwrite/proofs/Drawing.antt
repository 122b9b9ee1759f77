-- Draws of the next overflow bucket, each from the number to which the one before it found that others had drawn.
use Rattle.std.proofs.Common.{◌≡◌, ℕ, ◌+◌, ◌<◌, ◌≤◌, [], ◌∷◌, Some, None, refl, ap, ◌∙◌, subst, arith}
use Rattle.segcore.specs.declared.event.Event.TheVariants.{Drew}
use Rattle.segcore.specs.Words.{Bucket, draw, drawn_in, May}
use Rattle.segcore.proofs.Limits.{drawn_few}
use Rattle.segbase.specs.Words.{AddsAtOnce, Board, CounterMissed, depth_to_draw, IsPassOf, number}
use Rattle.segbase.specs.Words.{Pass, trace}
use Rattle.segbase.proofs.Moves.{did_quiet, did_has}
use Rattle.segstore.specs.Words.{HasCleanBit, memo, step_count, TakesAtMost}
use Rattle.segwrite.specs.Growing.{bucket_seen, DrawsSpare}
use Rattle.segwrite.proofs.Linking.{did_after, did_nothing}

-- so many are drawn at least, and the pass did nothing yet
pub record Drawing (b : Board) (from : ℕ) (first p : Pass) : Type 0 where
  pub did : AddsAtOnce b [] first p
  pub plain : p.plain ≡ first.plain
  pub memo : memo p ≡ memo first
  pub drawn : from ≤ drawn_in (trace p)
  pub steps : TakesAtMost from first p

pub drawing_first : (b : Board) (p : Pass) → IsPassOf b p → Drawing b 0 p p
drawing_first b p is = record { did = did_nothing b p is; plain = refl; memo = refl; drawn = omega arith; steps = omega arith }

module _ (b : Board) (bucket from : ℕ) (first p q : Pass) (d : Drawing b from first p) (clean : HasCleanBit b first bucket) where
  same : bucket_seen b bucket p ≡ bucket_seen b bucket first
  same = did_quiet b first p bucket d.did clean.bit

  pub may_draw : (bucket_seen b bucket first).chained < 3 → from < b.shape.overflow → May b.shape (trace p) (number p) (draw bucket (depth_to_draw b bucket p) from)
  may_draw short left = let long = ap (λ (u : Bucket). u.chained) same in
      (did_has b first p bucket d.did clean.bit, ap (λ (u : Bucket). u.spare) same ∙ clean.undrawn, refl, omega (arith, short, long), left, d.drawn)

  pub drawing_later : (counter : ℕ) → CounterMissed b from counter p q → step_count q ≡ step_count p + 1 → q.plain ≡ p.plain → memo q ≡ memo p → Drawing b counter first q
  drawing_later counter missed one plain kept = record {
    did = did_after b [] first p q d.did missed.did;
    plain = plain ∙ d.plain;
    memo = kept ∙ d.memo;
    drawn = (let e = missed.is in omega arith);
    steps = (let before = d.steps in let over = missed.over in omega (arith, before, over, one));
  }

  pub drawn_now : AddsAtOnce b (Drew (number p) bucket (depth_to_draw b bucket p) from ∷ []) p q → q.plain ≡ p.plain → memo q ≡ memo p → DrawsSpare b bucket (Some from) first q
  drawn_now drew plain kept = (
    did_after b (Drew (number first) bucket (depth_to_draw b bucket first) from ∷ []) first p q d.did
        (subst (λ n. AddsAtOnce b (Drew n bucket (depth_to_draw b bucket first) from ∷ []) p q) d.did.moved.same
        (subst (λ (u : Bucket). AddsAtOnce b (Drew (number p) bucket (u.chained + 1) from ∷ []) p q) same drew)),
    plain ∙ d.plain,
    kept ∙ d.memo,
  )

-- all are drawn
pub none_left : (b : Board) (bucket from : ℕ) (first p : Pass) → Drawing b from first p → b.shape.overflow ≤ from → DrawsSpare b bucket None first p
none_left b bucket from first p d over = (
  record { moved = d.did.moved; plain = d.plain; memo = d.memo },
  (let few = drawn_few b.shape (trace p) d.did.moved.pass.lawful in let low = d.drawn in omega (arith, over, few, low)),
)

pub drawn_steps : (b : Board) (from : ℕ) (first p : Pass) → Drawing b from first p → TakesAtMost b.shape.overflow first p
drawn_steps b from first p d = let few = drawn_few b.shape (trace p) d.did.moved.pass.lawful in let low = d.drawn in let most = d.steps in omega (arith, few, low, most)
