-- A ring that goes once round gives each segment of its pass.
use Rattle.std.proofs.Common.{◌≡◌, ◌≢◌, ◌⊎◌, ℕ, ◌+◌, ◌-◌, ◌*◌, ◌/◌, ◌%◌, ◌<◌, ◌≤◌, ap, ◌∙◌, inl, inr, arith, mod-lt, div-add-mod', eq-zero-or-pos}
use Rattle.std.proofs.Math.Nat.{mod-eq_of_lt, mod_self}
use Rattle.std.proofs.lemmas.Nat.{div-mul-add, mod_below}
use Rattle.segword.specs.Words.{Shape}
use Rattle.segmodel.specs.Words.{owner}
use Rattle.segbase.specs.Words.{Board}
use Rattle.segpolicy.specs.Words.{Cycle, next_of, turned}
use Rattle.segtally.specs.Rings.{IsOwnRing}

-- the segments of a pass, from its first one on
pub own_at : (b : Board) (pass ahead : ℕ) → ahead < b.shape.segments_each → owner b.shape (pass * b.shape.segments_each + ahead) ≡ pass
own_at b pass ahead below = div-mul-add pass b.shape.segments_each ahead below

-- and no others
pub own_is : (shape : Shape) (pass segment : ℕ) → 0 < shape.segments_each → owner shape segment ≡ pass → (ahead : ℕ) × (ahead < shape.segments_each) × (pass * shape.segments_each + ahead ≡ segment)
own_is shape pass segment some is =
    let each = shape.segments_each in
    let whole : segment / each * each + segment % each ≡ segment = div-add-mod' segment each in
    let at : segment / each * each ≡ pass * each = ap (λ n. n * each) is in
    (segment % each, mod-lt segment some, omega (arith, whole, at))

-- the numbers of the ring are segments of the pass
pub own_in_ring : (b : Board) (pass : ℕ) (ring : Cycle) (segment : ℕ) → IsOwnRing b.shape pass ring → ring.first ≤ segment → segment < ring.first + ring.count → owner b.shape segment ≡ pass
own_in_ring b pass ring segment own from below =
    let first = own.0 in
    let count = own.1 in
    let at : segment ≡ pass * b.shape.segments_each + (segment - ring.first) = omega (arith, first) in
    ap (owner b.shape) at ∙ own_at b pass (segment - ring.first) (omega (arith, count))

-- and the segments of the pass are in the ring
in_ring : (shape : Shape) (pass : ℕ) (ring : Cycle) (segment : ℕ) → 0 < shape.segments_each
    → IsOwnRing shape pass ring → owner shape segment ≡ pass → (ring.first ≤ segment)
    × (segment < ring.first + ring.count)
in_ring shape pass ring segment some own is =
    let each = shape.segments_each in
    let whole : segment / each * each + segment % each ≡ segment = div-add-mod' segment each in
    let part : segment % each < each = mod-lt segment some in
    let at : segment / each * each ≡ pass * each = ap (λ n. n * each) is in
    let first = own.0 in
    let count = own.1 in
    (omega (arith, whole, part, at, first), omega (arith, whole, part, at, first, count))

-- the segment is among so many that the ring gives next
abbrev pub IsAhead : Cycle → ℕ → ℕ → Type 0
IsAhead ring left segment =
    ((next_of ring ≤ segment) × (segment < next_of ring + left)) ⊎ (segment + ring.count < next_of ring + left)

given-turned : (ring : Cycle) → ring.given < ring.count → ((turned ring).given ≡ ring.given + 1) ⊎ (((turned ring).given ≡ 0) × (ring.given + 1 ≡ ring.count))
given-turned ring inside = elim (eq-zero-or-pos (ring.count - (ring.given + 1))) [
  | inl none ↦
      let last : ring.given + 1 ≡ ring.count = omega arith in
      inr (ap (λ (n : ℕ). n % ring.count) last ∙ mod_self ring.count, last)
  | inr some ↦ let more : ring.given + 1 < ring.count = omega arith in inl (mod-eq_of_lt more)
]

module _ (shape : Shape) (pass : ℕ) (ring : Cycle) (some : 0 < shape.segments_each) (own : IsOwnRing shape pass ring) where
  -- it is the same ring after a call
  pub own_turned : IsOwnRing shape pass (turned ring)
  own_turned = (own.0, own.1, mod_below _ _ (let inside = own.2 in omega (arith, inside)))

  module _ (segment : ℕ) (is : owner shape segment ≡ pass) where
    -- each segment is among all of them
    pub all_ahead : IsAhead ring shape.segments_each segment
    all_ahead =
        let at = in_ring shape pass ring segment some own is in
        let from = at.0 in
        let below = at.1 in
        let count = own.1 in
        elim (eq-zero-or-pos (next_of ring - segment)) [
          | inl none ↦ inl (omega arith, omega (arith, from, below, count))
          | inr past ↦ inr (omega (arith, from, below, count))
        ]

    -- once one was given, all others are among the rest
    pub still_ahead : (left : ℕ) → segment ≢ next_of ring → IsAhead ring (left + 1) segment → IsAhead (turned ring) left segment
    still_ahead left other ahead =
        let at = in_ring shape pass ring segment some own is in
        let from = at.0 in
        let below = at.1 in
        let inside = own.2 in
        elim ahead [
          | inl here ↦ elim (given-turned ring inside) [
            | inl more ↦ inl (omega (arith, other, here.0, more), omega (arith, here.1, more))
            | inr last ↦ absurd (omega (arith, other, here.0, below, last.1))
          ]
          | inr past ↦ elim (given-turned ring inside) [
            | inl more ↦ inr (omega (arith, past, more))
            | inr last ↦ inl (omega (arith, from, last.0), omega (arith, past, last.0, last.1))
          ]
        ]

    -- once it went round, none is left
    pub none_ahead : IsAhead ring 0 segment → ⊥
    none_ahead ahead =
        let from = (in_ring shape pass ring segment some own is).0 in
        let inside = own.2 in
        elim ahead [
          | inl here ↦ omega (arith, here.0, here.1)
          | inr past ↦ omega (arith, past, from, inside)
        ]
