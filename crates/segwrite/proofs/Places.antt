-- Places of a chain stay where they are, and a pass that only looks leaves all of its bucket as it is.
use Rattle.std.proofs.Common.{◌≡◌, ℕ, ◌+◌, ◌-◌, ◌*◌, ◌<◌, Bool, true, false, cond, ltb, List, [], ◌++◌, Some, refl, sym, ap, ◌∙◌, subst, arith}
use Rattle.std.proofs.lemmas.Bool.{cond-false, le-ltb}
use Rattle.segword.specs.Words.{Shape}
use Rattle.segcore.specs.declared.cell.Cell.TheVariants.{OfBucket, OfOverflow}
use Rattle.segcore.specs.Words.{bucket_after, Event, HasBit, home, home_of, IsAt, IsItemAt}
use Rattle.segcore.specs.Words.{IsLawful, Step}
use Rattle.segcore.proofs.Cells.{at_stays}
use Rattle.segcore.proofs.Quiet.{position_stays}
use Rattle.segbase.specs.Words.{AddsAtOnce, AddsEvents, Board, cell_at, depth_of, number, Pass}
use Rattle.segbase.specs.Words.{Place, position, Stepped, trace}
use Rattle.segbase.proofs.Moves.{moved_then}
use Rattle.segstore.specs.Words.{Idles, OnlyLooks}
use Rattle.segwrite.specs.Writing.{IsInChain}
use Rattle.segstore.proofs.UnderBit.{moved_bucket, moved_bit}

-- ---- looks

pub idles_then : (b : Board) (p q r : Pass) → Idles b p q → Idles b q r → Idles b p r
idles_then b p q r i j = record { moved = moved_then b [] [] p q r i.moved j.moved; plain = j.plain ∙ i.plain; memo = j.memo ∙ i.memo }

pub looked_idles : (b : Board) (p q : Pass) → OnlyLooks b p q → Idles b p q
looked_idles b p q l = record { moved = l.did.moved; plain = l.plain; memo = l.memo }

pub step_idles : (b : Board) (step : Step) (found : ℕ) (p q : Pass) → Stepped b step found p q → AddsAtOnce b [] p q → Idles b p q
step_idles b step found p q s d = record { moved = d.moved; plain = s.plain; memo = s.memo }

pub idle_bucket : (b : Board) (p q : Pass) (bucket : ℕ) → Idles b p q → HasBit b.shape (trace p) (number p) bucket → bucket_after b.shape (trace q) bucket ≡ bucket_after b.shape (trace p) bucket
idle_bucket b p q bucket i bit = moved_bucket b [] p q bucket i.moved bit tt

pub idle_bit : (b : Board) (p q : Pass) (bucket : ℕ) → Idles b p q → HasBit b.shape (trace p) (number p) bucket → HasBit b.shape (trace q) (number q) bucket
idle_bit b p q bucket i bit = moved_bit b [] p q bucket i.moved bit tt

-- ---- places

position_of : (z : Shape) (h : List Event) (b n : ℕ) (place : Place) (t : Bool) → IsAt h b n (cond t (OfBucket place.bucket place.word) (OfOverflow (place.bucket - z.buckets) place.word))
    → cond t place.word (8 * depth_of (home_of h (place.bucket - z.buckets)) + place.word) ≡ n
position_of z h b n place true at = at.1
position_of z h b n place false at = ap (λ o. 8 * depth_of o + place.word) at.1 ∙ sym at.2

-- the position of a place is the one whose cell it is
pub position_at : (z : Shape) (h : List Event) (b n : ℕ) (place : Place) → IsAt h b n (cell_at z place) → position z h place ≡ n
position_at z h b n place at = position_of z h b n place (ltb place.bucket z.buckets) at

module _ (b : Board) (own : List Event) (p q : Pass) (bucket : ℕ) (place : Place) (m : AddsEvents b own p q) (chain : IsInChain b bucket place p) where
  abbrev n : ℕ
  n = position b.shape (trace p) place

  lawful_on : IsLawful b.shape (m.more ++ trace p)
  lawful_on = subst (IsLawful b.shape) m.goes_on m.pass.lawful

  still_there : IsItemAt b.shape (trace q) bucket n (cell_at b.shape place)
  still_there = subst (λ h. IsItemAt b.shape h bucket n (cell_at b.shape place)) (sym m.goes_on)
      (position_stays b.shape m.more (trace p) bucket n chain.at.0, at_stays b.shape m.more (trace p) bucket n (cell_at b.shape place) lawful_on chain.at.1)

  pub same_position : position b.shape (trace q) place ≡ position b.shape (trace p) place
  same_position = position_at b.shape (trace q) bucket n place still_there.1

  pub chain_later : IsInChain b bucket place q
  chain_later = record { in_table = chain.in_table; at = subst (λ k. IsItemAt b.shape (trace q) bucket k (cell_at b.shape place)) (sym same_position) still_there }

-- a word of an overflow bucket is at that depth of the chain for which the bucket was drawn
pub overflow_at : (z : Shape) (h : List Event) (b depth number w : ℕ) → home_of h number ≡ Some (home b depth)
    → w < 8 → IsAt h b (8 * depth + w) (cell_at z (record { bucket = z.buckets + number; word = w }))
overflow_at z h b depth number w is lt =
    let low : ltb (z.buckets + number) z.buckets ≡ false = le-ltb (z.buckets + number) z.buckets (omega arith) in
    let off : z.buckets + number - z.buckets ≡ number = omega arith in
    subst (IsAt h b (8 * depth + w)) (sym (cond-false (ltb (z.buckets + number) z.buckets) (OfBucket (z.buckets + number) w) (OfOverflow (z.buckets + number - z.buckets) w) low))
    (subst (λ m. IsAt h b (8 * depth + w) (OfOverflow m w)) (sym off) (depth, is, refl, lt))
