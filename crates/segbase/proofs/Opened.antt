-- The words of a table at the start.
use Rattle.std.proofs.Common.{◌≡◌, ◌≢◌, ℕ, zero, suc, ◌+◌, ◌*◌, ◌%◌, ◌^◌, ◌<◌, ◌≤◌, ◌⊎◌, List, [], length, get_or, set, eqb, sym, ap, ◌∙◌, subst, inl, inr, ⊎_elim, arith, get_or-set_same, get_or-set_other}
use Rattle.std.proofs.lemmas.Bool.{cases_Bool, eqb-true, eq-eqb, false≢true}
use Rattle.std.proofs.Math.Nat.{mod-eq_of_lt}
use Rattle.segword.specs.Words.{row_width, Shape, word_count}
use Rattle.segcore.specs.declared.cell.Cell.TheVariants.{OfCounter, OfBucket, OfOverflow, OfSegment, OfRow}
use Rattle.segcore.specs.Words.{address, Cell, IsCell, segment_size, segments_at, word}
use Rattle.segcore.proofs.Spans.{first_words}
use Rattle.segbase.specs.Opening.{IsOpened}

-- the first buckets, this many, have the information word v, and every other word is 0
pub record IsBegun (v buckets : ℕ) (words : List ℕ) : Type 0 where
  pub done : (k : ℕ) → k < buckets → get_or words (1 + 8 * k) 0 ≡ v
  pub rest : (i : ℕ) → ((k : ℕ) → k < buckets → i ≢ 1 + 8 * k) → get_or words i 0 ≡ 0

decide : (k b : ℕ) → (k ≡ b) ⊎ (k ≢ b)
decide k b = ⊎_elim (λ t. inl (eqb-true k b t)) (λ f. inr (λ e. false≢true (sym f ∙ eq-eqb k b e))) (cases_Bool (eqb k b))

equal_or_below : (k b : ℕ) → k < b + 1 → (k ≡ b) ⊎ (k < b)
equal_or_below k b lt = ⊎_elim (λ e. inl e) (λ ne. inr (omega arith)) (decide k b)

pub begun_one : (v b : ℕ) (words : List ℕ) → 1 + 8 * b < length words → IsBegun v b words → IsBegun v (b + 1) (set words (1 + 8 * b) v)
begun_one v b words within begun = record {
  done = λ k lt. ⊎_elim
      (λ (e : k ≡ b). subst (λ n. get_or (set words (1 + 8 * b) v) (1 + 8 * n) 0 ≡ v) (sym e) (get_or-set_same words (1 + 8 * b) v 0 within))
      (λ (below : k < b). get_or-set_other words (1 + 8 * b) (1 + 8 * k) v 0 (λ e. omega arith) ∙ begun.done k below)
      (equal_or_below k b lt);
  rest = λ i none. get_or-set_other words (1 + 8 * b) i v 0 (none b (omega arith)) ∙ begun.rest i (λ k lt. none k (omega arith));
}

version : (v : ℕ) → v < 2 ^ 32 → v * 2 ^ 32 ≡ (v + 0) % 2 ^ 32 * 2 ^ 32 + 0
version v fits = let e : (v + 0) % 2 ^ 32 ≡ v + 0 = mod-eq_of_lt (omega arith) in omega arith

at_front : (z : Shape) (s : ℕ) → 8 * z.buckets ≤ segments_at z + s * segment_size z
at_front z s = omega arith

at_place : (words : List ℕ) (i j v : ℕ) → i ≡ j → get_or words j 0 ≡ v → get_or words i 0 ≡ v
at_place words i j v e is = ap (λ n. get_or words n 0) e ∙ is

each_word : (z : Shape) (words : List ℕ) → z.first_version < 2 ^ 32 → IsBegun (z.first_version * 2 ^ 32) z.buckets words → (c : Cell) → IsCell z c → get_or words (address z c) 0 ≡ word z [] c
each_word z words fits begun OfCounter is = begun.rest 0 (λ k lt. omega arith)
each_word z words fits begun (OfBucket b zero) is = at_place words (1 + (b * 8 + 0)) (1 + 8 * b) _ (omega arith) (begun.done b is.0) ∙ version z.first_version fits
each_word z words fits begun (OfBucket b (suc n)) is = begun.rest (1 + (b * 8 + suc n)) (λ k lt e. let a = is.1 in omega arith)
each_word z words fits begun (OfOverflow m w) is = begun.rest (1 + 8 * z.buckets + (m * 8 + w)) (λ k lt e. omega arith)
each_word z words fits begun (OfSegment s) is = begun.rest (segments_at z + s * segment_size z) (λ k lt e. let f = at_front z s in omega arith)
each_word z words fits begun (OfRow s r j) is =
    begun.rest (segments_at z + (s * segment_size z + (1 + (r * row_width + j)))) (λ k lt e. let f = at_front z s in omega arith) ∙ sym (first_words [] s r j is.2)

pub opened : (z : Shape) (words : List ℕ) → z.first_version < 2 ^ 32 → length words ≡ word_count z → IsBegun (z.first_version * 2 ^ 32) z.buckets words → IsOpened z words
opened z words fits long begun = record { long = long; each = each_word z words fits begun }
