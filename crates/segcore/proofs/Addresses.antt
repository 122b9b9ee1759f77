-- Two words of the table stand at two places, and each within it.
use Rattle.std.proofs.Common.{◌≡◌, ◌≢◌, ℕ, ap, ◌+◌, ◌*◌, ◌<◌, ◌≤◌, Bool, true, false, ◌&&◌, eqb, sym, refl, ◌∙◌, arith}
use Rattle.std.proofs.lemmas.Bool.{eqb-true, eq-eqb, false≢true, and_parts}
use Rattle.std.proofs.lemmas.Nat.{same_from_place, mul-add-lt}
use Rattle.segword.specs.Words.{row_width, Shape, word_count}
use Rattle.segcore.specs.Words.{Cell}
use Rattle.segcore.specs.declared.cell.Cell.TheVariants.{OfCounter, OfBucket, OfOverflow, OfSegment, OfRow}
use Rattle.segcore.specs.Word.{IsCell, same_cell, address, segments_at, segment_size}

-- the segment's own word and its rows, by their places in it
in_segment : (z : Shape) (s i : ℕ) → s < z.passes * z.segments_each → i < segment_size z → s * segment_size z + i < z.passes * z.segments_each * segment_size z
in_segment z s i a b = let e = mul-add-lt s (segment_size z) i (z.passes * z.segments_each) a b in omega arith

row_in : (z : Shape) (r j : ℕ) → r < z.rows → j < row_width → 1 + (r * row_width + j) < segment_size z
row_in z r j a b = let e = mul-add-lt r row_width j z.rows a b in omega arith

pub in_count : (z : Shape) (c : Cell) → IsCell z c → address z c < word_count z
in_count z OfCounter h = omega arith
in_count z (OfBucket b w) h = let e = mul-add-lt b 8 w z.buckets h.0 h.1 in omega arith
in_count z (OfOverflow m w) h = let e = mul-add-lt m 8 w z.overflow h.0 h.1 in omega arith
in_count z (OfSegment s) h = let e = in_segment z s 0 h (omega arith) in omega arith
in_count z (OfRow s r j) h = let e = in_segment z s (1 + (r * row_width + j)) h.0 (row_in z r j h.1 h.2) in omega arith

both : (x y : Bool) → x ≡ true → y ≡ true → (x && y) ≡ true
both x y p q = rw (p, q) refl

-- where a kind of cell begins, and where it ends
abbrev low : Shape → Cell → ℕ
low z OfCounter = 0
low z (OfBucket b w) = 1
low z (OfOverflow m w) = 1 + 8 * z.buckets
low z _ = segments_at z

abbrev high : Shape → Cell → ℕ
high z OfCounter = 1
high z (OfBucket b w) = 1 + 8 * z.buckets
high z (OfOverflow m w) = segments_at z
high z _ = word_count z

bounds : (z : Shape) (c : Cell) → IsCell z c → (low z c ≤ address z c) × (address z c < high z c)
bounds z OfCounter h = (omega arith, omega arith)
bounds z (OfBucket b w) h = let e = mul-add-lt b 8 w z.buckets h.0 h.1 in (omega arith, omega arith)
bounds z (OfOverflow m w) h = let e = mul-add-lt m 8 w z.overflow h.0 h.1 in (omega arith, omega arith)
bounds z (OfSegment s) h = (omega arith, in_count z (OfSegment s) h)
bounds z (OfRow s r j) h = (omega arith, in_count z (OfRow s r j) h)

pub apart : (z : Shape) (c d : Cell) → IsCell z c → IsCell z d → same_cell c d ≡ false → address z c ≢ address z d
apart z OfCounter OfCounter h h' f e = false≢true (sym f)
apart z (OfBucket b n) (OfBucket b' n') h h' f e =
    let q = same_from_place b n b' n' 8 h.1 h'.1 (omega arith) in
    false≢true (sym f ∙ both (eqb b b') (eqb n n') (eq-eqb b b' q.0) (eq-eqb n n' q.1))
apart z (OfOverflow b n) (OfOverflow b' n') h h' f e =
    let q = same_from_place b n b' n' 8 h.1 h'.1 (omega arith) in
    false≢true (sym f ∙ both (eqb b b') (eqb n n') (eq-eqb b b' q.0) (eq-eqb n n' q.1))
apart z (OfSegment s) (OfSegment s') h h' f e =
    let q = same_from_place s 0 s' 0 (segment_size z) (omega arith) (omega arith) (omega arith) in
    false≢true (sym f ∙ eq-eqb s s' q.0)
apart z (OfRow s r j) (OfRow s' r' j') h h' f e =
    let q = same_from_place s (1 + (r * row_width + j)) s' (1 + (r' * row_width + j')) (segment_size z) (row_in z r j h.1 h.2) (row_in z r' j' h'.1 h'.2) (omega arith) in
    let t = same_from_place r j r' j' row_width h.2 h'.2 (let e' = q.1 in omega arith) in
    false≢true (sym f ∙ both (eqb s s') (eqb r r' && eqb j j') (eq-eqb s s' q.0) (both (eqb r r') (eqb j j') (eq-eqb r r' t.0) (eq-eqb j j' t.1)))
apart z (OfSegment s) (OfRow s' r j) h h' f e =
    let q = same_from_place s 0 s' (1 + (r * row_width + j)) (segment_size z) (omega arith) (row_in z r j h'.1 h'.2) (omega arith) in let a = q.1 in omega arith
apart z (OfRow s' r j) (OfSegment s) h' h f e =
    let q = same_from_place s 0 s' (1 + (r * row_width + j)) (segment_size z) (omega arith) (row_in z r j h'.1 h'.2) (omega arith) in let a = q.1 in omega arith
apart z c d h h' f e = let a = bounds z c h in let b = bounds z d h' in let a0 = a.0 in let a1 = a.1 in let b0 = b.0 in let b1 = b.1 in omega arith

pub same_place : (c d : Cell) → same_cell c d ≡ true → c ≡ d
same_place OfCounter OfCounter t = refl
same_place (OfBucket b n) (OfBucket b' n') t = let q = and_parts (eqb b b') (eqb n n') t in let a = eqb-true b b' q.0 in let d = eqb-true n n' q.1 in (λ i. OfBucket (a i) (d i))
same_place (OfOverflow b n) (OfOverflow b' n') t = let q = and_parts (eqb b b') (eqb n n') t in let a = eqb-true b b' q.0 in let d = eqb-true n n' q.1 in (λ i. OfOverflow (a i) (d i))
same_place (OfRow s r j) (OfRow s' r' j') t =
    let q = and_parts (eqb s s') (eqb r r' && eqb j j') t in let w = and_parts (eqb r r') (eqb j j') q.1 in
    let a = eqb-true s s' q.0 in let b = eqb-true r r' w.0 in let d = eqb-true j j' w.1 in (λ i. OfRow (a i) (b i) (d i))
same_place (OfSegment s) (OfSegment s') t = ap OfSegment (eqb-true s s' t)
same_place c d t = absurd (false≢true t)
