-- Bytes as the digits of words.
use Rattle.std.proofs.Common.{◌≡◌, ℕ, zero, suc, ◌+◌, ◌-◌, ◌*◌, ◌/◌, ◌%◌, ◌^◌, ◌<◌, ◌≤◌, List, [], ◌∷◌, length, get_or, take, drop, bit_or, refl, sym, ap, ◌∙◌, inl, inr, arith}
use Rattle.std.specs.List.{All}
use Rattle.std.specs.Int.{w32, from_le_bytes}
use Rattle.std.proofs.Math.Nat.{pow-suc}
use Rattle.std.proofs.lemmas.Nat.{shr-shr, shr_le, or_shifted}
use Rattle.std.proofs.lemmas.Bool.{cases_lt}
use Rattle.std.proofs.lemmas.List.{get_or-drop, get_or_past, length-drop, length-take-le, drop-drop}
use Rattle.segword.specs.Row.{word_of}

-- every element is a byte, also past the end
pub record AreBytes (bytes : List ℕ) : Type 0 where
  pub at : (i : ℕ) → get_or bytes i 0 < 256

pub AreBytes-from_All : (xs : List ℕ) → All (λ x. x < 256) xs → AreBytes xs
AreBytes-from_All xs h = record {
  at = λ i. elim (cases_lt i (length xs)) [ inl p ↦ h i 0 p | inr p ↦ rw get_or_past (omega arith) ];
}

AreBytes-head : (x : ℕ) (xs : List ℕ) → AreBytes (x ∷ xs) → x < 256
AreBytes-head x xs h = h.at 0

AreBytes-tail : (x : ℕ) (xs : List ℕ) → AreBytes (x ∷ xs) → AreBytes xs
AreBytes-tail x xs h = record { at = λ i. h.at (suc i) }

pub AreBytes-drop : (n : ℕ) (xs : List ℕ) → AreBytes xs → AreBytes (drop n xs)
AreBytes-drop n xs h = record { at = λ i. rw get_or-drop (h.at (n + i)) }

byte_of_take : (n : ℕ) (xs : List ℕ) (i : ℕ) → AreBytes xs → get_or (take n xs) i 0 < 256
byte_of_take zero xs i h = omega arith
byte_of_take (suc n) [] i h = omega arith
byte_of_take (suc n) (x ∷ xs) zero h = h.at 0
byte_of_take (suc n) (x ∷ xs) (suc i) h = byte_of_take n xs i (AreBytes-tail x xs h)

pub AreBytes-take : (n : ℕ) (xs : List ℕ) → AreBytes xs → AreBytes (take n xs)
AreBytes-take n xs h = record { at = λ i. byte_of_take n xs i h }

-- n bytes are a number below 256 ^ n
pub word_of-lt : (n : ℕ) (xs : List ℕ) → AreBytes xs → length xs ≤ n → word_of xs < 256 ^ n
word_of-lt zero [] h l = omega arith
word_of-lt zero (x ∷ xs) h l = absurd (omega arith)
word_of-lt (suc n) [] h l = omega (arith, word_of-lt n [] h (omega arith), pow-suc 256 n)
word_of-lt (suc n) (x ∷ xs) h l = omega (arith, word_of-lt n xs (AreBytes-tail x xs h) (omega arith), AreBytes-head x xs h, pow-suc 256 n)

zero_shr : (k : ℕ) → 0 / 2 ^ k ≡ 0
zero_shr k = omega (arith, shr_le 0 k)

-- two shifts by bytes are one
shr_bytes : (w i j k : ℕ) → i + j ≡ k → w / 2 ^ (8 * i) / 2 ^ (8 * j) ≡ w / 2 ^ (8 * k)
shr_bytes w i j k e = shr-shr w (8 * i) (8 * j) ∙ ap (λ (n : ℕ). w / 2 ^ n) (omega arith)

-- a shift drops the first bytes
pub word_of-shr : (n : ℕ) (xs : List ℕ) → AreBytes xs → word_of xs / 2 ^ (8 * n) ≡ word_of (drop n xs)
word_of-shr zero xs h = omega arith
word_of-shr (suc n) [] h = zero_shr (8 * suc n)
word_of-shr (suc n) (x ∷ xs) h =
    let w : ℕ = word_of xs * 256 + x in
    let first : w / 2 ^ (8 * 1) ≡ word_of xs = omega (arith, AreBytes-head x xs h) in
    sym (shr_bytes w 1 n (suc n) (omega arith)) ∙ ap (λ (v : ℕ). v / 2 ^ (8 * n)) first ∙ word_of-shr n xs (AreBytes-tail x xs h)

low_byte : (xs : List ℕ) → AreBytes xs → word_of xs % 256 ≡ get_or xs 0 0
low_byte [] h = refl
low_byte (x ∷ xs) h = omega (arith, AreBytes-head x xs h)

-- the byte at a place of a number
pub byte_of-word_of : (r : ℕ) (xs : List ℕ) → AreBytes xs → word_of xs / 2 ^ (8 * r) % 256 ≡ get_or xs r 0
byte_of-word_of r xs h =
    ap (λ (n : ℕ). n % 256) (word_of-shr r xs h) ∙ low_byte (drop r xs) (AreBytes-drop r xs h) ∙ get_or-drop r xs 0 0 ∙ ap (λ (i : ℕ). get_or xs i 0) (omega arith)

-- words with the same bytes are the same, from a byte on
same_above : (d k v w : ℕ) → v < 2 ^ 64 → w < 2 ^ 64 → k + d ≡ 8
    → ((j : ℕ) → k ≤ j → j < 8 → v / 2 ^ (8 * j) % 256 ≡ w / 2 ^ (8 * j) % 256) → v / 2 ^ (8 * k) ≡ w / 2 ^ (8 * k)
same_above zero k v w a b e h =
    let all : k ≡ 8 = omega arith in
    rw all (omega arith)
same_above (suc d) k v w a b e h =
    let above = same_above d (k + 1) v w a b (omega arith) (λ j l m. h j (omega arith) m) in
    let here = h k (omega arith) (omega arith) in
    omega (arith, shr_bytes v k 1 (k + 1) refl, shr_bytes w k 1 (k + 1) refl)

pub same_from_bytes : (v w : ℕ) → v < 2 ^ 64 → w < 2 ^ 64 → ((j : ℕ) → j < 8 → v / 2 ^ (8 * j) % 256 ≡ w / 2 ^ (8 * j) % 256) → v ≡ w
same_from_bytes v w a b h = omega (arith, same_above 8 0 v w a b refl (λ j l m. h j m))

-- a word that has no byte from a place on, and one that has none other than 0
pub zero_above : (w k j : ℕ) → w / 2 ^ (8 * k) ≡ 0 → k ≤ j → w / 2 ^ (8 * j) % 256 ≡ 0
zero_above w k j e l =
    let all : w / 2 ^ (8 * j) ≡ 0 = sym (shr_bytes w k (j - k) j (omega arith)) ∙ ap (λ (n : ℕ). n / 2 ^ (8 * (j - k))) e ∙ zero_shr (8 * (j - k)) in
    ap (λ (n : ℕ). n % 256) all

pub none_above : (w k : ℕ) → w < 2 ^ 64 → k < 8 → ((j : ℕ) → k ≤ j → j < 8 → w / 2 ^ (8 * j) % 256 ≡ 0) → w / 2 ^ (8 * k) ≡ 0
none_above w k a l h =
    same_above (8 - k) k w 0 a (omega arith) (omega arith) (λ j m n. h j m n ∙ sym (ap (λ (v : ℕ). v % 256) (zero_shr (8 * j)))) ∙ zero_shr (8 * k)

-- what std reads from bytes, and writes as bytes
pub read_4 : (xs : List ℕ) → length xs ≡ 4 → from_le_bytes w32 xs ≡ word_of xs
read_4 (a ∷ b ∷ c ∷ d ∷ []) l = omega arith
read_4 xs l = absurd (omega arith)

-- the first bytes, and the last ones without those that are among the first
split_4 : (xs : List ℕ) → word_of xs ≡ word_of (drop 4 xs) * 2 ^ 32 + word_of (take 4 xs)
split_4 (a ∷ b ∷ c ∷ d ∷ xs) = omega arith
split_4 xs = omega arith

upper : (xs : List ℕ) (h k j : ℕ) → AreBytes xs → k + j ≡ h → word_of (drop k xs) / 2 ^ (8 * j) ≡ word_of (drop h xs)
upper xs h k j b e =
    word_of-shr j (drop k xs) (AreBytes-drop k xs b) ∙ ap word_of (drop-drop j k xs ∙ ap (λ (n : ℕ). drop n xs) e)

pub joined_4 : (xs : List ℕ) (low high : ℕ) → AreBytes xs → 4 ≤ length xs → length xs < 8
    → low ≡ word_of (take 4 xs) → high ≡ word_of (drop (length xs - 4) xs)
    → bit_or (high / 2 ^ (8 * (8 - length xs)) * 2 ^ 32 % 2 ^ 64) low ≡ word_of xs
joined_4 xs low high b l m el eh =
    let top : ℕ = word_of (drop 4 xs) in
    let bottom : ℕ = word_of (take 4 xs) in
    let top_is : high / 2 ^ (8 * (8 - length xs)) ≡ top = ap (λ (n : ℕ). n / 2 ^ (8 * (8 - length xs))) eh ∙ upper xs 4 (length xs - 4) (8 - length xs) b (omega arith) in
    let small : top < 2 ^ 24 = word_of-lt 3 (drop 4 xs) (AreBytes-drop 4 xs b) (omega (arith, length-drop 4 xs)) in
    let fits : bottom < 2 ^ 32 = word_of-lt 4 (take 4 xs) (AreBytes-take 4 xs b) (omega (arith, length-take-le 4 xs l)) in
    let whole : high / 2 ^ (8 * (8 - length xs)) * 2 ^ 32 % 2 ^ 64 ≡ top * 2 ^ 32 = omega arith in
    ap (λ (n : ℕ). bit_or n low) whole ∙ ap (λ (n : ℕ). bit_or (top * 2 ^ 32) n) el ∙ or_shifted top 32 bottom fits ∙ sym (split_4 xs)
