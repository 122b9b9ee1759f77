-- A line is cut at its spaces, and no word of a script has one.
use Rattle.std.proofs.Common.{zero, suc, ◌≡◌, ◌≢◌, ℕ, ◌+◌, ◌-◌, ◌<◌, ◌≤◌, ◌^◌, List, [], ◌∷◌, ◌++◌, length, get_or, take, drop, map, eqb, false, refl, sym, ◌∙◌, ap, arith, rules, inl, inr, append_assoc, length-append, length-drop, length-take}
use Rattle.std.specs.List.{slice_split, All, AllByRecursion, join_with_byte}
use Rattle.std.specs.Prelude.{decimal}
use Rattle.std.specs.Int.{IsInRange}
use Rattle.std.proofs.lemmas.List.Elements.{All-from_recursion}
use Rattle.std.proofs.lemmas.Str.Parse.{digit_at}
use Rattle.std.proofs.lemmas.Fmt.{decimal_is_IsNumeral, decimal_injective}
use Rattle.segscript.specs.Spelling.{AreFour, four_words, IsNumber, IsPass, IsTriple, IsWordByte, moment_word, pass_word, triple_words, value_word}
use Rattle.std.proofs.lemmas.Grind.{common_steps}
use Rattle.std.proofs.lemmas.List.{take-append-drop, drop_more, get_or-take, get_or-drop, get_or_default, take_all, map-append, length-map}
use Rattle.std.proofs.lemmas.List.Splits.{slice_split_at, slice_split_none, length-slice_split}
use Rattle.std.proofs.lemmas.Bool.Decides.{eqb_tells}

abbrev pub spaces : List ℕ → List (List ℕ)
spaces = slice_split (λ b. eqb b 32)

-- no space from start up to i
abbrev pub NoSpace : List ℕ → ℕ → ℕ → Type 0
NoSpace line start i = (k : ℕ) → start ≤ k → k < i → get_or line k 0 ≢ 32

seam : (line : List ℕ) (start i : ℕ) → start ≤ i → i < length line → get_or line i 0 ≡ 32 → drop start line ≡ take (i - start) (drop start line) ++ 32 ∷ drop (i + 1) line
seam line start i order within space = grind (arith, common_steps, take-append-drop (i - start) (drop start line), drop_more line i 0 within)

clear : (line : List ℕ) (start i : ℕ) → start ≤ i → i ≤ length line → NoSpace line start i → All (λ b. eqb b 32 ≡ false) (take (i - start) (drop start line))
clear line start i order within none k d h =
    let near : k < i - start = omega (arith, length-take {A = ℕ}) in
    let same : get_or (take (i - start) (drop start line)) k d ≡ get_or line (start + k) 0 =
    get_or-take (i - start) (drop start line) k d near ∙ get_or-drop start line k d ∙ get_or_default line (start + k) d 0 (omega arith) in
    elim (eqb_tells (get_or (take (i - start) (drop start line)) k d) 32) [
      | inl t ↦ absurd (none (start + k) (omega arith) (omega arith) (sym same ∙ t.1))
      | inr f ↦ f.0
    ]

pub spaces-drop : (line : List ℕ) (start i : ℕ) → start ≤ i → i < length line → NoSpace line start i
    → get_or line i 0 ≡ 32 → spaces (drop start line) ≡ take (i - start) (drop start line) ∷ spaces
    (drop (i + 1) line)
spaces-drop line start i order within none space =
    ap spaces (seam line start i order within space) ∙ slice_split_at (λ b. eqb b 32) (take (i - start) (drop start line)) 32 (drop (i + 1) line) (clear line start i order (omega arith) none) refl

pub spaces-last : (line : List ℕ) (start : ℕ) → start ≤ length line → NoSpace line start (length line) → spaces (drop start line) ≡ drop start line ∷ []
spaces-last line start order none =
    slice_split_none (λ b. eqb b 32) (drop start line) (rw whole at (clear line start (length line) order (omega arith) none))
  where
    whole : take (length line - start) (drop start line) ≡ drop start line
    whole = take_all (length line - start) (drop start line) (omega (arith, length-drop {A = ℕ}))

-- the words before start, and no space from there up to i
pub record Cut (line : List ℕ) (ws : List (List ℕ)) (start i : ℕ) : Type 0 where
  pub order : start ≤ i
  pub clear : NoSpace line start i
  pub whole : ws ++ spaces (drop start line) ≡ spaces line

pub cut-start : (line : List ℕ) → Cut line [] 0 0
cut-start line = record { order = omega arith; clear = λ k low high. absurd (omega arith); whole = refl }

pub cut-space : {X : Type 0} (f : X → List ℕ) (line : List ℕ) (ws : List X) (w : X) (start i : ℕ)
    → Cut line (map f ws) start i → i < length line → get_or line i 0 ≡ 32
    → f w ≡ take (i - start) (drop start line) → Cut line (map f (ws ++ w ∷ [])) (i + 1) (i + 1)
cut-space f line ws w start i cut within space word = record {
  order = omega arith;
  clear = λ k low high. absurd (omega arith);
  whole = simp (map-append, append_assoc) (rw word (rw (← spaces-drop line start i cut.order within cut.clear space) cut.whole));
}

pub cut-other : (line : List ℕ) (ws : List (List ℕ)) (start i : ℕ) → Cut line ws start i → get_or line i 0 ≢ 32 → Cut line ws start (i + 1)
cut-other line ws start i cut other = record {
  order = let o = cut.order in omega arith;
  clear = λ k low high. elim (eqb_tells k i) [ inl t ↦ rw t.1 other | inr f ↦ cut.clear k low (omega arith) ];
  whole = cut.whole;
}

pub cut-end : {X : Type 0} (f : X → List ℕ) (line : List ℕ) (ws : List X) (w : X) (start i : ℕ)
    → Cut line (map f ws) start i → i ≡ length line → f w ≡ drop start line → map f (ws ++ w ∷ []) ≡ spaces line
cut-end f line ws w start i cut end word =
    let o = cut.order in
    simp map-append (rw word (rw (← spaces-last line start (omega arith) (rw end at cut.clear)) cut.whole))

pub cut-more : {X : Type 0} (f : X → List ℕ) (line : List ℕ) (ws : List X) (start i : ℕ) → Cut line (map f ws) start i → length ws < length (spaces line)
cut-more f line ws start i cut = rw (← cut.whole) (simp (length-append, length-map, length-slice_split) (omega arith))

-- no space at all
abbrev pub IsSpaceless : List ℕ → Type 0
IsSpaceless w = All (λ b. eqb b 32 ≡ false) w

ne : (b : ℕ) → 33 ≤ b → eqb b 32 ≡ false
ne b high = elim (eqb_tells b 32) [ inl t ↦ absurd (omega arith) | inr f ↦ f.0 ]

pub plain_word : (w : List ℕ) → AllByRecursion IsWordByte w → IsSpaceless w
plain_word w h k d within = ne (get_or w k d) (All-from_recursion IsWordByte w h k d within).0

pub decimal_word : (n : ℕ) → n < 2 ^ 32 → IsSpaceless (decimal n)
decimal_word n small k d within =
    let range : IsInRange 48 57 (get_or (decimal n) k 0) = digit_at (decimal n) k (decimal_is_IsNumeral n (omega arith)).0.1 within in
    rw (get_or_default (decimal n) k d 0 within) (ne (get_or (decimal n) k 0) (omega arith))

pub value_words : (v : List ℕ) → AllByRecursion IsWordByte v → IsSpaceless (value_word v)
value_words [] h = plain_word (45 ∷ []) (search rules)
value_words (b ∷ bs) h = plain_word (b ∷ bs) h

-- words without spaces, joined by spaces, are cut again
pub spaces-join : (w : List ℕ) (ws : List (List ℕ)) → IsSpaceless w → AllByRecursion IsSpaceless ws → spaces (join_with_byte 32 (w ∷ ws)) ≡ w ∷ ws
spaces-join w [] first more = slice_split_none (λ b. eqb b 32) w first
spaces-join w (v ∷ ws) first more =
    slice_split_at (λ b. eqb b 32) w 32 (join_with_byte 32 (v ∷ ws)) first refl ∙ ap (λ r. w ∷ r) (spaces-join v ws more.0 more.1)

pub moment_plain : (m : ℕ) → m < 2 ^ 32 → IsSpaceless (moment_word m)
moment_plain m small k d within = elim k as (λ k. k < length (moment_word m)
    → eqb (get_or (moment_word m) k d) 32 ≡ false) [
      | zero ↦ λ w. refl
      | suc j ↦ λ w. decimal_word m small j d (omega arith)
    ] within

pub pass_plain : (p : ℕ) → p < 2 ^ 32 → IsSpaceless (pass_word p)
pass_plain p small k d within = elim k as (λ k. k < length (pass_word p) → eqb (get_or (pass_word p) k d) 32 ≡ false) [ zero ↦ λ w. refl | suc j ↦ λ w. decimal_word p small j d (omega arith) ] within

-- the third word of these is no moment
pub none-third : (words : List (List ℕ)) (third : List ℕ) → get_or words 2 [] ≡ third → ((n : ℕ) → IsNumber n → third ≡ moment_word n → ⊥)
    → (t : List ℕ × List ℕ × ℕ) → IsTriple t → words ≡ triple_words t → ⊥
none-third words third is none t fits same = none t.2 fits.2 (sym is ∙ ap (λ l. get_or l 2 []) same)

-- the fourth word of these is no moment
pub none-fourth : (words : List (List ℕ)) (fourth : List ℕ) → get_or words 3 [] ≡ fourth → ((n : ℕ) → IsNumber n → fourth ≡ moment_word n → ⊥)
    → (t : List ℕ × List ℕ × ℕ × ℕ) → AreFour t → words ≡ four_words t → ⊥
none-fourth words fourth is none t fits same = none t.3 fits.3 (sym is ∙ ap (λ l. get_or l 3 []) same)

-- the third word of these is no number
pub none-number : (words : List (List ℕ)) (third : List ℕ) → get_or words 2 [] ≡ third → ((n : ℕ) → IsNumber n → third ≡ decimal n → ⊥)
    → (t : List ℕ × List ℕ × ℕ × ℕ) → AreFour t → words ≡ four_words t → ⊥
none-number words third is none t fits same = none t.2 fits.2 (sym is ∙ ap (λ l. get_or l 2 []) same)

-- four words, one by one
pub four_are : (words : List (List ℕ)) {a b c d : List ℕ} → length words ≡ 4 → get_or words 0 [] ≡ a → get_or words 1 [] ≡ b → get_or words 2 [] ≡ c
    → get_or words 3 [] ≡ d → words ≡ a ∷ b ∷ c ∷ d ∷ []
four_are [] long first second third fourth = absurd (omega (arith, long))
four_are (w ∷ []) long first second third fourth = absurd (omega (arith, long))
four_are (w ∷ x ∷ []) long first second third fourth = absurd (omega (arith, long))
four_are (w ∷ x ∷ y ∷ []) long first second third fourth = absurd (omega (arith, long))
four_are (w ∷ x ∷ y ∷ z ∷ []) long first second third fourth = λ i. first i ∷ second i ∷ third i ∷ fourth i ∷ []
four_are (w ∷ x ∷ y ∷ z ∷ v ∷ more) long first second third fourth = absurd (omega (arith, long))

-- a pass number has one word
pub none-pass : (passes pass : ℕ) (word : List ℕ) → IsNumber pass × (take (length word - 1) (drop 1 word) ≡ decimal pass) → passes ≤ pass → (a : ℕ) → IsPass passes a → word ≡ pass_word a → ⊥
none-pass passes pass word read high a fits same =
    let back : take (length (pass_word a) - 1) (drop 1 (pass_word a)) ≡ decimal a = take_all _ _ (omega arith) in
    let one : a ≡ pass = decimal_injective a pass (omega arith) (omega arith) (sym back ∙ ap (λ w. take (length w - 1) (drop 1 w)) (sym same) ∙ read.1) in
    omega arith
