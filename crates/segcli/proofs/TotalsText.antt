-- Texts that are put together name by name, and line by line.
use Rattle.std.proofs.Common.{◌≡◌, ℕ, ◌+◌, ◌<◌, List, ◌++◌, length, get_or, drop, drop-cons, append-nil, Result, Ok, Err, IfOk, refl, sym, ap, ◌∙◌, add-one}
use Rattle.std.proofs.lemmas.List.{append_assoc}
use Rattle.std.proofs.Math.Seq.{drop-length}
use Rattle.segload.specs.Words.{PassTotals}
use Rattle.segcli.specs.Totals.{texts_from}

-- a text is one that bytes were put behind
pub put_bytes : (old text bytes : List ℕ) {a b : List ℕ} → a ≡ old ++ text → b ≡ a ++ bytes → b ≡ old ++ (text ++ bytes)
put_bytes old text bytes is more = more ∙ ap (λ l. l ++ bytes) is ∙ append_assoc old text bytes

-- a text is one that a name and a number were put behind
pub put_more : (old text name digits : List ℕ) {a b : List ℕ} → a ≡ old ++ text → b ≡ a ++ name ++ digits → b ≡ old ++ (text ++ name ++ digits)
put_more old text name digits is more = put_bytes old (text ++ name) digits (put_bytes old text name is refl) more

pub if_ok : {T E : Type 0} (r : Result T E) {P Q : T → Type 0} → ((v : T) → P v → Q v) → IfOk r P → IfOk r Q
if_ok (Ok v) so p = so v p
if_ok (Err e) so p = p

module _ (text_of : ℕ → PassTotals → List ℕ) where
  -- with the text of one pass more, the texts of the passes after it are still to come
  pub one_pass_more : (text all : List ℕ) (n : ℕ) (passes : List PassTotals) (d : PassTotals) {more : List ℕ}
      → n < length passes → text ++ texts_from text_of n (drop n passes) ≡ all
      → more ≡ text ++ text_of n (get_or passes n d)
      → more ++ texts_from text_of (n + 1) (drop (n + 1) passes) ≡ all
  one_pass_more text all n passes d there is put =
      let line : List ℕ = text_of n (get_or passes n d) in
      ap (λ l. l ++ texts_from text_of (n + 1) (drop (n + 1) passes)) put
      ∙ append_assoc text line (texts_from text_of (n + 1) (drop (n + 1) passes))
      ∙ ap (λ k. text ++ (line ++ texts_from text_of (n + 1) (drop k passes))) (add-one n)
      ∙ ap (λ l. text ++ texts_from text_of n l) (sym (drop-cons passes n d there))
      ∙ is

  -- after the last pass, the texts of all passes are there
  pub all_passes : (text all : List ℕ) (n : ℕ) (passes : List PassTotals) → n ≡ length passes → text ++ texts_from text_of n (drop n passes) ≡ all → text ≡ all
  all_passes text all n passes last is =
      sym (append-nil text) ∙ ap (λ l. text ++ texts_from text_of n l) (sym (ap (λ k. drop k passes) last ∙ drop-length passes)) ∙ is
