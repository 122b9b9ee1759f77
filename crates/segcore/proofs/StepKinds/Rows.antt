-- The step that stores a word of a row.
use Rattle.std.proofs.Common.{◌≡◌, ℕ, Bool, true, false, cond, eqb, ◌&&◌, List, [], ◌∷◌, refl, sym, ap, ◌∙◌}
use Rattle.segword.specs.Words.{Shape}
use Rattle.segcore.specs.Kind.{row_store, KeepsLaw}
use Rattle.segcore.specs.Lawful.{Fits, IsLawful}
use Rattle.segcore.specs.Overflow.{home_of}
use Rattle.segcore.specs.Row.{Row, row_alone}
use Rattle.segcore.specs.Word.{IsCell, same_cell, word}
use Rattle.segcore.specs.Words.{Cell, Event}
use Rattle.segcore.specs.declared.event.Event.TheVariants.{Filled}
use Rattle.segcore.specs.declared.cell.Cell.TheVariants.{OfCounter, OfBucket, OfOverflow, OfSegment, OfRow}
use Rattle.segcore.proofs.Spans.{first_words}
use Rattle.segcore.proofs.StepKinds.Words.{made, over_still}

stored_row : (a b : Bool) (u : Row) (j w m : ℕ)
    → (cond (a && b) (record u { words = λ i. cond (eqb j i) w (u.words i) }) u).words m ≡ cond (a && (b && eqb j m)) w (u.words m)
stored_row true true u j w m = refl
stored_row true false u j w m = refl
stored_row false b u j w m = refl

pub store_at : (z : Shape) (p s r j w : ℕ) (h : List Event) → Fits z h (Filled p s r j w) → IsLawful z h
    → KeepsLaw z (row_store s r j w) p h
store_at z p s r j w h f l = made z (row_store s r j w) p h (Filled p s r j w ∷ []) w refl refl (f.suits.0.0, f.suits.0.1, f.suits.1) (refl, tt) (l, f) words
  where
    words : (c : Cell) → IsCell z c
        → word z (Filled p s r j w ∷ h) c ≡ cond (same_cell (OfRow s r j) c) w (word z h c)
    words OfCounter i = refl
    words (OfBucket b n) i = refl
    words (OfOverflow m n) i = over_still z h (Filled p s r j w) (λ a b. refl) n (home_of h m)
    words (OfSegment t) i = refl
    words (OfRow t k m) i =
        first_words (Filled p s r j w ∷ h) t k m i.2
        ∙ stored_row (eqb s t) (eqb r k) (row_alone h t k) j w m
        ∙ ap (cond (same_cell (OfRow s r j) (OfRow t k m)) w) (sym (first_words h t k m i.2))
