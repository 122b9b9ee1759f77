-- A segment one of whose rows is linked was used, so that a pass may come into it.
use Rattle.std.proofs.Common.{◌≡◌, ℕ, Bool, true, false, cond, eqb, ◌&&◌, ◌||◌, List, [], ◌∷◌, Some, None, refl, sym, ◌∙◌}
use Rattle.std.proofs.lemmas.Bool.{false≢true}
use Rattle.std.proofs.lemmas.Option.{none-some}
use Rattle.segword.specs.Words.{covers, span_of_header}
use Rattle.segmodel.specs.Words.{key_of}
use Rattle.segcore.specs.declared.event.Event.TheVariants.{Linked, Relinked, Filled, Refilled}
use Rattle.segcore.specs.Row.{writes_row}
use Rattle.segcore.specs.Words.{Event, Row, row_after, row_alone, was_used}

linked_in : (o : Bool) (row other : Row) (k : List ℕ) → other.linked ≡ None → (cond o other row).linked ≡ Some k → row.linked ≡ Some k
linked_in true row other k none on = absurd (none-some k (sym none ∙ on))
linked_in false row other k none on = on

same_linked : (o : Bool) (row other : Row) (k : List ℕ) → other.linked ≡ row.linked → (cond o other row).linked ≡ Some k → row.linked ≡ Some k
same_linked true row other k same on = sym same ∙ on
same_linked false row other k same on = on

elsewhere : (a b : Bool) (row : Row) (now k : List ℕ) → a ≡ false → (cond (a && b) (record row { linked = Some now }) row).linked ≡ Some k → row.linked ≡ Some k
elsewhere true b row now k f on = absurd (false≢true (sym f))
elsewhere false b row now k f on = on

used_or : (a : Bool) (u : Bool) → (a ≡ false → u ≡ true) → (a || u) ≡ true
used_or true u f = refl
used_or false u f = f refl

-- a segment one of whose rows is linked was used
pub linked_used : (h : List Event) (s r : ℕ) (k : List ℕ) → (row_after h s r).linked ≡ Some k → was_used h s ≡ true
linked_used [] s r k on = absurd (none-some k on)
linked_used (Linked p q t i n ∷ h) s r k on =
    used_or (eqb t s) (was_used h s) (λ f. linked_used h s r k (elsewhere (eqb t s) (covers i (span_of_header ((row_alone h t i).words 0)) r) (row_alone h s r) (key_of q) k f on))
linked_used (Relinked p q a b t i n ∷ h) s r k on =
    used_or (eqb t s) (was_used h s) (λ f. linked_used h s r k (elsewhere (eqb t s) (covers i (span_of_header ((row_alone h t i).words 0)) r) (row_alone h s r) q k f on))
linked_used (Filled p t i j w ∷ h) s r k on = linked_used h s r k (same_linked (eqb t s && eqb i r) (row_alone h s r) (writes_row (Filled p t i j w) (row_alone h s r)) k refl on)
linked_used (Refilled p t d ∷ h) s r k on = linked_used h s r k (linked_in (eqb t s) (row_alone h s r) (writes_row (Refilled p t d) (row_alone h s r)) k refl on)
linked_used (e ∷ h) s r k on = linked_used h s r k on
