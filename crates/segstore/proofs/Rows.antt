-- Rows of a pass's own: what others leave of them, and what its own stores make of them.
use Rattle.std.proofs.Common.{◌≡◌, ◌≢◌, ℕ, Bool, true, false, eqb, ◌&&◌, List, [], ◌∷◌, ◌++◌, refl, sym, ap, ◌∙◌, subst, cond, ⊎_elim}
use Rattle.std.proofs.lemmas.Bool.{cases_eq, cond-true, cond-false, eq-eqb, ne_eqb, and_from}
use Rattle.std.specs.Prelude.{slice_index}
use Rattle.segword.specs.Words.{place_behind, row_behind}
use Rattle.segmodel.specs.Words.{owner, with_at}
use Rattle.segcore.specs.declared.event.Event.TheVariants.{Filled}
use Rattle.segcore.specs.Words.{AreOwnRows, Event, IsOwnRow, NoneBy, Row, row_after, row_alone, row_at, writes_row}
use Rattle.segcore.proofs.Quiet.{of_row, quiet_alone, quiet_row}
use Rattle.segbase.specs.Words.{AddsAtOnce, AddsEvents, Board, number, Pass, trace}
use Rattle.segbase.proofs.Moves.{moved_then}
use Rattle.segstore.specs.Rows.{fills, StoresRow}
use Rattle.segstore.proofs.ItemRows.{apart_places, in_same}

and_right : (b : Bool) → (b && false) ≡ false
and_right true = refl
and_right false = refl

-- a step with one own event
pub stepped_row : (b : Board) (e : Event) (p q : Pass) (s r : ℕ) (d : AddsAtOnce b (e ∷ []) p q)
    → owner b.shape s ≡ number p → row_alone (trace q) s r ≡ cond (of_row (d.others ++ trace p) e s r)
    (writes_row e (row_alone (trace p) s r)) (row_alone (trace p) s r)
stepped_row b e p q s r d own =
    ap (λ h. row_alone h s r) d.now
    ∙ ap (λ u. cond (of_row (d.others ++ trace p) e s r) (writes_row e u) u) (quiet_alone b.shape d.others (trace p) s r d.before (subst (λ n. NoneBy n d.others) (sym own) d.none))

pub stored : (b : Board) (p q : Pass) (s r place w : ℕ) → AddsAtOnce b (Filled (number p) s r place w ∷ []) p q
    → owner b.shape s ≡ number p → row_alone (trace q) s r ≡ record (row_alone (trace p) s r) {
      words =
          with_at (row_alone (trace p) s r).words place w;
    }
stored b p q s r place w d own =
    let e = Filled (number p) s r place w in let u = row_alone (trace p) s r in
    stepped_row b e p q s r d own ∙ cond-true (row_at e s r) (writes_row e u) u (and_from (eqb s s) (eqb r r) (eq-eqb s s refl) (eq-eqb r r refl))

-- the word that was stored, and the others of the row
pub stored_word : (b : Board) (p q : Pass) (s r place w : ℕ) → AddsAtOnce b (Filled (number p) s r place w ∷ []) p q
    → owner b.shape s ≡ number p → (row_alone (trace q) s r).words place ≡ w
stored_word b p q s r place w d own =
    ap (λ (x : Row). x.words place) (stored b p q s r place w d own)
    ∙ cond-true (eqb place place) w ((row_alone (trace p) s r).words place) (eq-eqb place place refl)

pub other_word : (b : Board) (p q : Pass) (s r place w other : ℕ)
    → AddsAtOnce b (Filled (number p) s r place w ∷ []) p q → owner b.shape s ≡ number p → other ≢ place
    → (row_alone (trace q) s r).words other ≡ (row_alone (trace p) s r).words other
other_word b p q s r place w other d own apart =
    let u = row_alone (trace p) s r in
    ap (λ (x : Row). x.words other) (stored b p q s r place w d own) ∙ cond-false (eqb place other) w (u.words other) (ne_eqb place other (λ e. apart (sym e)))

-- the other rows
other_row : (b : Board) (p q : Pass) (s r place w other : ℕ) → AddsAtOnce b (Filled (number p) s r place w ∷ []) p q
    → owner b.shape s ≡ number p → r ≢ other → row_alone (trace q) s other ≡ row_alone (trace p) s other
other_row b p q s r place w other d own apart =
    let e = Filled (number p) s r place w in let u = row_alone (trace p) s other in
    stepped_row b e p q s other d own
    ∙ cond-false (row_at e s other) (writes_row e u) u (ap (λ t. eqb s s && t) (ne_eqb r other apart) ∙ and_right (eqb s s))

-- the words at the other places of the item that begins in the row
pub other_place : (b : Board) (p q : Pass) (s r place w other : ℕ)
    → AddsAtOnce b (Filled (number p) s (row_behind r place) (place_behind place) w ∷ []) p q
    → owner b.shape s ≡ number p → other ≢ place
    → (row_alone (trace q) s (row_behind r other)).words (place_behind other)
    ≡ (row_alone (trace p) s (row_behind r other)).words (place_behind other)
other_place b p q s r place w other d own apart = ⊎_elim
    (λ same. subst (λ n. (row_alone (trace q) s n).words (place_behind other) ≡ (row_alone (trace p) s n).words (place_behind other)) (sym same)
    (other_word b p q s (row_behind r place) (place_behind place) w (place_behind other) d own (apart_places r place other apart same)))
    (λ rows. ap (λ (u : Row). u.words (place_behind other)) (other_row b p q s (row_behind r place) (place_behind place) w (row_behind r other) d own (λ e. rows (sym e))))
    (cases_eq (row_behind r other) (row_behind r place))

-- a word of the pass's own, after a look
pub looked_word : (b : Board) (p q : Pass) (s r place : ℕ) → AddsAtOnce b [] p q → owner b.shape s ≡ number p
    → (row_alone (trace q) s r).words place ≡ (row_alone (trace p) s r).words place
looked_word b p q s r place d own =
    ap (λ h. (row_alone h s r).words place) d.now
    ∙ ap (λ (u : Row). u.words place)
    (quiet_alone b.shape d.others (trace p) s r d.before (subst (λ n. NoneBy n d.others) (sym own) d.none))

-- ---- the words that were stored

-- a pass that did nothing stored none
pub stores_nothing : (b : Board) (p q : Pass) (segment row : ℕ) (words : List ℕ) → AddsEvents b [] p q → StoresRow b segment row words p q
unfolding fills
stores_nothing b p q segment row words m = ([], m)

pub stores_one : (b : Board) (p q r : Pass) (segment row place : ℕ) (words : List ℕ) → AddsEvents b [] p q
    → AddsAtOnce b (Filled (number q) segment (row_behind row place) (place_behind place)
    (slice_index words place) ∷ []) q r
    → StoresRow b segment row words p r
unfolding fills
stores_one b p q r segment row place words m d =
    let stored : ℕ → List Event = λ n.
    Filled n segment (row_behind row place) (place_behind place) (slice_index words place) ∷ [] in (
      place ∷ [],
      moved_then b [] (stored (number p)) p q r m (subst (λ n. AddsEvents b (stored n) q r) m.same d.moved),
    )

fills_both : (n segment row : ℕ) (words later first : List ℕ) → fills n segment row words (later ++ first) ≡ fills n segment row words later ++ fills n segment row words first
unfolding fills
fills_both n segment row words [] first = refl
fills_both n segment row words (place ∷ later) first =
    ap (λ es. Filled n segment (row_behind row place) (place_behind place) (slice_index words place) ∷ es) (fills_both n segment row words later first)

pub stores_then : (b : Board) (p q r : Pass) (segment row : ℕ) (words : List ℕ) → StoresRow b segment row words p q → StoresRow b segment row words q r → StoresRow b segment row words p r
stores_then b p q r segment row words m k = (
  k.0 ++ m.0,
  subst (λ es. AddsEvents b es p r) (sym (fills_both (number p) segment row words k.0 m.0))
      (moved_then b (fills (number p) segment row words m.0) (fills (number p) segment row words k.0) p q r m.1
      (subst (λ n. AddsEvents b (fills n segment row words k.0) q r) m.1.same k.1)),
)

-- a row of the pass's own is still one where the pass only looked
pub own_looked : (b : Board) (p q : Pass) (s r : ℕ) → AddsAtOnce b [] p q → IsOwnRow b.shape (trace p) (number p) s r → IsOwnRow b.shape (trace q) (number q) s r
own_looked b p q s r d own = (
  own.0,
  own.1,
  own.2 ∙ sym d.moved.same,
  ap (λ h. (row_after h s r).linked) d.now ∙ (ap (λ (u : Row). u.linked) (quiet_row b.shape d.others (trace p) s r d.before (subst (λ n. NoneBy n d.others) (sym own.2) d.none)) ∙ own.3),
)

pub own_rows_looked : (b : Board) (p q : Pass) (s r rows : ℕ) → AddsAtOnce b [] p q → AreOwnRows b.shape (trace p) (number p) s r rows
    → AreOwnRows b.shape (trace q) (number q) s r rows
own_rows_looked b p q s r rows d own =
    in_same (eqb rows 1) (own_looked b p q s r d) (λ all i c. own_looked b p q s i d (all i c)) own

-- and so is one into which it stored a word
pub own_after : (b : Board) (p q : Pass) (s r place w : ℕ) → AddsAtOnce b (Filled (number p) s r place w ∷ []) p q → IsOwnRow b.shape (trace p) (number p) s r
    → IsOwnRow b.shape (trace q) (number q) s r
own_after b p q s r place w d own = (own.0, own.1, own.2 ∙ sym d.moved.same, ap (λ (u : Row). u.linked) (stored b p q s r place w d own.2) ∙ own.3)
