-- With one pass, an item that an entry brings into a segment takes the next rows there: the keys, the frequencies and the used rows are then those of the model.
use Rattle.std.proofs.Common.{◌≡◌, ◌≢◌, ℕ, ◌+◌, ◌≤◌, ◌<◌, ◌&&◌, Bool, true, false, cond, List, [], ◌∷◌, ◌++◌, length, Some, refl, sym, ap, ◌∙◌, arith, eqb, eq-eqb}
use Rattle.std.proofs.lemmas.Bool.{cond-true, cond-false, ne_eqb, eqb-true, and_from, and_right}
use Rattle.std.proofs.lemmas.Option.{same_Some}
use Rattle.segmodel.specs.Words.{after, Filling, standing, with_at, with_rows}
use Rattle.segmodel.proofs.Spans.{frequencies_with, keys_with, pushed_rows, state_with}
use Rattle.segcore.specs.Words.{frequency_in}
use Rattle.segbase.specs.Words.{Board, marked, Pass, seen}
use Rattle.segbase.specs.Words.{state_of, used_of}
use Rattle.segstore.specs.Words.{IsQuiet}
use Rattle.segevict.specs.Words.{UsesRows}
use Rattle.segsolo.specs.Alone.{frequencies_in, or_empty, state_at, CountsRows, IsAlone, NamesLastRows}
use Rattle.segsolo.specs.Stored.{came_with, frequencies_of, items_stored_in, keys_of_rows, keys_stored_in}
use Rattle.segsolo.proofs.AloneRefills.{with_at-same, with_at-other, by_segment}
use Rattle.segsolo.proofs.AloneRows.{brought_named}
use Rattle.segsolo.proofs.Marks.{BringsItem}
use Rattle.segsolo.proofs.Rows.{frequencies_pushed, items_some, keys_pushed}

module _ (b : Board) (p q : Pass) (key : List ℕ) (frequency rows segment : ℕ) (was : IsAlone b p)
    (stored : (s : ℕ) → items_stored_in b.shape (seen q) s
    ≡ cond (eqb segment s) (items_stored_in b.shape (seen p) s ++ (key, rows) ∷ []) (items_stored_in b.shape (seen p) s))
    (some : 1 ≤ rows) (used : used_of p segment ≡ Some (length (keys_stored_in b.shape (seen p) segment)))
    (uses : UsesRows segment rows p q) where
  abbrev old : ℕ → Filling
  old = (state_at b.shape p).filling

  abbrev longer : Filling
  longer = with_rows rows key frequency ((state_at b.shape p).filling segment)

  abbrev filling : ℕ → Filling
  filling = with_at (state_at b.shape p).filling segment longer

  -- ---- items and keys

  stored_here : items_stored_in b.shape (seen q) segment ≡ items_stored_in b.shape (seen p) segment ++ (key, rows) ∷ []
  stored_here = stored segment
      ∙ cond-true (eqb segment segment) (items_stored_in b.shape (seen p) segment ++ (key, rows) ∷ []) (items_stored_in b.shape (seen p) segment) (eq-eqb segment segment refl)

  pub stored_elsewhere : (s : ℕ) → segment ≢ s → items_stored_in b.shape (seen q) s ≡ items_stored_in b.shape (seen p) s
  stored_elsewhere s ne = stored s ∙ cond-false (eqb segment s) (items_stored_in b.shape (seen p) s ++ (key, rows) ∷ []) (items_stored_in b.shape (seen p) s) (ne_eqb segment s ne)

  pub keys_then : (s : ℕ) → keys_stored_in b.shape (seen q) s ≡ (filling s).keys
  keys_then = by_segment (λ s. keys_stored_in b.shape (seen q) s ≡ (filling s).keys) segment
      (ap keys_of_rows stored_here ∙ (keys_pushed (items_stored_in b.shape (seen p) segment) key rows
      ∙ (sym (keys_with rows key frequency (old segment)) ∙ sym (ap (λ (f : Filling). f.keys) (with_at-same old segment segment longer refl)))))
      (λ s ne. ap keys_of_rows (stored_elsewhere s ne) ∙ sym (ap (λ (f : Filling). f.keys) (with_at-other old segment s longer ne)))

  -- ---- what the pass keeps

  pub used_more : used_of q segment ≡ Some (length (keys_stored_in b.shape (seen p) segment) + rows)
  used_more = uses.used (length (keys_stored_in b.shape (seen p) segment)) used

  pub state_then : (s : ℕ) → or_empty (state_of q s) ≡ (filling s).state
  state_then s = ap or_empty (uses.states s) ∙ by (eqb segment s) (eqb-true segment s)
    where
      by : (here : Bool) → (here ≡ true → segment ≡ s) → or_empty (state_of p s) ≡ (cond here longer (old s)).state
      by true same = ap (λ s. or_empty (state_of p s)) (sym (same refl)) ∙ sym (state_with rows key frequency (old segment))
      by false same = refl

  pub counts : CountsRows b.shape q
  counts s count is = by_segment (λ s. used_of q s ≡ Some count → count ≡ length (filling s).keys) segment
      (λ is. same_Some count (length (keys_stored_in b.shape (seen p) segment) + rows) (sym is ∙ used_more)
      ∙ (sym (pushed_rows rows key frequency (old segment)) ∙ sym (ap (λ (f : Filling). length f.keys) (with_at-same old segment segment longer refl))))
      (λ s ne is. was.used s count (sym (uses.others s (λ e. ne (sym e))) ∙ is) ∙ sym (ap (λ (f : Filling). length f.keys) (with_at-other old segment s longer ne)))
      s is ∙ ap (λ (keys : List (List ℕ)). length keys) (sym (keys_then s))

  -- ---- the item names the first of the rows that were used

  module _ (quiet : IsQuiet b q) (brought : BringsItem key segment frequency (marked p) (marked q)) (row_is : brought.row ≡ length (keys_stored_in b.shape (seen p) segment)) where
    abbrev next : ℕ
    next = length (keys_stored_in b.shape (seen p) segment)

    abbrev items : List (List ℕ × ℕ)
    items = items_stored_in b.shape (seen p) segment

    -- the new row has its frequency, and the others what they had
    frequency_then : (s row : ℕ) → frequency_in (marked q) s row ≡ cond (eqb segment s && eqb next row) frequency (frequency_in (marked p) s row)
    frequency_then s row = brought.frequencies s row ∙ ap (λ n. cond (eqb segment s && eqb n row) frequency (frequency_in (marked p) s row)) row_is

    came_then : (s row : ℕ) → came_with (marked q) s row ≡ cond (eqb segment s && eqb next row) frequency (came_with (marked p) s row)
    came_then s row = brought.came s row ∙ ap (λ n. cond (eqb segment s && eqb n row) frequency (came_with (marked p) s row)) row_is

    at_next : (row : ℕ) → 0 + next ≡ row → (eqb segment segment && eqb next row) ≡ true
    at_next row is = and_from (eqb segment segment) (eqb next row) (eq-eqb segment segment refl) (eq-eqb next row (omega (arith, is)))

    before_next : (row : ℕ) → row < 0 + next → (eqb segment segment && eqb next row) ≡ false
    before_next row low = ap (λ t. eqb segment segment && t) (ne_eqb next row (λ e. omega (arith, e, low))) ∙ and_right (eqb segment segment) false refl

    pub frequencies_then : (s : ℕ) → frequencies_in b.shape q s ≡ (filling s).frequencies
    frequencies_then s = by_segment (λ s. frequencies_in b.shape q s ≡ (filling s).frequencies) segment here elsewhere s
      where
        here : frequencies_in b.shape q segment ≡ (filling segment).frequencies
        here =
            ap (frequencies_of (came_with (marked q) segment) (frequency_in (marked q) segment) 0) stored_here
            ∙ (frequencies_pushed (came_with (marked p) segment) (frequency_in (marked p) segment) (came_with (marked q) segment) (frequency_in (marked q) segment)
            frequency 0 items key rows some (items_some b.shape (seen p) segment)
            (λ row low. (
              came_then segment row ∙ ap (λ t. cond t frequency (came_with (marked p) segment row)) (before_next row low),
              frequency_then segment row ∙ ap (λ t. cond t frequency (frequency_in (marked p) segment row)) (before_next row low),
            ))
            (came_then segment (0 + next) ∙ ap (λ t. cond t frequency (came_with (marked p) segment (0 + next))) (at_next (0 + next) refl))
            (frequency_then segment (0 + next) ∙ ap (λ t. cond t frequency (frequency_in (marked p) segment (0 + next))) (at_next (0 + next) refl))
            ∙ (sym (frequencies_with rows key frequency (old segment))
            ∙ sym (ap (λ (f : Filling). f.frequencies) (with_at-same old segment segment longer refl))))

        elsewhere : (other : ℕ) → segment ≢ other → frequencies_in b.shape q other ≡ (filling other).frequencies
        elsewhere other apart =
            (λ i. frequencies_of
            (λ row. (came_then other row ∙ ap (λ t. cond (t && eqb next row) frequency (came_with (marked p) other row)) (ne_eqb segment other apart)) i)
            (λ row. (frequency_then other row ∙ ap (λ t. cond (t && eqb next row) frequency (frequency_in (marked p) other row)) (ne_eqb segment other apart)) i)
            0 (stored_elsewhere other apart i))
            ∙ sym (ap (λ (f : Filling). f.frequencies) (with_at-other old segment other longer apart))

    -- what stands under other keys stood there before
    pub named : ((other : List ℕ) → key ≢ other → standing (after b.shape (seen q)) other ≡ standing (after b.shape (seen p)) other) → NamesLastRows b.shape q
    named others = brought_named b p q key frequency rows segment was quiet brought row_is stored_here (λ s ne. stored_elsewhere s (λ e. ne (sym e))) others
