-- With one pass, a refill is served as the model says.
use Rattle.std.proofs.Common.{◌≡◌, ◌≢◌, ℕ, Bool, true, false, cond, List, [], ◌∷◌, length, Option, Some, None, option_map, refl, sym, ap, subst, ◌∙◌, inl, inr, ⊎_elim, arith, eqb, eq-eqb}
use Rattle.std.specs.Prelude.{◌↔◌}
use Rattle.std.proofs.lemmas.Bool.{false≢true, cond-true, cond-false, cases_Bool, cases_eq, ne_eqb, eqb-true}
use Rattle.std.proofs.lemmas.Option.{same_Some}
use Rattle.segmodel.specs.declared.entry.Entry.TheVariants as entry
use Rattle.segmodel.specs.declared.answer.SegState.TheVariants.{Empty, InUse, Evicted}
use Rattle.segmodel.specs.declared.answer.RefillAnswer.TheVariants as refill
use Rattle.segmodel.specs.declared.answer.Answer.TheVariants as answer
use Rattle.segmodel.specs.declared.answer.Command.TheVariants as command
use Rattle.segmodel.specs.Words.{after, after_refill, Filling, is_held, is_own, refill_answer}
use Rattle.segmodel.specs.Words.{RefillAnswer, SegState, with_at}
use Rattle.segbase.specs.declared.pass.PlainPart.{PlainPart}
use Rattle.segcore.specs.Words.{frequency_in}
use Rattle.segbase.specs.Words.{Board, Held, holding, marked, Memo, number, Pass, seen, state_of, trace}
use Rattle.segbase.specs.Words.{used_of}
use Rattle.segstore.proofs.Idling.{unchanged}
use Rattle.segstore.specs.Words.{ChangesNothing, DrawsNothing, GoesOn, is_held_in, RaisesNothing}
use Rattle.segindex.specs.Words.{IsBeingRead, IsRefillAnswer, Refills}
use Rattle.segsolo.specs.Alone.{frequencies_in, or_empty, item_of, state_at, CountsRows, IsAlone, ServesAlone}
use Rattle.segsolo.specs.Stored.{came_with, frequencies_of, items_stored_in, keys_of_rows, keys_stored_in}
use Rattle.segindex.proofs.OnePass.{nobody_inside}
use Rattle.segindex.proofs.Refills.{refills_state, refills_used, other_states, other_used}
use Rattle.segsolo.proofs.AlonePass.{more_seen, at_state, left, not_own, own_is, SameFrequencies}
use Rattle.segsolo.proofs.AloneRows.{frequencies_kept, frequencies_still, refilled_named, served, served_still}
use Rattle.segsolo.proofs.AloneWidths.{same_widths}

pub with_at-same : {A : Type 0} (f : ℕ → A) (place n : ℕ) (value : A) → place ≡ n → with_at f place value n ≡ value
with_at-same f place n value e = rw (eq-eqb place n e) refl

pub with_at-other : {A : Type 0} (f : ℕ → A) (place n : ℕ) (value : A) → place ≢ n → with_at f place value n ≡ f n
with_at-other f place n value ne = rw (ne_eqb place n ne) refl

-- a fact of each segment is one of this segment and one of the others
pub by_segment : (P : ℕ → Type 0) (segment : ℕ) → P segment → ((other : ℕ) → segment ≢ other → P other) → (other : ℕ) → P other
by_segment P segment here rest other = elim (cases_eq segment other) [ inl e ↦ subst P e here | inr ne ↦ rest other ne ]

module _ (b : Board) (p q : Pass) (segment deadline : ℕ) (was : IsAlone b p) (on : GoesOn b p q) (undrawn : DrawsNothing p q) (unraised : RaisesNothing p q) where
  -- what the model answers
  abbrev told : RefillAnswer
  told = cond (is_own b.shape segment) (refill_answer (state_at b.shape p) segment (or_empty (state_of p segment))) refill.NotYours

  of_own : (is : SegState) → state_of p segment ≡ Some is → told ≡ refill_answer (state_at b.shape p) segment is
  of_own is e = λ i. cond (own_is b p segment is was e i) (refill_answer (state_at b.shape p) segment (or_empty (e i))) refill.NotYours

  not_yours : state_of p segment ≡ None → told ≡ refill.NotYours
  not_yours e = cond-false (is_own b.shape segment) (refill_answer (state_at b.shape p) segment (or_empty (state_of p segment))) refill.NotYours (not_own b p segment was e)

  -- the model holds an item in the segment where the pass does
  held_alike : (held : Option Held) → is_held (option_map item_of held) segment ≡ is_held_in held segment
  held_alike None = refl
  held_alike (Some held) = refl

  -- nobody else is in a segment
  read_by_itself : IsBeingRead segment q → is_held_in (holding q) segment ≡ true
  read_by_itself (inl (other, apart, there)) =
      let nobody = nobody_inside (number q) other segment (trace q) apart (on.quiet.pass.alone was.one) in absurd (omega arith)
  read_by_itself (inr held) = held

  still_serves : (given : RefillAnswer) → told ≡ given → ChangesNothing p q → after_refill segment deadline given (state_at b.shape p) ≡ state_at b.shape p
      → ServesAlone b (command.Refill segment deadline) (answer.Refill given) p q
  still_serves given e nothing stays = served_still b (command.Refill segment deadline) (answer.Refill given) p q was on nothing (
    sym (ap answer.Refill e),
    left b p q was on nothing (same_widths b p q was on undrawn)
        (frequencies_still b p q was on nothing.entries unraised)
        ∙ (sym stays ∙ sym (ap (λ g. after_refill segment deadline g (state_at b.shape p)) e)),
  )

  -- ---- Held

  -- a held item's segment was filled
  held_filled : (held : Option Held) → holding p ≡ held → is_held_in held segment ≡ true → state_of p segment ≢ Some Empty
  held_filled None is here empty = false≢true here
  held_filled (Some held) is here empty = was.kept.held (item_of held) (ap (option_map item_of) is) (ap (λ s. or_empty (state_of p s)) (eqb-true held.segment segment here) ∙ ap or_empty empty)

  held_told : (is : SegState) → state_of p segment ≡ Some is → is ≢ InUse → is_held_in (holding p) segment ≡ true → refill_answer (state_at b.shape p) segment is ≡ refill.Held
  held_told Empty e ne here = absurd (held_filled (holding p) refl here e)
  held_told InUse e ne here = absurd (ne refl)
  held_told Evicted e ne here = cond-true (is_held (option_map item_of (holding p)) segment) refill.Held refill.Refilled (held_alike (holding p) ∙ here)

  -- ---- Refilled

  refilled_told : (is : SegState) → is ≢ InUse → (is ≡ Evicted → is_held_in (holding p) segment ≡ false) → refill_answer (state_at b.shape p) segment is ≡ refill.Refilled
  refilled_told Empty ne free = refl
  refilled_told InUse ne free = absurd (ne refl)
  refilled_told Evicted ne free = cond-false (is_held (option_map item_of (holding p)) segment) refill.Held refill.Refilled (held_alike (holding p) ∙ free refl)

  module _ (refills : Refills segment deadline p q) where
    more : seen q ≡ entry.Refilled (number p) segment deadline ∷ seen p
    more = more_seen b p q (entry.Refilled (number p) segment deadline ∷ []) was on.quiet refills.entry

    abbrev begun : Filling
    begun = record { state = InUse; keys = []; frequencies = [] }

    state_then : (s : ℕ) → or_empty (state_of q s) ≡ (with_at (state_at b.shape p).filling segment begun s).state
    state_then = by_segment (λ s. or_empty (state_of q s) ≡ (with_at (state_at b.shape p).filling segment begun s).state) segment
        (ap or_empty (refills_state segment deadline p q refills) ∙ sym (ap (λ (f : Filling). f.state) (with_at-same (state_at b.shape p).filling segment segment begun refl)))
        (λ s ne. ap or_empty (other_states segment deadline p q refills s (λ e. ne (sym e))) ∙ sym (ap (λ (f : Filling). f.state) (with_at-other (state_at b.shape p).filling segment s begun ne)))

    items_then : (s : ℕ) → items_stored_in b.shape (seen q) s ≡ cond (eqb segment s) [] (items_stored_in b.shape (seen p) s)
    items_then s = ap (λ h. items_stored_in b.shape h s) more

    keys_then : (s : ℕ) → keys_stored_in b.shape (seen q) s ≡ (with_at (state_at b.shape p).filling segment begun s).keys
    keys_then s = ap keys_of_rows (items_then s) ∙ by (eqb segment s)
      where
        by : (here : Bool) → keys_of_rows (cond here [] (items_stored_in b.shape (seen p) s)) ≡ (cond here begun ((state_at b.shape p).filling s)).keys
        by true = refl
        by false = refl

    frequencies_then : (s : ℕ) → frequencies_in b.shape q s ≡ (with_at (state_at b.shape p).filling segment begun s).frequencies
    frequencies_then s =
        (λ i. frequencies_of (λ row. (same s row).1 i) (λ row. (same s row).0 i) 0 (items_then s i)) ∙ by (eqb segment s)
      where
        same : SameFrequencies p q
        same = frequencies_kept b p q was on (entry.Refilled (number p) segment deadline ∷ []) refills.entry (refl, tt) unraised

        by : (here : Bool) → frequencies_of (came_with (marked p) s) (frequency_in (marked p) s) 0 (cond here [] (items_stored_in b.shape (seen p) s))
            ≡ (cond here begun ((state_at b.shape p).filling s)).frequencies
        by true = refl
        by false = refl

    at_refilled : state_at b.shape q ≡ after_refill segment deadline refill.Refilled (state_at b.shape p)
    at_refilled =
        let widths = same_widths b p q was on undrawn in
        at_state b.shape q (after_refill segment deadline refill.Refilled (state_at b.shape p))
        (ap (after b.shape) more) state_then keys_then frequencies_then
        (ap (λ (x : PlainPart). x.current) refills.plain) widths.wide widths.drawn
        (ap (λ (m : Memo). option_map item_of m.holding) refills.memo)
        (ap (λ (x : PlainPart). x.locked) refills.plain)

    counts : CountsRows b.shape q
    counts s count is = by_segment (λ s. used_of q s ≡ Some count → count ≡ length (with_at (state_at b.shape p).filling segment begun s).keys) segment
        (λ is. same_Some count 0 (sym is ∙ refills_used segment deadline p q refills)
        ∙ sym (ap (λ (f : Filling). length f.keys)
        (with_at-same (state_at b.shape p).filling segment segment begun refl)))
        (λ s ne is. was.used s count (sym (other_used segment deadline p q refills s (λ e. ne (sym e))) ∙ is)
        ∙ sym (ap (λ (f : Filling). length f.keys)
        (with_at-other (state_at b.shape p).filling segment s begun ne)))
        s is ∙ ap (λ (keys : List (List ℕ)). length keys) (sym (keys_then s))

  refill_serves : (given : RefillAnswer) → IsRefillAnswer segment deadline given p q
      → ((given ≡ refill.NotYours) ↔ (state_of p segment ≡ None))
      → ((given ≡ refill.NotEvicted) ↔ (state_of p segment ≡ Some InUse))
      → (state_of p segment ≡ Some Evicted → is_held_in (holding p) segment ≡ true → given ≡ refill.Held) → ServesAlone b (command.Refill segment deadline) (answer.Refill given) p q
  refill_serves refill.NotYours same not_yours_where in_use held = still_serves refill.NotYours (not_yours (not_yours_where.0 refl)) (unchanged p q same) refl
  refill_serves refill.NotEvicted same not_yours_where in_use held = still_serves refill.NotEvicted (of_own InUse (in_use.0 refl)) (unchanged p q same) refl
  refill_serves refill.Held (nothing, read, tried, once) not_yours_where in_use held = by (state_of p segment) refl
    where
      by : (kept : Option SegState) → state_of p segment ≡ kept → ServesAlone b (command.Refill segment deadline) (answer.Refill refill.Held) p q
      by None e = let no : refill.Held ≡ refill.NotYours = not_yours_where.1 e in cc
      by (Some is) e =
          let here : is_held_in (holding p) segment ≡ true = ap (λ (m : Memo). is_held_in m.holding segment) (sym nothing.memo) ∙ read_by_itself read in
          still_serves refill.Held (of_own is e ∙ held_told is e (λ used. let no : refill.Held ≡ refill.NotEvicted = in_use.1 (e ∙ ap Some used) in cc) here) nothing refl
  refill_serves refill.Refilled refills not_yours_where in_use held = by (state_of p segment) refl
    where
      by : (kept : Option SegState) → state_of p segment ≡ kept → ServesAlone b (command.Refill segment deadline) (answer.Refill refill.Refilled) p q
      by None e = let no : refill.Refilled ≡ refill.NotYours = not_yours_where.1 e in cc
      by (Some is) e =
          let is_told : told ≡ refill.Refilled = of_own is e ∙ refilled_told is (λ used. let no : refill.Refilled ≡ refill.NotEvicted = in_use.1 (e ∙ ap Some used) in cc)
          (λ evicted. ⊎_elim
          (λ here. let no : refill.Refilled ≡ refill.Held = held (e ∙ ap Some evicted) here in cc)
          (λ free. free)
          (cases_Bool (is_held_in (holding p) segment))) in
          served b (command.Refill segment deadline) (answer.Refill refill.Refilled) p q was on.quiet (counts refills) (refilled_named b p q segment deadline was on refills.entry)
          (sym (ap answer.Refill is_told), at_refilled refills ∙ sym (ap (λ g. after_refill segment deadline g (state_at b.shape p)) is_told))

-- ---- served

pub serves_refill : (b : Board) (p q : Pass) (segment deadline : ℕ) (told : RefillAnswer) → IsAlone b p → GoesOn b p q → DrawsNothing p q → RaisesNothing p q → IsRefillAnswer segment deadline told p q
    → ((told ≡ refill.NotYours) ↔ (state_of p segment ≡ None)) → ((told ≡ refill.NotEvicted) ↔ (state_of p segment ≡ Some InUse))
    → (state_of p segment ≡ Some Evicted → is_held_in (holding p) segment ≡ true → told ≡ refill.Held) → ServesAlone b (command.Refill segment deadline) (answer.Refill told) p q
serves_refill b p q segment deadline told was on undrawn unraised is not_yours in_use held = refill_serves b p q segment deadline was on undrawn unraised told is not_yours in_use held
