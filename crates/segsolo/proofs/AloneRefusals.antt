-- With one pass, the model refuses a write where the call does: no row is left, or no word.
use Rattle.std.proofs.Common.{◌≡◌, ℕ, ◌+◌, ◌*◌, ◌==◌, ◌&&◌, not, nat_le, nat_lt, Bool, true, false, cond, length, is_some, Option, Some, None, refl, sym, ap, ◌∙◌, inl, inr, ⊎_elim, arith, eq-eqb}
use Rattle.std.specs.Prelude.{option_and_then}
use Rattle.std.proofs.lemmas.Bool.{cases_lt, lt-ltb, le-ltb, lt-leb, le-leb, and_right}
use Rattle.std.proofs.lemmas.Option.{none-some}
use Rattle.segword.specs.Words.{Shape}
use Rattle.segmodel.specs.declared.answer.SegState.TheVariants.{InUse}
use Rattle.segmodel.specs.Serving.{are_short}
use Rattle.segmodel.specs.Words.{adds_key, after, bucket_of, is_out_of_rows, key_of, keys_in, lacks_rows}
use Rattle.segmodel.specs.Words.{lacks_word, may_chain, Request, SegState, standing}
use Rattle.segcore.specs.Words.{all_drawn, entries, width}
use Rattle.segcore.proofs.Marked.{entries_marked}
use Rattle.segbase.specs.Words.{Board, current_of, marked, own_segment, OwnSegment, Pass, seen}
use Rattle.segbase.specs.Words.{state_in, trace, used_in, used_of}
use Rattle.segstore.specs.Words.{are_left, has_room, has_room_for, is_below}
use Rattle.segwrite.specs.Words.{WasFull}
use Rattle.segsolo.specs.Alone.{state_at, IsAlone}
use Rattle.segsolo.specs.Stored.{keys_stored_in}
use Rattle.segsolo.proofs.AlonePass.{same_moment, SameWidths}
use Rattle.segsolo.proofs.Grown.{entries_begin, drawn_begin, all_begin}

-- ---- rows

reaches : (rows used : ℕ) → nat_le rows used ≡ not (nat_lt used rows)
reaches rows used = elim (cases_lt used rows) [
  | inl less ↦ lt-leb rows used less ∙ sym (ap not (lt-ltb used rows less))
  | inr most ↦ le-leb rows used most ∙ sym (ap not (le-ltb used rows most))
]

passes_by : (rows used : ℕ) → nat_lt rows used ≡ not (nat_le used rows)
passes_by rows used = elim (cases_lt rows used) [
  | inl less ↦ lt-ltb rows used less ∙ sym (ap not (lt-leb used rows less))
  | inr most ↦ le-ltb rows used most ∙ sym (ap not (le-leb used rows most))
]

-- of a segment that is kept the rows are counted
counted : (own : Option OwnSegment) (state : SegState) → state_in own ≡ Some state → (count : ℕ) × (used_in own ≡ Some count)
counted None state is = absurd (none-some state is)
counted (Some own) state is = (own.used, refl)

-- so many rows of a segment in use are used as keys were stored in it
pub rows_of : (b : Board) (p : Pass) (segment : ℕ) → IsAlone b p → current_of p ≡ Some segment → used_of p segment ≡ Some (length (keys_stored_in b.shape (seen p) segment))
rows_of b p segment was is =
    let count = counted (own_segment p.plain segment) InUse (was.quiet.segments.in_use segment is) in
    count.1 ∙ ap Some (was.used segment count.0 count.1)

-- a row is left for the model where one is left for the pass
out_of_rows : (b : Board) (p : Pass) → IsAlone b p → is_out_of_rows b.shape (state_at b.shape p).filling (current_of p) ≡ not (has_room b.shape p)
out_of_rows b p was = by (current_of p) refl
  where
    by : (current : Option ℕ) → current_of p ≡ current → is_out_of_rows b.shape (state_at b.shape p).filling current ≡ not (is_below b.shape.rows (option_and_then (used_of p) current))
    by None is = refl
    by (Some segment) is =
        reaches b.shape.rows (length (keys_stored_in b.shape (seen p) segment)) ∙ sym (ap (λ o. not (is_below b.shape.rows o)) (rows_of b p segment was is))

-- so many rows are
short_of : (b : Board) (p : Pass) (rows : ℕ) → IsAlone b p → are_short b.shape rows (state_at b.shape p).filling (current_of p)
    ≡ not (are_left rows b.shape.rows (option_and_then (used_of p) (current_of p)))
short_of b p rows was = by (current_of p) refl
  where
    by : (current : Option ℕ) → current_of p ≡ current
        → are_short b.shape rows (state_at b.shape p).filling current ≡ not (are_left rows b.shape.rows (option_and_then (used_of p) current))
    by None is = refl
    by (Some segment) is =
        passes_by b.shape.rows (length (keys_stored_in b.shape (seen p) segment) + rows)
        ∙ sym (ap (λ o. not (are_left rows b.shape.rows o)) (rows_of b p segment was is))

pub lacks_for : (b : Board) (p : Pass) (rows : ℕ) → IsAlone b p → lacks_rows b.shape rows (state_at b.shape p).filling (current_of p) ≡ not (has_room_for b.shape rows p)
lacks_for b p rows was = by (rows == 1)
  where
    by : (one : Bool) → cond one (is_out_of_rows b.shape (state_at b.shape p).filling (current_of p)) (are_short b.shape rows (state_at b.shape p).filling (current_of p))
        ≡ not (cond one (has_room b.shape p) (are_left rows b.shape.rows (option_and_then (used_of p) (current_of p))))
    by true = out_of_rows b p was
    by false = short_of b p rows was

-- ---- a bucket that is full

module _ (shape : Shape) (p q : Pass) (request : Request) (same : seen q ≡ seen p) (widths : SameWidths p q) (full : WasFull shape (key_of request) (marked p) (marked q)) where
  -- the moment at which the bucket was full has the history that the pass has seen, and the chains that there are
  then_is_now : entries full.0 ≡ seen p
  then_is_now =
      let before = entries_marked (trace p) in
      let now = entries_marked (trace q) in
      same_moment (entries (marked p)) (entries (marked q)) (entries full.0) (now ∙ (same ∙ sym before))
      (entries_begin (marked p) full.0 full.1.0, entries_begin full.0 (marked q) full.1.1) ∙ before

  width_then : width full.0 (bucket_of shape (key_of request)) ≡ width (marked p) (bucket_of shape (key_of request))
  width_then =
      let low = drawn_begin (marked p) full.0 (bucket_of shape (key_of request)) full.1.0 in
      let high = drawn_begin full.0 (marked q) (bucket_of shape (key_of request)) full.1.1 in
      let equal = widths.wide (bucket_of shape (key_of request)) in omega arith

  drawn_then : all_drawn full.0 ≡ all_drawn (marked p)
  drawn_then =
      let low = all_begin (marked p) full.0 full.1.0 in
      let high = all_begin full.0 (marked q) full.1.1 in
      let equal = widths.drawn in omega arith

  is_new : standing (after shape (seen p)) (key_of request) ≡ None
  is_new = ap (λ h. standing (after shape h) (key_of request)) (sym then_is_now) ∙ full.2.no_word.new

  no_word_left : keys_in shape (after shape (seen p)) (bucket_of shape (key_of request)) ≡ 6 * width (marked p) (bucket_of shape (key_of request)) + 1
  no_word_left = ap (λ h. keys_in shape (after shape h) (bucket_of shape (key_of request))) (sym then_is_now) ∙ (full.2.no_word.full ∙ ap (λ n. 6 * n + 1) width_then)

  never_chains : may_chain shape (state_at shape p) (bucket_of shape (key_of request)) ≡ false
  never_chains = ⊎_elim
      (λ widest. ap (λ n. nat_lt n 4 && nat_lt (all_drawn (marked p)) shape.overflow) (sym width_then ∙ widest))
      (λ used_up. ap (λ n. nat_lt (width (marked p) (bucket_of shape (key_of request))) 4 && nat_lt n shape.overflow) (sym drawn_then ∙ used_up)
      ∙ and_right (nat_lt (width (marked p) (bucket_of shape (key_of request))) 4) (nat_lt shape.overflow shape.overflow) (le-ltb shape.overflow shape.overflow (omega arith)))
      full.2.last

  pub none_left : adds_key request false ≡ true → (lacks_word shape (state_at shape p) request && not (may_chain shape (state_at shape p) (bucket_of shape (key_of request)))) ≡ true
  none_left adds =
      (λ i. (adds_key request (is_some (is_new i)) && (no_word_left i == 6 * width (marked p) (bucket_of shape (key_of request)) + 1)) && not (never_chains i))
      ∙ (λ i. (adds i && eq-eqb (6 * width (marked p) (bucket_of shape (key_of request)) + 1) (6 * width (marked p) (bucket_of shape (key_of request)) + 1) refl i) && true)
