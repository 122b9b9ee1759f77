-- A new index with one pass is at the state at the start.
use Rattle.std.proofs.Common.{◌≡◌, ℕ, zero, suc, ◌-◌, nat_le, cond, Bool, true, false, length, replicate, slice_get, List, [], ◌∷◌, ◌++◌, Some, None, option_map, refl, sym, ap, subst, ◌∙◌, arith}
use Rattle.std.proofs.lemmas.List.{length_push}
use Rattle.std.proofs.lemmas.Option.{none-some}
use Rattle.segword.specs.Words.{Shape}
use Rattle.segmodel.specs.declared.answer.SegState.TheVariants.{Empty}
use Rattle.segmodel.specs.Words.{after, fresh}
use Rattle.segmodel.proofs.Sound.{IsKept-fresh, IsKept-same}
use Rattle.segcore.specs.Event as event
use Rattle.segcore.specs.Words.{all_drawn, frequency_in, last_at, slot, width}
use Rattle.segcore.specs.Mark as mark
use Rattle.segbase.specs.Words.{Board, IsNewPass, Pass, state_in, state_of, unfilled}
use Rattle.segindex.specs.Words.{board_of, Index, IsNew}
use Rattle.segsolo.specs.Alone.{or_empty, item_of, state_at, IsAlone}
use Rattle.segsolo.specs.Stored.{came_with, frequencies_of, items_stored_in, keys_stored_in}
use Rattle.segsolo.proofs.AlonePass.{at_state}
use Rattle.segindex.proofs.Made.{new_quiet, none_used}

unfilled_at : (n k : ℕ) → or_empty (state_in (slice_get (replicate n unfilled) k)) ≡ Empty
unfilled_at zero k = refl
unfilled_at (suc n) zero = refl
unfilled_at (suc n) (suc k) = unfilled_at n k

module _ (b : Board) (p : Pass) (new : IsNewPass b 0 p) where
  empty : (segment : ℕ) → or_empty (state_of p segment) ≡ Empty
  empty segment =
      ap (λ l. or_empty (state_in (cond (nat_le p.plain.first segment) (slice_get l (segment - p.plain.first)) None))) new.plain.segments
      ∙ by (nat_le p.plain.first segment)
    where
      by : (here : Bool) → or_empty (state_in (cond here (slice_get (replicate b.shape.segments_each unfilled) (segment - p.plain.first)) None)) ≡ Empty
      by true = unfilled_at b.shape.segments_each (segment - p.plain.first)
      by false = refl

  pub starts_fresh : state_at b.shape p ≡ fresh b.shape
  starts_fresh = at_state b.shape p (fresh b.shape)
      (ap (λ t. after b.shape (event.seen t)) new.nothing)
      empty
      (λ segment. ap (λ t. keys_stored_in b.shape (event.seen t) segment) new.nothing)
      (λ segment. ap (λ t. frequencies_of (came_with (mark.marked t) segment) (frequency_in (mark.marked t) segment) 0 (items_stored_in b.shape (event.seen t) segment)) new.nothing)
      new.plain.current
      (λ bucket. ap (λ t. width (mark.marked t) bucket) new.nothing)
      (ap (λ t. all_drawn (mark.marked t)) new.nothing)
      (ap (option_map item_of) new.holding)
      new.plain.locked

  pub starts_alone : b.shape.passes ≡ 1 → IsAlone b p × (state_at b.shape p ≡ fresh b.shape)
  starts_alone one = (
    record {
      one = one;
      quiet = new_quiet b 0 p new;
      used = λ segment count is. none_used b 0 p segment count new.plain is ∙ sym (ap (λ t. length (keys_stored_in b.shape (event.seen t) segment)) new.nothing);
      rows = λ key value segment row stands last. absurd (none-some (slot key segment row) (sym (ap (λ t. last_at (mark.marked t) key) new.nothing) ∙ last));
      kept = IsKept-same starts_fresh (IsKept-fresh b.shape);
    },
    starts_fresh,
  )

-- ---- of an index that was just made

only_one : (left : List Pass) (p : Pass) → length (left ++ p ∷ []) ≡ 1 → slice_get (left ++ p ∷ []) 0 ≡ Some p
only_one [] p one = refl
only_one (other ∷ left) p one = let long = length_push left p in let more : suc (length (left ++ p ∷ [])) ≡ 1 = one in absurd (omega arith)

pub starts_new : (shape : Shape) (index : Index) (passes : List Pass) (p : Pass) → IsNew shape index passes → shape.passes ≡ 1 → slice_get passes 0 ≡ Some p
    → IsAlone (board_of index) p × (state_at shape p ≡ fresh shape)
starts_new shape index passes p new one first =
    let starts = starts_alone (board_of index) p (new.made.dealt.each 0 p first) (ap (λ s. s.passes) new.made.of ∙ one) in
    (starts.0, subst (λ s. state_at s p ≡ fresh s) new.made.of starts.1)

-- its only pass, the last of the list
pub starts_last : (shape : Shape) (index : Index) (passes left : List Pass) (p : Pass) → IsNew shape index passes → shape.passes ≡ 1 → passes ≡ left ++ p ∷ []
    → IsAlone (board_of index) p × (state_at shape p ≡ fresh shape)
starts_last shape index passes left p new one last =
    starts_new shape index passes p new one (ap (λ l. slice_get l 0) last ∙ only_one left p (ap (λ (l : List Pass). length l) (sym last) ∙ (new.made.dealt.long ∙ one)))
