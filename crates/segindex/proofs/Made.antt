-- The passes of a new index are quiet.
use Rattle.std.proofs.Common.{refl, ◌≡◌, ℕ, zero, suc, ◌-◌, ◌≤◌, All, List, get_or, nat_le, nat_lt, cond, is_some, Some, None, option_map, replicate, slice_get, sym, ap, ◌∙◌, subst, ⊎_elim, arith, Option}
use Rattle.std.specs.Prelude.{IsSome}
use Rattle.std.proofs.lemmas.Bool.{cases_Bool, cond-true, cond-false, false≢true, le-ltb}
use Rattle.std.proofs.lemmas.Option.{none-some, same_Some, slice_get-get_or}
use Rattle.segword.specs.Words.{Limits, Shape}
use Rattle.segmodel.specs.declared.answer.SegState.TheVariants.{Empty}
use Rattle.segmodel.specs.Words.{after, NoneStandsIn, owner, SegState}
use Rattle.segcore.specs.Event as event
use Rattle.segcore.specs.Words.{bucket_after, inside, row_after}
use Rattle.segbase.specs.Words.{Board, IsMade, IsNewPass, IsNewPlain, Locked, number, Pass, deadline_of, OwnSegment, deadline_in, own_segment}
use Rattle.segbase.specs.PlainPart.{state_in}
use Rattle.segbase.specs.Words.{segments_of, state_of, unfilled, used_in, used_of}
use Rattle.segbase.proofs.Owned.{state_owned}
use Rattle.segstore.specs.Words.{is_held_in, IsQuiet, KeepsSegments}
use Rattle.segindex.specs.Words.{Index}
use Rattle.segindex.specs.Index.{board_of, IsNew}

-- of a segment that was never filled this is told, be it the state, the rows used or the deadline
record Returns {A : Type 0} (empty : A) (told : Option OwnSegment → Option A) : Type 0 where
  none : told None ≡ None
  empty_of : told (Some unfilled) ≡ Some empty

module _ {A : Type 0} (empty : A) (told : Option OwnSegment → Option A) (tells : Returns empty told) where
  unused : (n k : ℕ) (found : A) → told (slice_get (replicate n unfilled) k) ≡ Some found → found ≡ empty
  unused zero k found e = absurd (none-some found (sym tells.none ∙ e))
  unused (suc n) zero found e = sym (same_Some empty found (sym tells.empty_of ∙ e))
  unused (suc n) (suc k) found e = unused n k found e

  -- so it is told of each segment of a new pass
  told_new : (b : Board) (n : ℕ) (p : Pass) (segment : ℕ) (found : A) → IsNewPlain b.shape n p.plain → told (own_segment p.plain segment) ≡ Some found → found ≡ empty
  told_new b n p segment found new is =
      let first = p.plain.first in
      let got = slice_get (segments_of p.plain) (segment - first) in ⊎_elim
      (λ t. unused b.shape.segments_each (segment - first) found
      (ap (λ l. told (slice_get l (segment - first))) (sym new.segments)
      ∙ (sym (ap told (cond-true (nat_le first segment) got None t)) ∙ is)))
      (λ f. absurd (none-some found (sym tells.none ∙ (sym (ap told (cond-false (nat_le first segment) got None f)) ∙ is))))
      (cases_Bool (nat_le first segment))

-- no row of a segment of a new pass is used, and its deadline is 0
pub none_used : (b : Board) (n : ℕ) (p : Pass) (segment used : ℕ) → IsNewPlain b.shape n p.plain → used_of p segment ≡ Some used → used ≡ 0
none_used = told_new 0 used_in (record { none = refl; empty_of = refl })

no_deadline : (b : Board) (n : ℕ) (p : Pass) (segment deadline : ℕ) → IsNewPlain b.shape n p.plain → deadline_of p segment ≡ Some deadline → deadline ≡ 0
no_deadline = told_new 0 deadline_in (record { none = refl; empty_of = refl })

-- each segment of its own is empty
no_state : (b : Board) (n : ℕ) (p : Pass) (segment : ℕ) (state : SegState) → IsNewPlain b.shape n p.plain → state_of p segment ≡ Some state → state ≡ Empty
no_state = told_new Empty state_in (record { none = refl; empty_of = refl })

pub all_empty : (b : Board) (n : ℕ) (p : Pass) (segment : ℕ) → IsNewPass b n p → owner b.shape segment ≡ n → state_of p segment ≡ Some Empty
all_empty b n p segment new own = by (state_of p segment) refl (state_owned b p segment new.pass (own ∙ sym new.number))
  where
    by : (state : Option SegState) → state_of p segment ≡ state → IsSome state → state ≡ Some Empty
    by None is known = absurd (false≢true known)
    by (Some state) is known = ap (λ s. Some s) (no_state b n p segment state new.plain is)

pub new_keeps : (b : Board) (n : ℕ) (p : Pass) → IsNewPass b n p → KeepsSegments b p
new_keeps b n p new = record {
  few = λ segment used is. subst (λ u. u ≤ b.shape.rows) (sym (none_used b n p segment used new.plain is)) (omega arith);
  rows = λ segment used row is within.
      ap (λ h. is_some (row_after h segment row).linked) new.nothing ∙ sym (ap (nat_lt row) (none_used b n p segment used new.plain is) ∙ le-ltb row 0 (omega arith));
  deadlines = λ segment deadline is. ap (λ h. (after b.shape (event.seen h)).deadline segment) new.nothing ∙ sym (no_deadline b n p segment deadline new.plain is);
  in_use = λ segment is. absurd (none-some segment (sym new.plain.current ∙ is));
  unused = λ segment state is other. subst (λ h. NoneStandsIn (after b.shape (event.seen h)) segment) (sym new.nothing) (λ key stands. stands);
}

pub new_quiet : (b : Board) (n : ℕ) (p : Pass) → IsNewPass b n p → IsQuiet b p
new_quiet b n p new = record {
  pass = new.pass;
  segments = new_keeps b n p new;
  locks = new.plain.locked ∙ sym (ap (λ o. option_map (λ (lock : Locked). lock.bucket) o) new.locked);
  bits = λ bucket bit. absurd (none-some (number p) (ap (λ h. (bucket_after b.shape h bucket).holder) (sym new.nothing) ∙ bit.1));
  lock = λ lock is. absurd (none-some lock (sym new.locked ∙ is));
  holds = new.plain.holding ∙ sym (ap is_some new.holding);
  inside = λ segment. ap (λ h. inside h (number p) segment) new.nothing ∙ sym (ap (λ o. cond (is_held_in o segment) 1 0) new.holding);
  hold = λ hold is. absurd (none-some hold (sym new.holding ∙ is));
}

pub all_quiet : (shape : Shape) (limits : Limits) (b : Board) (passes : List Pass) → IsMade shape limits b passes → All (IsQuiet b) passes
all_quiet shape limits b passes made n p within = let q = get_or passes n p in new_quiet b n q (made.dealt.each n q (slice_get-get_or passes n p within))

-- each pass of a new index has seen nothing, and is quiet
pub each_new : (shape : Shape) (index : Index) (passes : List Pass) → IsNew shape index passes → (n : ℕ) (p : Pass) → slice_get passes n ≡ Some p
    → IsNewPass (board_of index) n p × IsQuiet (board_of index) p
each_new shape index passes new n p is = let one = new.made.dealt.each n p is in (one, new_quiet (board_of index) n p one)
