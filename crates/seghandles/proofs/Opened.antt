-- A cache and its clients, as they begin, in boxes and in handles.
use Rattle.std.proofs.Common.{◌≡◌, ◌<◌, ℕ, suc, List, [], ◌∷◌, ◌++◌, length, map, take, set, Option, Some, refl, sym, ap, ◌∙◌, arith, zero, true, false, is_none, drop, get_or, None}
use Rattle.std.proofs.lemmas.Bool.{false≢true}
use lib.Seq.{take-suc-set}
use Rattle.std.specs.Global.{Box}
use Rattle.std.proofs.lemmas.List.{length-map, map-append}
use Rattle.segshards.specs.declared.plan.ShardPlan.{ShardPlan}
use Rattle.seghandles.specs.declared.handle.Handle.{Handle}
use Rattle.seghandles.specs.declared.kept.Kept.{Kept}
use Rattle.seghandles.specs.Opening.{are_empty, in_box, IsOpened, put_in, value_of, values_of}

-- what the boxes have is what the handles have
pub same_values : (boxes : List (Box Kept)) → map put_in boxes ≡ map Some (map in_box boxes)
same_values [] = refl
same_values (b ∷ boxes) = ap (λ (l : List (Option Kept)). Some b.value ∷ l) (same_values boxes)

-- there is one for each pass
pub opened_long : (plan : ShardPlan) (home : Kept) (boxes : List (Box Kept)) → IsOpened plan home (map in_box boxes) → length boxes ≡ plan.shape.passes
opened_long plan home boxes is = sym (length-map boxes in_box) ∙ is.long

-- as many handles have as many values
pub same_long : (handles others : List Handle) → values_of handles ≡ values_of others → length handles ≡ length others
same_long handles others same = sym (length-map handles value_of) ∙ ap length same ∙ length-map others value_of

-- one handle more has the value of one box more
pub one_more : (handles : List Handle) (at : ℕ) (handle : Handle) (boxes : List (Box Kept)) (boxed : Box Kept)
    → at < length handles → values_of (take at handles) ≡ map put_in boxes → handle.value ≡ Some boxed.value
    → values_of (take (suc at) (set handles at handle)) ≡ map put_in (boxes ++ boxed ∷ [])
one_more handles at handle boxes boxed below were is =
    ap values_of (take-suc-set handles at handle below) ∙ map-append value_of (take at handles) (handle ∷ [])
    ∙ ap (λ (l : List (Option Kept)). l ++ value_of handle ∷ []) were ∙ ap (λ (v : Option Kept). map put_in boxes ++ v ∷ []) is
    ∙ sym (map-append put_in boxes (boxed ∷ []))

-- ---- empty handles

-- a handle that has what it had
pub still_there : (handles : List Handle) (at : ℕ) (handle default : Handle) → handle.value ≡ value_of (get_or handles at default) → values_of (set handles at handle) ≡ values_of handles
still_there [] at handle default is = refl
still_there (h ∷ handles) zero handle default is = ap (λ (v : Option Kept). v ∷ values_of handles) is
still_there (h ∷ handles) (suc at) handle default is = ap (λ (l : List (Option Kept)). value_of h ∷ l) (still_there handles at handle default is)

one_empty : (v : Option Kept) (values : List (Option Kept)) → is_none v ≡ true → are_empty (v ∷ values) ≡ are_empty values
one_empty None values is = refl
one_empty (Some used) values is = absurd (false≢true is)

one_used : (v : Option Kept) (values : List (Option Kept)) → is_none v ≡ false → are_empty (v ∷ values) ≡ false
one_used None values is = absurd (false≢true (sym is))
one_used (Some used) values is = refl

-- one handle more is empty, or is in use
pub next_empty : (handles : List Handle) (at : ℕ) (default : Handle) → at < length handles → is_none (value_of (get_or handles at default)) ≡ true
    → are_empty (drop at (values_of handles)) ≡ are_empty (drop (suc at) (values_of handles))
next_empty [] at default below is = absurd (omega (arith, below))
next_empty (h ∷ handles) zero default below is = one_empty (value_of h) (values_of handles) is
next_empty (h ∷ handles) (suc at) default below is = next_empty handles at default (omega (arith, below)) is

pub next_used : (handles : List Handle) (at : ℕ) (default : Handle) → at < length handles → is_none (value_of (get_or handles at default)) ≡ false → are_empty (drop at (values_of handles)) ≡ false
next_used [] at default below is = absurd (omega (arith, below))
next_used (h ∷ handles) zero default below is = one_used (value_of h) (values_of handles) is
next_used (h ∷ handles) (suc at) default below is = next_used handles at default (omega (arith, below)) is

-- all of them are
pub none_left : (handles : List Handle) (at : ℕ) → at ≡ length handles → are_empty (drop at (values_of handles)) ≡ true
none_left [] at end = drop_none at
  where
    drop_none : (n : ℕ) → are_empty (drop n []) ≡ true
    drop_none zero = refl
    drop_none (suc n) = refl
none_left (h ∷ handles) zero end = absurd (omega (arith, end))
none_left (h ∷ handles) (suc at) end = none_left handles at (omega (arith, end))
