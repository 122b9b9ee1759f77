-- What the passes of a server have seen, and what they learn where two of them meet.
use Rattle.std.proofs.Common.{◌≡◌, ◌≢◌, ◌⊎◌, ◌<◌, ℕ, zero, suc, All, List, [], ◌∷◌, ◌++◌, get_or, length, set, slice_get, take, Option, Some, refl, append-nil, sym, ap, subst, ◌∙◌, inl, inr, ⊎_elim, arith}
use Rattle.std.proofs.Math.Seq.{take-append_seam}
use Rattle.std.proofs.lemmas.List.{length-set, set-append_left, set-append_right}
use Rattle.std.proofs.lemmas.Option.{get_or_from_slice_get, same_Some, slice_get-get_or, slice_get_within}
use Rattle.segmodel.proofs.ListPlaces.{elsewhere, found_set, front_of}
use Rattle.segcore.specs.Event as event
use Rattle.segcore.specs.Mark as mark
use Rattle.segcore.proofs.Moments.{begins_on}
use Rattle.segbase.specs.Words.{Board, marked, Memo, Pass, seen, trace}
use Rattle.segstore.specs.Words.{GoesOn, IsQuiet}
use Rattle.segread.specs.Words.{Hold}
use Rattle.segindex.specs.Meeting.{MeetsPass, OnlyLearns}
use Rattle.segsolo.specs.Words.{IsAlone}
use Rattle.segscript.specs.Passes.{AreInOrder, CatchesUp, HaveMet, IsSeenBy, OnlyLearn, SeesAllOf}
use Rattle.segscript.proofs.Servers.{set_there}
use Rattle.segscript.proofs.Turning.{still_kept}

-- ---- two places of a list

pub same_or_apart : (n m : ℕ) → (n ≡ m) ⊎ (n ≢ m)
same_or_apart zero zero = inl refl
same_or_apart zero (suc m) = inr (λ same. omega (arith, same))
same_or_apart (suc n) zero = inr (λ same. omega (arith, same))
same_or_apart (suc n) (suc m) = ⊎_elim (λ same. inl (ap suc same)) (λ apart. inr (λ same. apart (omega (arith, same)))) (same_or_apart n m)

-- one place of each of two parts is set
pub set_both : {A : Type 0} (xs ys : List A) (i : ℕ) (a b : A) → i < length xs → set (set (xs ++ ys) i a) (length xs) b ≡ set xs i a ++ set ys 0 b
set_both xs ys i a b within =
    ap (λ l. set l (length xs) b) (set-append_left xs ys i a within)
    ∙ set-append_right (set xs i a) ys (length xs) (length xs) b (length-set xs i a) (omega arith)
    ∙ ap (λ k. set xs i a ++ set ys k b) (omega arith)

-- a list that was written back whole
pub written_back : {A : Type 0} (n : ℕ) (xs ys : List A) → n ≡ length xs → xs ≡ take n (xs ++ ys)
written_back n xs ys long = sym (take-append_seam xs ys) ∙ ap (λ k. take k (xs ++ ys)) (sym long)

-- ---- what was seen

pub sees_itself : (p : Pass) → IsSeenBy p p
sees_itself p = (([], refl), ([], refl))

pub seen_on : (p q r : Pass) → IsSeenBy p q → IsSeenBy q r → IsSeenBy p r
seen_on p q r h k = (begins_on (marked p) (marked q) (marked r) h.0 k.0, begins_on (seen p) (seen q) (seen r) h.1 k.1)

pub seen_later : (b : Board) (p q : Pass) → GoesOn b p q → IsSeenBy p q
seen_later b p q on = (on.marked, on.seen)

-- each pass of a list of quiet ones is quiet
pub quiet_of : (b : Board) (passes : List Pass) → All (IsQuiet b) passes → (n : ℕ) (p : Pass) → slice_get passes n ≡ Some p → IsQuiet b p
quiet_of b passes all n p at = subst (IsQuiet b) (get_or_from_slice_get passes n p p at) (all n p (slice_get_within passes n p at))

pub learns_nothing : (b : Board) (p : Pass) → IsQuiet b p → OnlyLearns b p p
learns_nothing b p quiet = record {
  on = record { quiet = quiet; same = refl; marked = ([], refl); seen = ([], refl); steps = inr (refl, refl) };
  keeps = record { entries = refl; plain = refl; memo = refl };
  costs_nothing = refl;
}

-- a new pass has seen nothing that another hasn't
pub new_seen : (p q : Pass) → trace p ≡ [] → IsSeenBy p q
new_seen p q nothing = (
  (marked q, sym (append-nil (marked q)) ∙ ap (λ m. marked q ++ m) (sym (ap mark.marked nothing))),
  (seen q, sym (append-nil (seen q)) ∙ ap (λ h. seen q ++ h) (sym (ap event.seen nothing))),
)

-- a pass that had seen all goes on, and stands at its place again
pub turned_sees : (b : Board) (passes : List Pass) (n : ℕ) (p q : Pass) → GoesOn b p q → SeesAllOf passes p → SeesAllOf (set passes n q) q
turned_sees b passes n p q on sees m x at = ⊎_elim
    (λ here. subst (λ y. IsSeenBy y q) (sym here.1) (sees_itself q))
    (λ there. seen_on x p q (sees m x there.1) (seen_later b p q on))
    (found_set passes n m q x at)

-- ---- two passes that met

module _ (b : Board) (first second : ℕ) (old new : List Pass) (met : HaveMet b first second old new) where
  -- each pass is there, as one that did nothing
  pub met_learn : ((n : ℕ) (p : Pass) → slice_get old n ≡ Some p → IsQuiet b p) → OnlyLearn b old new
  met_learn quiet n p at = ⊎_elim
      (λ here. (met.one', ap (slice_get new) here ∙ met.is_first, subst (λ x. OnlyLearns b x met.one') (same_Some met.one p (sym met.was_first ∙ ap (slice_get old) (sym here) ∙ at)) met.meets.first))
      (λ apart. ⊎_elim
      (λ here. (
        met.other',
        ap (slice_get new) here
            ∙ met.is_second,
        subst (λ x. OnlyLearns b x met.other') (same_Some met.other p (sym met.was_second
            ∙ ap (slice_get old) (sym here) ∙ at)) met.meets.second,
      ))
      (λ other. (p, met.others n apart other ∙ at, learns_nothing b p (quiet n p at)))
      (same_or_apart n second))
      (same_or_apart n first)

  -- where the first had seen all that any of them has, the second has now
  pub met_sees : SeesAllOf old met.one → SeesAllOf new met.other'
  met_sees sees n p at =
      let there : IsSeenBy met.one' met.other' = met.meets.meets.second in
      ⊎_elim
      (λ here. subst (λ x. IsSeenBy x met.other') (same_Some met.one' p (sym met.is_first ∙ ap (slice_get new) (sym here) ∙ at)) there)
      (λ apart. ⊎_elim
      (λ here. subst (λ x. IsSeenBy x met.other') (same_Some met.other' p (sym met.is_second ∙ ap (slice_get new) (sym here) ∙ at)) (sees_itself met.other'))
      (λ other. seen_on p met.one' met.other'
      (seen_on p met.one met.one' (sees n p (sym (met.others n apart other) ∙ at)) (seen_later b met.one met.one' met.meets.first.on)) there)
      (same_or_apart n second))
      (same_or_apart n first)

-- ---- two passes of one list, which is cut between them

seam : {A : Type 0} (xs ys : List A) → slice_get (xs ++ ys) (length xs) ≡ slice_get ys 0
seam [] ys = refl
seam (x ∷ xs) ys = seam xs ys

module _ (b : Board) (xs ys : List Pass) (i : ℕ) (p q p' q' : Pass) (within : i < length xs) (at : slice_get xs i ≡ Some p) (there : slice_get ys 0 ≡ Some q) where
  abbrev new_list : List Pass
  new_list = set (set (xs ++ ys) i p') (length xs) q'

  apart : i ≢ length xs
  apart same = omega (arith, same)

  was_there : slice_get (xs ++ ys) i ≡ Some p
  was_there = front_of xs ys i p at

  was_behind : slice_get (xs ++ ys) (length xs) ≡ Some q
  was_behind = seam xs ys ∙ there

  is_there : slice_get new_list i ≡ Some p'
  is_there = elsewhere (set (xs ++ ys) i p') (length xs) i q' apart ∙ set_there (xs ++ ys) i p' p was_there

  is_behind : slice_get new_list (length xs) ≡ Some q'
  is_behind = set_there (set (xs ++ ys) i p') (length xs) q' q (elsewhere (xs ++ ys) i (length xs) p' (λ same. apart (sym same)) ∙ was_behind)

  elsewhere_both : (n : ℕ) → n ≢ i → n ≢ length xs → slice_get new_list n ≡ slice_get (xs ++ ys) n
  elsewhere_both n apart other = elsewhere (set (xs ++ ys) i p') (length xs) n q' other ∙ elsewhere (xs ++ ys) i n p' apart

  long_both : length new_list ≡ length (xs ++ ys)
  long_both = length-set (set (xs ++ ys) i p') (length xs) q' ∙ length-set (xs ++ ys) i p'

  -- the first stands before the second
  pub met_onward : MeetsPass b p q p' q' → HaveMet b i (length xs) (xs ++ ys) (set xs i p' ++ set ys 0 q')
  met_onward meets = subst (HaveMet b i (length xs) (xs ++ ys)) (set_both xs ys i p' q' within) (record {
    one = p;
    other = q;
    one' = p';
    other' = q';
    long = long_both;
    was_first = was_there;
    was_second = was_behind;
    is_first = is_there;
    is_second = is_behind;
    meets = meets;
    others = λ n one other. elsewhere_both n one other;
  })

  -- or behind it
  pub met_back : MeetsPass b q p q' p' → HaveMet b (length xs) i (xs ++ ys) (set xs i p' ++ set ys 0 q')
  met_back meets = subst (HaveMet b (length xs) i (xs ++ ys)) (set_both xs ys i p' q' within) (record {
    one = q;
    other = p;
    one' = q';
    other' = p';
    long = long_both;
    was_first = was_behind;
    was_second = was_there;
    is_first = is_behind;
    is_second = is_there;
    meets = meets;
    others = λ n one other. elsewhere_both n other one;
  })

-- ---- passes that only learned something

-- the pass that stood there before
pub before_it : (b : Board) (old new : List Pass) → length new ≡ length old → OnlyLearn b old new → (n : ℕ) (q : Pass) → slice_get new n ≡ Some q
    → (p : Pass) × (slice_get old n ≡ Some p) × OnlyLearns b p q
before_it b old new long learn n q at =
    let within : n < length old = (let there = slice_get_within new n q at in omega arith) in
    let was = slice_get-get_or old n q within in
    let is = learn n (get_or old n q) was in
    (get_or old n q, was, subst (λ x. OnlyLearns b (get_or old n q) x) (same_Some is.0 q (sym is.1 ∙ at)) is.2)

pub learned_in_order : (b : Board) (old new : List Pass) (holds : List (Option Hold)) → length new ≡ length old → OnlyLearn b old new → (b.shape.passes ≡ 1 → new ≡ old)
    → AreInOrder b old holds → AreInOrder b new holds
learned_in_order b old new holds long learn stays in_order n q hold at held =
    let was = before_it b old new long learn n q at in
    let idle = in_order n was.0 hold was.1 held in (
      record {
        quiet = was.2.on.quiet;
        hold = still_kept b.shape hold was.0 q idle.0.hold (ap (λ (m : Memo). m.holding) was.2.keeps.memo);
        alone = λ one. subst (IsAlone b) (same_Some was.0 q (sym was.1 ∙ (ap (λ l. slice_get l n) (sym (stays one)) ∙ at))) (idle.0.alone one);
      },
      was.2.on.same ∙ idle.1,
    )

-- what a pass had seen that only learned something is what it sees then
pub learned_sees : (b : Board) (old new : List Pass) (q : Pass) → OnlyLearn b old new → SeesAllOf new q → SeesAllOf old q
learned_sees b old new q learn sees n p at = let is = learn n p at in seen_on p is.0 q (seen_later b p is.0 is.2.on) (sees n is.0 is.1)

-- ---- the pass of a turn catches up

pub catches_up : (b : Board) (last place : ℕ) (old new : List Pass) → last ≢ place
    → ((n : ℕ) (p : Pass) → slice_get old n ≡ Some p → IsQuiet b p) → HaveMet b last place old new
    → CatchesUp b last place old new
catches_up b last place old new apart quiet met = record {
  long = met.long;
  learn = met_learn b last place old new met quiet;
  sees = λ p q was is sees. subst (SeesAllOf new) (same_Some met.other' q (sym met.is_second ∙ is))
      (met_sees b last place old new met (subst (SeesAllOf old) (same_Some p met.one (sym was ∙ met.was_first)) sees));
  stays = λ same. absurd (apart same);
}

pub stays_there : (b : Board) (last place : ℕ) (passes : List Pass) → last ≡ place → ((n : ℕ) (p : Pass) → slice_get passes n ≡ Some p → IsQuiet b p) → CatchesUp b last place passes passes
stays_there b last place passes same quiet = record {
  long = refl;
  learn = λ n p at. (p, at, learns_nothing b p (quiet n p at));
  sees = λ p q was is sees. subst (SeesAllOf passes) (same_Some p q (sym was ∙ (ap (slice_get passes) same ∙ is))) sees;
  stays = λ same. refl;
}
