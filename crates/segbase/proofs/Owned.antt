-- What the plain part of a pass says of the segments that it owns, and that its setters leave the pass what it is.
use Rattle.std.proofs.Common.{◌≡◌, ℕ, zero, suc, ◌+◌, ◌-◌, ◌*◌, ◌/◌, ◌%◌, ◌<◌, ◌≤◌, true, nat_le, List, [], ◌∷◌, length, Option, Some, None, is_some, slice_get, refl, sym, ap, ◌∙◌, ⊎_elim, arith, mod-lt, div-add-mod'}
use Rattle.std.proofs.lemmas.Bool.{cases_Bool, cond-true, cond-false, leb-true, le-leb, false≢true}
use Rattle.std.proofs.lemmas.Nat.{div-mul-add}
use Rattle.segmodel.specs.Words.{owner}
use Rattle.segcore.specs.Words.{Event}
use Rattle.segbase.specs.Words.{Board, OwnSegment, Pass}
use Rattle.segbase.specs.declared.pass.PlainPart.{PlainPart}
use Rattle.segbase.specs.PlainPart.{own_segment, segments_of, state_in, state_of, used_in, deadline_in}
use Rattle.segbase.specs.Passes.{number, IsPassOf, AddsEvents}

-- whose pass it is
abbrev pub owner_of : PlainPart → ℕ × ℕ × ℕ × ℕ
owner_of x = (x.number, x.first, x.rows, length (segments_of x))

-- a pass whose plain part alone changed, but not whose it is
pub still_pass : (b : Board) (p : Pass) (x : PlainPart) → IsPassOf b p → owner_of x ≡ owner_of p.plain → IsPassOf b (record p { plain = x })
still_pass b p x is same = record {
  table = is.table;
  bare = is.bare;
  is_pass = is.is_pass;
  valid = is.valid;
  lawful = is.lawful;
  within = is.within;
  one_of = is.one_of;
  alone = is.alone;
  minds = is.minds;
  numbered = ap (λ o. o.0) same ∙ is.numbered;
  first = ap (λ o. o.1) same ∙ is.first;
  rows = ap (λ o. o.2) same ∙ is.rows;
  owns = ap (λ o. o.3) same ∙ is.owns;
}

pub moved_still : (b : Board) (own : List Event) (p q : Pass) (x : PlainPart) → AddsEvents b own p q → owner_of x ≡ owner_of q.plain → AddsEvents b own p (record q { plain = x })
moved_still b own p q x m same = record { pass = still_pass b q x m.pass same; same = m.same; more = m.more; goes_on = m.goes_on; adds = m.adds; steps = m.steps; kept = m.kept }

got_within : {A : Type 0} (l : List A) (i : ℕ) → is_some (slice_get l i) ≡ true → i < length l
got_within [] i e = absurd (false≢true e)
got_within (x ∷ xs) zero e = omega arith
got_within (x ∷ xs) (suc i) e = let a = got_within xs i e in omega arith

gets_within : {A : Type 0} (l : List A) (i : ℕ) → i < length l → is_some (slice_get l i) ≡ true
gets_within [] i lt = absurd (omega arith)
gets_within (x ∷ xs) zero lt = refl
gets_within (x ∷ xs) (suc i) lt = gets_within xs i (omega arith)

pub state_there : (o : Option OwnSegment) → is_some (state_in o) ≡ is_some o
state_there None = refl
state_there (Some own) = refl

pub used_there : (o : Option OwnSegment) → is_some (used_in o) ≡ is_some o
used_there None = refl
used_there (Some own) = refl

pub deadline_there : (o : Option OwnSegment) → is_some (deadline_in o) ≡ is_some o
deadline_there None = refl
deadline_there (Some own) = refl

-- the pass tells the state of just the segments that it owns
pub owns_state : (b : Board) (p : Pass) (s : ℕ) → IsPassOf b p → is_some (state_of p s) ≡ true → owner b.shape s ≡ number p
owns_state b p s is there =
    let each = b.shape.segments_each in let n = number p in let first = p.plain.first in
    ⊎_elim
    (λ t. let low : first ≤ s = leb-true first s t in
    let got : is_some (slice_get (segments_of p.plain) (s - first)) ≡ true =
    sym (ap is_some (cond-true (nat_le first s) (slice_get (segments_of p.plain) (s - first)) None t))
    ∙ (sym (state_there (own_segment p.plain s)) ∙ there) in
    let within = got_within (segments_of p.plain) (s - first) got in
    let owns = is.owns in let at = is.first in
    ap (λ x. x / each) (let e : s ≡ n * each + (s - first) = omega arith in e) ∙ div-mul-add n each (s - first) (omega arith))
    (λ f. absurd (false≢true (sym (ap is_some (cond-false (nat_le first s) (slice_get (segments_of p.plain) (s - first)) None f)) ∙ (sym (state_there (own_segment p.plain s)) ∙ there))))
    (cases_Bool (nat_le first s))

pub state_owned : (b : Board) (p : Pass) (s : ℕ) → IsPassOf b p → owner b.shape s ≡ number p → is_some (state_of p s) ≡ true
state_owned b p s is own =
    let each = b.shape.segments_each in let first = p.plain.first in
    let some_each : 0 < each = is.valid.0.0.1.0 in
    let whole : s / each * each + s % each ≡ s = div-add-mod' s each in
    let part : s % each < each = mod-lt s some_each in
    let at : first ≡ s / each * each = is.first ∙ ap (λ n. n * each) (sym own) in
    let owns = is.owns in
    let low : nat_le first s ≡ true = le-leb first s (omega arith) in
    state_there (own_segment p.plain s) ∙ (ap is_some
    (cond-true (nat_le first s) (slice_get (segments_of p.plain) (s - first)) None low)
    ∙ gets_within (segments_of p.plain) (s - first) (omega arith))
