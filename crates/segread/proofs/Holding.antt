-- The item that a pass holds: the moment at which it stood, and its row since.
use Rattle.std.proofs.Common.{◌≡◌, ℕ, Bool, true, false, cond, eqb, ◌&&◌, List, [], ◌∷◌, ◌++◌, Option, Some, None, refl, sym, ap, ◌∙◌, subst, ⊎_elim}
use Rattle.std.proofs.lemmas.Bool.{cases_Bool, cond-true, cond-false, eq-eqb, and_parts, and_from, eqb-true, false≢true}
use Rattle.segword.specs.Words.{Shape}
use Rattle.segmodel.specs.Words.{after, Begins, Cached, IsStanding, standing}
use Rattle.segcore.specs.Words.{cached, Event, IsLawful, NoneRefills, row_after, same_key, seen}
use Rattle.segcore.proofs.Keys.{key_true, same_true}
use Rattle.segcore.proofs.Moments.{lawful_before}
use Rattle.segcore.proofs.Standing.{legal}
use Rattle.segbase.specs.Words.{HasHeld, Held}
use Rattle.segstore.specs.Words.{IsHold}
use Rattle.segread.specs.Scanning.{HasDeadline}
use Rattle.segread.proofs.ItemRows.{AllLinked, item_stays, linked_since}
use Rattle.segcore.proofs.Deadlines.{same_deadline}

-- ---- the last moment at which it stood

abbrev is_cached : Option Cached → List ℕ → ℕ → Bool
is_cached None value segment = false
is_cached (Some x) value segment = same_key x.value value && eqb x.segment segment

cached_is : (o : Option Cached) (value : List ℕ) (segment : ℕ) → is_cached o value segment ≡ true → o ≡ Some (cached value segment)
cached_is None value segment t = absurd (false≢true t)
cached_is (Some x) value segment t =
    let w = and_parts (same_key x.value value) (eqb x.segment segment) t in
    λ i. Some (cached (key_true x.value value w.0 i) (eqb-true x.segment segment w.1 i))

is_cached_of : (o : Option Cached) (value : List ℕ) (segment : ℕ) → o ≡ Some (cached value segment) → is_cached o value segment ≡ true
is_cached_of o value segment e = ap (λ x. is_cached x value segment) e ∙ and_from (same_key value value) (eqb segment segment) (same_true value value refl) (eq-eqb segment segment refl)

abbrev stood : Shape → List Event → List ℕ → List ℕ → ℕ → Bool
stood z h key value segment = is_cached (standing (after z (seen h)) key) value segment

-- of what a pass has seen, up to the last moment at which the key stood with the value in the segment
pub last_stood : Shape → List Event → List ℕ → List ℕ → ℕ → List Event
last_stood z [] key value segment = []
last_stood z (e ∷ h) key value segment = cond (stood z (e ∷ h) key value segment) (e ∷ h) (last_stood z h key value segment)

abbrev pub held_at : Shape → List Event → List ℕ → List ℕ → ℕ → Held
held_at z h key value segment = record { segment = segment; key = key; value = value; trace = last_stood z h key value segment }

last_here : (z : Shape) (h : List Event) (key value : List ℕ) (segment : ℕ) → stood z h key value segment ≡ true → last_stood z h key value segment ≡ h
unfolding last_stood
last_here z [] key value segment t = refl
last_here z (e ∷ h) key value segment t = cond-true (stood z (e ∷ h) key value segment) (e ∷ h) (last_stood z h key value segment) t

-- from a moment to the last one, and from that on
record IsLast (z : Shape) (key value : List ℕ) (segment : ℕ) (at h last : List Event) : Type 0 where
  pub first : List Event
  pub then : List Event
  pub on : last ≡ first ++ at
  pub now : h ≡ then ++ last
  pub kept : NoneRefills segment first × NoneRefills segment then
  pub stands : stood z last key value segment ≡ true

is_last : (z : Shape) (more at : List Event) (key value : List ℕ) (segment : ℕ) → NoneRefills segment more
    → stood z at key value segment ≡ true → IsLast z key value segment at (more ++ at)
    (last_stood z (more ++ at) key value segment)
unfolding last_stood
is_last z [] at key value segment none t =
    subst (IsLast z key value segment at at) (sym (last_here z at key value segment t))
    (record { first = []; then = []; on = refl; now = refl; kept = (tt, tt); stands = t })
is_last z (e ∷ more) at key value segment none t =
    let h = e ∷ (more ++ at) in let x = is_last z more at key value segment none.1 t in ⊎_elim
    (λ here. subst (IsLast z key value segment at h)
    (sym (cond-true (stood z h key value segment) h (last_stood z (more ++ at) key value segment) here))
    (record { first = e ∷ more; then = []; on = refl; now = refl; kept = (none, tt); stands = here }))
    (λ not. subst (IsLast z key value segment at h) (sym (cond-false (stood z h key value segment) h (last_stood z (more ++ at) key value segment) not))
    (record { first = x.first; then = e ∷ x.then; on = x.on; now = ap (λ g. e ∷ g) x.now; kept = (x.kept.0, (none.0, x.kept.1)); stands = x.stands }))
    (cases_Bool (stood z h key value segment))

-- ---- what is held

-- with what stood at a moment, since which its segment wasn't refilled
module _ (z : Shape) (key value : List ℕ) (segment row : ℕ) (at h : List Event) (l : IsLawful z h) (kept : (more : List Event) × (h ≡ more ++ at) × NoneRefills segment more)
    (stands : standing (after z (seen at)) key ≡ Some (cached value segment)) where
  abbrev last : List Event
  last = last_stood z h key value segment

  the_last : IsLast z key value segment at h last
  the_last = subst (λ g. IsLast z key value segment at g (last_stood z g key value segment)) (sym kept.1)
      (is_last z kept.0 at key value segment kept.2
      (is_cached_of (standing (after z (seen at)) key) value segment stands))

  last_lawful : IsLawful z last
  last_lawful = lawful_before z the_last.then last (subst (IsLawful z) the_last.now l)

  pub held_from : Begins at last
  held_from = (the_last.first, the_last.on)

  pub held_past : Begins last h
  held_past = (the_last.then, the_last.now)

  pub held_stood : IsStanding z (seen last) key value segment
  held_stood = record { legal = legal z last last_lawful; stands = cached_is (standing (after z (seen last)) key) value segment the_last.stands }

  pub held_deadline : (deadline : ℕ) → HasDeadline z segment deadline h → HasDeadline z segment deadline last
  held_deadline deadline had = sym (same_deadline z the_last.then last segment the_last.kept.1) ∙ subst (HasDeadline z segment deadline) the_last.now had

  pub has_held : HasHeld z h (held_at z h key value segment)
  has_held = record { past = held_past; stood = held_stood }

  pub is_hold : IsHold z h (held_at z h key value segment)
  is_hold = record { more = the_last.then; since = the_last.now; stood = held_stood; kept = the_last.kept.1 }

  module _ (on : AllLinked at segment row key) where
    pub held_row : row_after last segment row ≡ row_after at segment row
    held_row = ap (λ g. row_after g segment row) the_last.on
        ∙ item_stays z the_last.first at segment row key (subst (IsLawful z) the_last.on last_lawful) the_last.kept.0 on

    pub held_rows : AllLinked last segment row key
    held_rows = subst (λ g. AllLinked g segment row key) (sym the_last.on)
        (linked_since z the_last.first at segment row key (subst (IsLawful z) the_last.on last_lawful) the_last.kept.0 on)

-- the row stays as it was then, and so do those behind it of its item
module _ (z : Shape) (h : List Event) (held : Held) (row : ℕ) (l : IsLawful z h) (is : IsHold z h held)
    (on : AllLinked held.trace held.segment row held.key) where
  pub row_of_hold : row_after h held.segment row ≡ row_after held.trace held.segment row
  row_of_hold = ap (λ g. row_after g held.segment row) is.since
      ∙ item_stays z is.more held.trace held.segment row held.key (subst (IsLawful z) is.since l) is.kept on

  pub rows_of_hold : AllLinked h held.segment row held.key
  rows_of_hold = subst (λ g. AllLinked g held.segment row held.key) (sym is.since)
      (linked_since z is.more held.trace held.segment row held.key (subst (IsLawful z) is.since l) is.kept on)
