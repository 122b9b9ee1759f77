-- Sets in a row: how many the calls of a put end with, and that no run is longer than 16.
use Rattle.std.proofs.Common.{◌≡◌, ◌⊎◌, ℕ, ◌+◌, ◌≤◌, true, false, List, [], ◌∷◌, ◌++◌, length, Option, refl, sym, ap, ◌∙◌, subst, inl, inr, arith}
use Rattle.std.proofs.lemmas.Bool.{false≢true}
use Rattle.std.proofs.lemmas.Option.{none-some}
use Rattle.segmodel.specs.declared.request.Request.TheVariants.{Set}
use Rattle.segmodel.specs.Words.{WriteAnswer}
use Rattle.segbase.specs.Words.{Board, Pass}
use Rattle.segstore.specs.Words.{has_room_for}
use Rattle.segstore.specs.declared.row.RowRef.{RowRef}
use Rattle.segevict.specs.declared.eviction.EvictRowAnswer.{EvictRowAnswer}
use Rattle.segclient.specs.PutCalls.{PutCall, sets, evicts, keeps, refills, finds_own, takes_out, Makes, room_plan}
use Rattle.segclient.specs.Putting.{last_sets, SetsAtMost16}
use Rattle.segclient.proofs.Calls.{last_of}

-- ---- any calls

within : (calls : List PutCall) → last_sets calls ≤ length calls
unfolding last_sets
within [] = omega arith
within (sets told ∷ earlier) = let rest = within earlier in omega (arith, rest)
within (evicts segment told ∷ earlier) = omega arith
within (keeps segment row by told ∷ earlier) = omega arith
within (refills segment told ∷ earlier) = omega arith
within (finds_own found ∷ earlier) = omega arith
within (takes_out segment row told ∷ earlier) = omega arith

pub few_sets : (calls : List PutCall) → length calls ≤ 16 → SetsAtMost16 calls
unfolding SetsAtMost16
few_sets [] few = tt
few_sets (call ∷ earlier) few = (let x = within (call ∷ earlier) in omega (arith, x, few), few_sets earlier (omega (arith, few)))

last_then : (later earlier : List PutCall) → last_sets earlier ≡ 0 → last_sets (later ++ earlier) ≡ last_sets later
unfolding last_sets
last_then [] earlier none = none
last_then (sets told ∷ later) earlier none = ap (λ n. n + 1) (last_then later earlier none)
last_then (evicts segment told ∷ later) earlier none = refl
last_then (keeps segment row by told ∷ later) earlier none = refl
last_then (refills segment told ∷ later) earlier none = refl
last_then (finds_own found ∷ later) earlier none = refl
last_then (takes_out segment row told ∷ later) earlier none = refl

-- sets after a call of another kind
pub sets_then : (later earlier : List PutCall) → last_sets earlier ≡ 0 → SetsAtMost16 later → SetsAtMost16 earlier → SetsAtMost16 (later ++ earlier)
unfolding SetsAtMost16
sets_then [] earlier none then first = first
sets_then (call ∷ later) earlier none then first = (
  subst (λ n. n ≤ 16) (sym (last_then (call ∷ later) earlier none)) then.0,
  sets_then later earlier none then.1 first,
)

-- a look, and an evict of one row
pub look_then : (found : Option RowRef) (earlier : List PutCall) → SetsAtMost16 earlier → SetsAtMost16 (finds_own found ∷ earlier)
unfolding SetsAtMost16 last_sets
look_then found earlier first = (omega arith, first)

pub out_then : (segment row : ℕ) (told : EvictRowAnswer) (earlier : List PutCall) → SetsAtMost16 earlier → SetsAtMost16 (takes_out segment row told ∷ earlier)
unfolding SetsAtMost16 last_sets
out_then segment row told earlier first = (omega arith, first)

pub no_last : (segment row : ℕ) (told : EvictRowAnswer) (earlier : List PutCall) → last_sets (takes_out segment row told ∷ earlier) ≡ 0
unfolding last_sets
no_last segment row told earlier = refl

-- ---- calls for room

module _ (b : Board) (cutoff : Option ℕ) (deadline : ℕ) where
  no_set : {A : Type 0} (told : WriteAnswer) (earlier : List PutCall) (p q : Pass) → Makes b (room_plan cutoff deadline) (sets told ∷ earlier) p q → A
  no_set told earlier p q makes =
      let last = last_of b (room_plan cutoff deadline) (sets told) earlier p q makes in absurd (none-some (Set last.2.0 last.2.1 last.2.2) last.2.3)

  before : (call : PutCall) (earlier : List PutCall) (p q : Pass) → Makes b (room_plan cutoff deadline) (call ∷ earlier) p q → (between : Pass) × Makes b (room_plan cutoff deadline) earlier p between
  before call earlier p q makes = let last = last_of b (room_plan cutoff deadline) call earlier p q makes in (last.0, last.1)

  pub room_then : (later earlier : List PutCall) (p q : Pass) → Makes b (room_plan cutoff deadline) later p q → SetsAtMost16 earlier → SetsAtMost16 (later ++ earlier)
  unfolding SetsAtMost16 last_sets
  room_then [] earlier p q makes first = first
  room_then (sets told ∷ later) earlier p q makes first = no_set told later p q makes
  room_then (evicts segment told ∷ later) earlier p q makes first = let was = before (evicts segment told) later p q makes in (omega arith, room_then later earlier p was.0 was.1 first)
  room_then (keeps segment row by told ∷ later) earlier p q makes first = let was = before (keeps segment row by told) later p q makes in (omega arith, room_then later earlier p was.0 was.1 first)
  room_then (refills segment told ∷ later) earlier p q makes first = let was = before (refills segment told) later p q makes in (omega arith, room_then later earlier p was.0 was.1 first)
  room_then (finds_own found ∷ later) earlier p q makes first = let was = before (finds_own found) later p q makes in (omega arith, room_then later earlier p was.0 was.1 first)
  room_then (takes_out segment row told ∷ later) earlier p q makes first = let was = before (takes_out segment row told) later p q makes in (omega arith, room_then later earlier p was.0 was.1 first)

  -- that made some where there was none come after the last set
  pub apart_then : (rows : ℕ) (later earlier : List PutCall) (p q : Pass) → Makes b (room_plan cutoff deadline) later p q
      → (last_sets earlier ≡ 0) ⊎ (has_room_for b.shape rows p ≡ false) → has_room_for b.shape rows q ≡ true
      → last_sets (later ++ earlier) ≡ 0
  unfolding last_sets Makes
  apart_then rows [] earlier p q same (inl none) left = none
  apart_then rows [] earlier p q same (inr full) left = absurd (false≢true (sym full ∙ ap (has_room_for b.shape rows) (sym same) ∙ left))
  apart_then rows (sets told ∷ later) earlier p q makes was left = no_set told later p q makes
  apart_then rows (evicts segment told ∷ later) earlier p q makes was left = refl
  apart_then rows (keeps segment row by told ∷ later) earlier p q makes was left = refl
  apart_then rows (refills segment told ∷ later) earlier p q makes was left = refl
  apart_then rows (finds_own found ∷ later) earlier p q makes was left = refl
  apart_then rows (takes_out segment row told ∷ later) earlier p q makes was left = refl
