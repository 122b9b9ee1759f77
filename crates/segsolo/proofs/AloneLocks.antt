-- With one pass, a lock and an unlock are served as the model says.
use Rattle.std.proofs.Common.{◌≡◌, ◌≢◌, ℕ, Bool, true, false, List, is_some, Option, Some, None, option_map, refl, sym, ap, ◌∙◌, inr}
use Rattle.std.specs.Prelude.{◌↔◌}
use Rattle.std.proofs.lemmas.Bool.{false≢true}
use Rattle.std.proofs.lemmas.Option.{none-some}
use Rattle.segmodel.specs.declared.answer.Turn.TheVariants as turn
use Rattle.segmodel.specs.declared.answer.Outcome.TheVariants as outcome
use Rattle.segmodel.specs.Words.{bucket_of}
use Rattle.segmodel.specs.Turns as turns
use Rattle.segbase.specs.Words.{Board, locked_of, mine, Pass}
use Rattle.segstore.specs.declared.bucket.LockAnswer.TheVariants as lock
use Rattle.segstore.specs.Words.{DrawsNothing, GoesOn, IsLockAnswer, IsUnlockAnswer, LockAnswer, RaisesNothing}
use Rattle.segstore.specs.Words.{LocksBucket, SetsLock, UnlocksBucket}
use Rattle.segstore.proofs.Keeping.{stored_in}
use Rattle.segstore.proofs.Costs.{draws_nothing, reads_nothing}
use Rattle.segstore.proofs.Idling.{unchanged}
use Rattle.segsolo.specs.Alone.{item_of, state_at, IsAlone, TurnsAlone, outcome_of_lock, outcome_of_unlock}
use Rattle.segindex.proofs.OnePass.{busy_by_lock}
use Rattle.segsolo.proofs.AlonePass.{none_if, same_seen, as_was, left}
use Rattle.segsolo.proofs.AloneRows.{frequencies_still, turned_kept, turned_still}
use Rattle.segsolo.proofs.AloneWidths.{same_widths}

-- another bucket is locked, or none; the rest is as it was
locks_alone : (b : Board) (p q : Pass) (bucket : Option ℕ) → IsAlone b p → GoesOn b p q → DrawsNothing p q → RaisesNothing p q → mine q ≡ mine p → SetsLock bucket p q
    → state_at b.shape q ≡ record (state_at b.shape p) { locked = bucket }
locks_alone b p q bucket was on undrawn unraised same sets =
    as_was b.shape p q (same_seen b p q was on.quiet same) (ap stored_in sets.plain) (same_widths b p q was on undrawn) (frequencies_still b p q was on same unraised)
    ∙ (λ i. record (state_at b.shape p) { held = option_map item_of ((sets.memo i).holding); locked = (sets.plain i).locked })

module _ (b : Board) (p q : Pass) (was : IsAlone b p) (on : GoesOn b p q) (undrawn : DrawsNothing p q) (unraised : RaisesNothing p q) where
  -- ---- lock

  other_answer : (told : LockAnswer) → ((told ≡ lock.AlreadyLocked) ↔ (locked_of p ≢ None)) → told ≢ lock.AlreadyLocked → locked_of p ≡ None
  other_answer told already other = by (locked_of p) refl
    where
      by : (locked : Option ℕ) → locked_of p ≡ locked → locked_of p ≡ None
      by None is = is
      by (Some bucket) is = absurd (other (already.1 (λ free. none-some bucket (sym free ∙ is))))

  stays_locked : (bucket : ℕ) (locked : Option ℕ) → locked ≢ None → (turns.lock_outcome locked ≡ outcome.AlreadyLocked) × (turns.locked_after bucket locked ≡ locked)
  stays_locked bucket None some = absurd (some refl)
  stays_locked bucket (Some other) some = (refl, refl)

  lock_turn : (key : List ℕ) (told : LockAnswer) → IsLockAnswer b.shape key told p q → ((told ≡ lock.AlreadyLocked) ↔ (locked_of p ≢ None))
      → TurnsAlone b (turn.Lock key) (outcome_of_lock told) p q
  lock_turn key lock.Locked locks already =
      let free = other_answer lock.Locked already (λ e. cc) in
      turned_kept b (turn.Lock key) outcome.Locked p q was on locks.entries (ap stored_in locks.sets.plain) (
        sym (ap turns.lock_outcome free),
        locks_alone b p q (Some (bucket_of b.shape key)) was on undrawn unraised locks.entries locks.sets
            ∙ ap (λ o. record (state_at b.shape p) { locked = o }) (sym (ap (turns.locked_after (bucket_of b.shape key)) free)),
      )
  lock_turn key lock.Busy (nothing, vain) already =
      let free = other_answer lock.Busy already (λ e. cc) in
      absurd (none-some (bucket_of b.shape key) (sym free ∙ busy_by_lock b p q (bucket_of b.shape key) was.quiet on.quiet was.one (inr vain)))
  lock_turn key lock.AlreadyLocked same already =
      let nothing = unchanged p q same in
      let stays = stays_locked (bucket_of b.shape key) (locked_of p) (already.0 refl) in
      turned_still b (turn.Lock key) outcome.AlreadyLocked p q was on nothing (
        sym stays.0,
        left b p q was on nothing (same_widths b p q was on undrawn)
            (frequencies_still b p q was on nothing.entries unraised)
            ∙ ap (λ o. record (state_at b.shape p) { locked = o }) (sym stays.1),
      )

  -- ---- unlock

  unlocks_one : (locked : Option ℕ) → true ≡ is_some locked → outcome.Unlocked ≡ turns.unlock_outcome locked
  unlocks_one None some = absurd (false≢true (sym some))
  unlocks_one (Some bucket) some = refl

  unlock_turn : (told : Bool) → IsUnlockAnswer b.shape told p q → told ≡ is_some (locked_of p) → TurnsAlone b turn.Unlock (outcome_of_unlock told) p q
  unlock_turn true unlocks was_locked =
      turned_kept b turn.Unlock outcome.Unlocked p q was on unlocks.entries (ap stored_in unlocks.sets.plain) (
        unlocks_one (locked_of p) was_locked,
        locks_alone b p q None was on undrawn unraised unlocks.entries unlocks.sets,
      )
  unlock_turn false same was_locked =
      let nothing = unchanged p q same in
      let free = none_if (locked_of p) (sym was_locked) in
      turned_still b turn.Unlock outcome.NotLocked p q was on nothing (
        sym (ap turns.unlock_outcome free),
        left b p q was on nothing (same_widths b p q was on undrawn)
            (frequencies_still b p q was on nothing.entries unraised)
            ∙ ap (λ o. record (state_at b.shape p) { locked = o }) free,
      )

-- ---- as turns

pub turns_lock : (b : Board) (p q : Pass) (key : List ℕ) (told : LockAnswer) → IsAlone b p → LocksBucket b key told p q → TurnsAlone b (turn.Lock key) (outcome_of_lock told) p q
turns_lock b p q key told was is = lock_turn b p q was is.on is.draws_nothing (ap (λ r. r.0) is.reads_nothing) key told is.answer is.already

pub turns_unlock : (b : Board) (p q : Pass) (told : Bool) → IsAlone b p → UnlocksBucket b told p q → TurnsAlone b turn.Unlock (outcome_of_unlock told) p q
turns_unlock b p q told was is = unlock_turn b p q was is.on (draws_nothing p q is.costs_nothing) (ap (λ r. r.0) (reads_nothing p q is.costs_nothing)) told is.answer is.was_locked
