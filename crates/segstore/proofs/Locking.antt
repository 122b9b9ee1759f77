-- A quiet pass that locked a bucket, or unlocked it, is quiet.
use Rattle.std.proofs.Common.{◌≡◌, ◌≢◌, ℕ, false, true, List, [], ◌∷◌, ◌++◌, Option, Some, None, is_some, IfSome, option_map, refl, sym, ap, ◌∙◌, subst, ⊎_elim, append_assoc}
use Rattle.std.proofs.lemmas.Bool.{cases_eq, ne_eqb, false≢true}
use Rattle.std.proofs.lemmas.Option.{none-some, same_Some}
use Rattle.segmodel.specs.History as history
use Rattle.segcore.specs.declared.event.Event.TheVariants.{Took, Freed}
use Rattle.segcore.specs.Event as event
use Rattle.segcore.specs.Words.{bucket_after, Event, HasBit, NoneAt, View}
use Rattle.segcore.proofs.Quiet.{quiet_none}
use Rattle.segcore.proofs.Moments.{seen_begins}
use Rattle.segbase.specs.Words.{AddsAtOnce, AddsEvents, Board, HasLocked, IsMemo, IsPassOf, Locked}
use Rattle.segbase.specs.Words.{locked, locked_of, Memo, number, Pass, seen, trace, view}
use Rattle.segbase.specs.Words.{with_locked}
use Rattle.segbase.specs.declared.pass.PlainPart.{PlainPart}
use Rattle.segbase.proofs.Moves.{moved_mine}
use Rattle.segbase.proofs.Owned.{still_pass}
use Rattle.segstore.specs.Segments.{KeepsSegments}
use Rattle.segstore.proofs.Keeping.{AreCalm, stored_in, keeps}
use Rattle.segstore.specs.Quiet.{IsLock, IsQuiet}
use Rattle.segstore.specs.Calls.{memo, GoesOn, TakesNoBit, DrawsNothing, ReadsNothing}
use Rattle.segstore.specs.Locks.{lock_now, SetsLock, NoneSince, Locks, Unlocks}
use Rattle.segstore.specs.Taking.{bounces, TakesBucket}
use Rattle.segstore.proofs.Bits.{bit_before, no_new_bit}
use Rattle.segstore.proofs.Bounces.{bounces_still, bounces_calm, bounces_undrawn, bounces_seen}
use Rattle.segstore.proofs.Draws.{moved_undrawn}
use Rattle.segstore.proofs.Idling.{took_none}
use Rattle.segstore.proofs.Meanwhile.{none_entries}
use Rattle.segstore.proofs.Quiet.{has_locked, lock_of, SettlesIn, holds_again, inside_again, hold_again, goes_on}
use Rattle.segstore.proofs.Still.{AreStill, no_reader, settles_still, then_minds}
use Rattle.segstore.proofs.TakenBits.{took_one}
use Rattle.segstore.proofs.Taking.{bounces_none}

-- the pass may keep in mind what it holds, and that it has locked a bucket whose bit it has
minds_lock : (b : Board) (p : Pass) (bucket : Option ℕ) (lock : Locked)
    → IfSome bucket (HasBit b.shape (trace p) (number p)) → option_map (lock_now p) bucket ≡ Some lock
    → HasLocked b.shape (trace p) (number p) lock
minds_lock b p None lock bit here = absurd (none-some lock here)
minds_lock b p (Some bucket) lock bit here = subst (HasLocked b.shape (trace p) (number p)) (same_Some (lock_now p bucket) lock here) (record { past = ([], refl); bit = bit })

-- what it keeps in mind of a lock that it names now
abbrev pub minding_lock : Pass → Memo
minding_lock p = record (memo p) { locked = option_map (lock_now p) (locked_of p) }

pub minds_now : (b : Board) (p q : Pass) (bucket : Option ℕ) → IsPassOf b p
    → IfSome bucket (HasBit b.shape (trace p) (number p)) → q ≡ record p { plain = with_locked bucket p.plain }
    → IsPassOf b q × IsMemo b q (minding_lock q)
minds_now b p q bucket is bit same = subst (λ x. IsPassOf b x × IsMemo b x (minding_lock x)) (sym same)
    (still_pass b p (with_locked bucket p.plain) is refl, record { holding = is.minds.holding; locked = λ lock. minds_lock b p bucket lock bit })

pub sets_now : (p r q : Pass) (bucket : Option ℕ) → r ≡ record p { plain = with_locked bucket p.plain } → view q ≡ view r → q.plain ≡ r.plain → memo q ≡ minding_lock r → SetsLock bucket p q
sets_now p r q bucket set seen plain minds = record {
  plain = plain ∙ ap (λ (x : Pass). x.plain) set;
  memo = minds ∙ (λ i. record (memo (set i)) { locked = option_map (λ n. record { bucket = n; trace = (sym seen i).trace }) (locked_of (set i)) });
}

-- what the pass does, and then what it says of its lock
module _ (b : Board) (own : List Event) (p r q : Pass) (bucket : Option ℕ) (quiet : IsQuiet b p)
    (m : AddsEvents b own p r) (plain : r.plain ≡ p.plain) (same : memo r ≡ memo p) (is : IsPassOf b q)
    (view_is : view q ≡ view r) (sets : SetsLock bucket r q) where
  pub moved_to : AddsEvents b own p q
  moved_to = then_minds b own p r q m view_is is

  pub sets_lock : SetsLock bucket p q
  sets_lock = record { plain = sets.plain ∙ ap (with_locked bucket) plain; memo = sets.memo ∙ ap (λ (m : Memo). record m { locked = option_map (lock_now q) bucket }) same }

  pub keeps_on : AreCalm own → KeepsSegments b q
  keeps_on calm = keeps b own p q moved_to calm (ap stored_in sets_lock.plain) quiet.segments

  pub in_segments : AreStill own → SettlesIn own p q
  in_segments still = settles_still b own p q moved_to still (ap (λ (m : Memo). m.holding) sets_lock.memo) (ap (λ (x : PlainPart). x.is_holding) sets_lock.plain)

-- ---- a lock

pub unlocked : (o : Option ℕ) → false ≡ is_some o → o ≡ None
unlocked None e = refl
unlocked (Some bucket) e = absurd (false≢true e)

-- the take of a bucket's bit is of no other bucket
took_elsewhere : (b : Board) (p bucket times other : ℕ) → bucket ≢ other → NoneAt b.shape other (Took p bucket ∷ bounces p bucket times)
took_elsewhere b p bucket times other apart = (ne_eqb bucket other apart, bounces_none b.shape other p bucket times)

module _ (b : Board) (p r q : Pass) (bucket : ℕ) (quiet : IsQuiet b p) (free : locked_of p ≡ None)
    (took : TakesBucket b bucket true p r) (plain : r.plain ≡ p.plain) (same : memo r ≡ memo p) (is : IsPassOf b q)
    (view_is : view q ≡ view r) (sets : SetsLock (Some bucket) r q) where
  abbrev took_own : List Event
  took_own = Took (number p) bucket ∷ bounces (number p) bucket took.0

  locked_move : AddsEvents b took_own p q
  locked_move = moved_to b took_own p r q (Some bucket) quiet took.2 plain same is view_is sets

  only_bit : (other : ℕ) → HasBit b.shape (trace q) (number q) other → locked_of q ≡ Some other
  only_bit other bit = ap (λ (x : PlainPart). x.locked) sets.plain ∙ ⊎_elim
      (λ e. ap Some e)
      (λ apart. absurd (none-some other (sym free ∙ quiet.bits other (bit_before b took_own p q other locked_move (took_elsewhere b (number p) bucket took.0 other apart) bit))))
      (cases_eq bucket other)

  new_lock : IsLock b.shape (trace q) (number q) (lock_now q bucket)
  new_lock = let clean = took.3 in
      subst (λ (v : View). IsLock b.shape v.trace v.number (record { bucket = bucket; trace = v.trace })) (sym view_is)
      (record { more = []; since = refl; bit = clean.bit; unwritten = clean.unwritten; undrawn = clean.undrawn; still = tt })

  quiet_locked : IsQuiet b q
  quiet_locked = let stay = in_segments b took_own p r q (Some bucket) quiet took.2 plain same is view_is sets (tt, bounces_still (number p) bucket took.0) in record {
    pass = is;
    segments = keeps_on b took_own p r q (Some bucket) quiet took.2 plain same is view_is sets (tt, bounces_calm (number p) bucket took.0);
    locks = ap (λ (x : PlainPart). x.locked) sets.plain ∙ sym (ap (λ (m : Memo). option_map (λ (lock : Locked). lock.bucket) m.locked) sets.memo);
    bits = only_bit;
    lock = λ lock here. subst (IsLock b.shape (trace q) (number q)) (same_Some (lock_now q bucket) lock (sym (ap (λ (m : Memo). m.locked) sets.memo) ∙ here)) new_lock;
    holds = holds_again b took_own p q quiet locked_move stay;
    inside = inside_again b took_own p q quiet locked_move stay;
    hold = hold_again b took_own p q quiet locked_move stay;
  }

  pub locks_undrawn : DrawsNothing p q
  locks_undrawn = moved_undrawn b took_own p q locked_move (tt, bounces_undrawn (number p) bucket took.0)

  pub locks_unread : ReadsNothing p q
  locks_unread = no_reader b took_own p q locked_move (tt, bounces_still (number p) bucket took.0)

  pub locks_bucket : GoesOn b p q × Locks bucket p q
  locks_bucket = (
    goes_on b took_own p q locked_move quiet_locked,
    record {
      entries = moved_mine b took_own p q locked_move ∙ ap (history.mine (number p)) (bounces_seen (number p) bucket took.0 (trace p));
      sets = sets_lock b took_own p r q (Some bucket) quiet took.2 plain same is view_is sets;
      takes = took_one b bucket took.0 [] p q took.1 tt locked_move;
    },
  )

-- ---- its end

module _ (b : Board) (p r q : Pass) (bucket : ℕ) (quiet : IsQuiet b p) (had : locked_of p ≡ Some bucket)
    (did : AddsAtOnce b (Freed (number p) bucket false ∷ []) p r)
    (freed : (bucket_after b.shape (trace r) bucket).holder ≡ None) (plain : r.plain ≡ p.plain)
    (same : memo r ≡ memo p) (is : IsPassOf b q) (view_is : view q ≡ view r) (sets : SetsLock None r q) where
  abbrev freed_own : List Event
  freed_own = Freed (number p) bucket false ∷ []

  unlocked_move : AddsEvents b freed_own p q
  unlocked_move = moved_to b freed_own p r q None quiet did.moved plain same is view_is sets

  no_bit : (other : ℕ) → HasBit b.shape (trace q) (number q) other → ⊥
  no_bit other bit =
      let free : (bucket_after b.shape (trace q) bucket).holder ≡ None = ap (λ (v : View). (bucket_after b.shape v.trace bucket).holder) view_is ∙ freed in
      let old = quiet.bits other (no_new_bit b freed_own p q bucket unlocked_move free (λ x apart. (ne_eqb bucket x apart, tt)) other bit) in
      none-some (number q) (sym free ∙ (ap (λ x. (bucket_after b.shape (trace q) x).holder) (same_Some bucket other (sym had ∙ old)) ∙ bit.1))

  quiet_unlocked : IsQuiet b q
  quiet_unlocked = let stay = in_segments b freed_own p r q None quiet did.moved plain same is view_is sets (tt, tt) in record {
    pass = is;
    segments = keeps_on b freed_own p r q None quiet did.moved plain same is view_is sets (tt, tt);
    locks = ap (λ (x : PlainPart). x.locked) sets.plain ∙ sym (ap (λ (m : Memo). option_map (λ (lock : Locked). lock.bucket) m.locked) sets.memo);
    bits = λ other bit. absurd (no_bit other bit);
    lock = λ lock here. absurd (none-some lock (sym (ap (λ (m : Memo). m.locked) sets.memo) ∙ here));
    holds = holds_again b freed_own p q quiet unlocked_move stay;
    inside = inside_again b freed_own p q quiet unlocked_move stay;
    hold = hold_again b freed_own p q quiet unlocked_move stay;
  }

  -- nothing of the bucket came in since it was locked
  none_came : (lock : Locked) → locked p ≡ Some lock → NoneSince b.shape lock (seen q)
  none_came lock here =
      let old = quiet.lock lock here in
      let of : lock.bucket ≡ bucket = (let l = lock_of b p bucket quiet had in ap (λ (x : Locked). x.bucket) (same_Some lock l.0 (sym here ∙ l.1)) ∙ l.2) in
      let bit = (has_locked b p bucket quiet had).bit in
      let others : NoneAt b.shape lock.bucket did.others = subst (λ x. NoneAt b.shape x did.others) (sym of) (quiet_none b.shape did.others (trace p) (number p) bucket did.before did.none bit.1) in
      let now : trace q ≡ Freed (number p) bucket false ∷ (did.others ++ trace p) = ap (λ (v : View). v.trace) view_is ∙ did.now in (
        seen_begins lock.trace (trace q) (
          unlocked_move.more ++ old.more,
          unlocked_move.goes_on
              ∙ (ap (λ h. unlocked_move.more ++ h) old.since
              ∙ sym (append_assoc unlocked_move.more old.more lock.trace)),
        ),
        ap (λ h. history.entries_of b.shape lock.bucket (event.seen h)) now ∙ (none_entries b.shape lock.bucket did.others (trace p) others
            ∙ (ap (λ h. history.entries_of b.shape lock.bucket (event.seen h)) old.since ∙ none_entries b.shape lock.bucket old.more lock.trace old.still)),
      )

  pub takes_none : TakesNoBit p q
  takes_none = took_none b freed_own p q unlocked_move refl (λ c. refl)

  pub unlocks_undrawn : DrawsNothing p q
  unlocks_undrawn = moved_undrawn b freed_own p q unlocked_move (tt, tt)

  pub unlocks_unread : ReadsNothing p q
  unlocks_unread = no_reader b freed_own p q unlocked_move (tt, tt)

  pub unlocks_bucket : GoesOn b p q × Unlocks b.shape p q
  unlocks_bucket = (
    goes_on b freed_own p q unlocked_move quiet_unlocked,
    record {
      entries = moved_mine b freed_own p q unlocked_move;
      sets = sets_lock b freed_own p r q None quiet did.moved plain same is view_is sets;
      none_since = none_came;
    },
  )
