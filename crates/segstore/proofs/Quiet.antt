-- A pass that was quiet before a call is quiet after it.
use Rattle.std.proofs.Common.{◌≡◌, ℕ, ◌<◌, eqb, cond, is_some, List, [], ◌∷◌, ◌++◌, Option, Some, None, option_map, refl, sym, ap, ◌∙◌, subst, append_assoc, arith}
use Rattle.std.proofs.lemmas.Bool.{cond-true, eq-eqb}
use Rattle.std.proofs.lemmas.Option.{none-some, same_Some}
use Rattle.segword.specs.Words.{Shape}
use Rattle.segcore.specs.declared.event.Event.TheVariants.{Glanced, Bumped, Entered, Left}
use Rattle.segcore.specs.Words.{bucket_after, Event, HasBit, inside, NoneAt}
use Rattle.segcore.proofs.Moments.{marked_begins}
use Rattle.segbase.specs.declared.pass.PlainPart.{PlainPart}
use Rattle.segbase.specs.Words.{AddsEvents, Board, Held, holding, is_holding_of, IsReaderEvent}
use Rattle.segbase.specs.Words.{Locked, locked, locked_of, Memo, number, OnlyReads, Pass, Reads}
use Rattle.segbase.specs.Words.{sight, StaysIn, trace}
use Rattle.segbase.proofs.Moves.{moved_on, moved_seen}
use Rattle.segbase.proofs.Staying.{none_both}
use Rattle.segstore.specs.Segments.{KeepsSegments}
use Rattle.segstore.specs.Quiet.{IsLock, IsHold, is_held_in, IsQuiet}
use Rattle.segstore.specs.Taking.{HasCleanBit}
use Rattle.segstore.specs.Calls.{GoesOn}
use Rattle.segstore.proofs.UnderBit.{unchanged, moved_none}
use Rattle.segstore.proofs.Bits.{none_at_both, bit_before}

-- ---- what a quiet pass has

lock_here : (z : Shape) (h : List Event) (p : ℕ) (lock : Locked) → IsLock z h p lock → bucket_after z h lock.bucket ≡ bucket_after z lock.trace lock.bucket
lock_here z h p lock is = ap (λ g. bucket_after z g lock.bucket) is.since ∙ unchanged z is.more lock.trace lock.bucket is.still

pub has_lock : (b : Board) (p : Pass) (lock : Locked) → IsQuiet b p → locked p ≡ Some lock → HasCleanBit b p lock.bucket
has_lock b p lock quiet is =
    let old = quiet.lock lock is in
    let same = lock_here b.shape (trace p) (number p) lock old in record {
      bit = (old.bit.0, ap (λ u. u.holder) same ∙ old.bit.1);
      unwritten = ap (λ u. u.written) same ∙ old.unwritten;
      undrawn = ap (λ u. u.spare) same ∙ old.undrawn;
    }

the_lock : (o : Option Locked) (bucket : ℕ) → Some bucket ≡ option_map (λ (lock : Locked). lock.bucket) o → (lock : Locked) × (o ≡ Some lock) × (lock.bucket ≡ bucket)
the_lock None bucket e = absurd (none-some bucket (sym e))
the_lock (Some lock) bucket e = (lock, refl, sym (same_Some bucket lock.bucket e))

-- the lock that the plain part names
pub lock_of : (b : Board) (p : Pass) (bucket : ℕ) → IsQuiet b p → locked_of p ≡ Some bucket → (lock : Locked) × (locked p ≡ Some lock) × (lock.bucket ≡ bucket)
lock_of b p bucket quiet is = the_lock (locked p) bucket (sym is ∙ quiet.locks)

pub has_locked : (b : Board) (p : Pass) (bucket : ℕ) → IsQuiet b p → locked_of p ≡ Some bucket → HasCleanBit b p bucket
has_locked b p bucket quiet is = let l = lock_of b p bucket quiet is in subst (HasCleanBit b p) l.2 (has_lock b p l.0 quiet l.1)

-- ---- quiet again

in_hold : (o : Option Held) (hold : Held) → o ≡ Some hold → (let n : ℕ = cond (is_held_in o hold.segment) 1 0 in n) ≡ 1
in_hold o hold is = ap (λ x. cond (is_held_in x hold.segment) 1 0) is ∙ cond-true (eqb hold.segment hold.segment) 1 0 (eq-eqb hold.segment hold.segment refl)

-- what a call leaves of the segments that the pass is in: it is in each as often as before, and stayed there
pub record SettlesIn (own : List Event) (p q : Pass) : Type 0 where
  pub memo : holding q ≡ holding p
  pub plain : is_holding_of q ≡ is_holding_of p
  pub readings : (s : ℕ) → inside (trace q) (number p) s ≡ inside (trace p) (number p) s
  pub stays : (s : ℕ) → 0 < inside (trace p) (number p) s → StaysIn own (trace p) (number p) s

module _ (b : Board) (own : List Event) (p q : Pass) (quiet : IsQuiet b p) (m : AddsEvents b own p q) (s : SettlesIn own p q) where
  pub holds_again : is_holding_of q ≡ is_some (holding q)
  holds_again = s.plain ∙ (quiet.holds ∙ ap is_some (sym s.memo))

  pub inside_again : (segment : ℕ) → inside (trace q) (number q) segment ≡ (let n : ℕ = cond (is_held_in (holding q) segment) 1 0 in n)
  inside_again segment = ap (λ n. inside (trace q) n segment) m.same ∙ (s.readings segment ∙ (quiet.inside segment ∙ ap (λ o. cond (is_held_in o segment) 1 0) (sym s.memo)))

  pub hold_again : (hold : Held) → holding q ≡ Some hold → IsHold b.shape (trace q) hold
  hold_again hold is =
      let before = sym s.memo ∙ is in
      let old = quiet.hold hold before in
      let there : inside (trace p) (number p) hold.segment ≡ 1 = quiet.inside hold.segment ∙ in_hold (holding p) hold before in record {
        more = m.more ++ old.more;
        since = m.goes_on ∙ (ap (λ h. m.more ++ h) old.since ∙ sym (append_assoc m.more old.more hold.trace));
        stood = old.stood;
        kept = none_both hold.segment m.more old.more (m.kept hold.segment (s.stays hold.segment (omega arith))) old.kept;
      }

-- what a call leaves as it was, beside what it added by itself
pub record StaysQuiet (b : Board) (own : List Event) (p q : Pass) : Type 0 where
  pub moved : AddsEvents b own p q
  pub memo : (sight q).memo ≡ (sight p).memo
  pub locked_of : locked_of q ≡ locked_of p
  pub holding : is_holding_of q ≡ is_holding_of p
  pub segments : KeepsSegments b q
  -- it has no bit that it hadn't, and did nothing in the bucket of its lock
  pub bits : (bucket : ℕ) → HasBit b.shape (trace q) (number q) bucket → HasBit b.shape (trace p) (number p) bucket
  pub untouched : (lock : Locked) → locked p ≡ Some lock → NoneAt b.shape lock.bucket own
  pub readings : (s : ℕ) → inside (trace q) (number p) s ≡ inside (trace p) (number p) s
  pub stays : (s : ℕ) → 0 < inside (trace p) (number p) s → StaysIn own (trace p) (number p) s

pub quiet_again : (b : Board) (own : List Event) (p q : Pass) → IsQuiet b p → StaysQuiet b own p q → IsQuiet b q
quiet_again b own p q quiet s =
    let m = s.moved in
    let same : locked q ≡ locked p = ap (λ (x : Memo). x.locked) s.memo in
    let there : SettlesIn own p q = record { memo = ap (λ (x : Memo). x.holding) s.memo; plain = s.holding; readings = s.readings; stays = s.stays } in record {
      pass = m.pass;
      segments = s.segments;
      locks = s.locked_of ∙ (quiet.locks ∙ ap (λ o. option_map (λ (lock : Locked). lock.bucket) o) (sym same));
      bits = λ bucket has. s.locked_of ∙ quiet.bits bucket (s.bits bucket has);
      lock = λ lock is.
          let before = sym same ∙ is in
          let old = quiet.lock lock before in record {
            more = m.more ++ old.more;
            since = m.goes_on ∙ (ap (λ h. m.more ++ h) old.since ∙ sym (append_assoc m.more old.more lock.trace));
            bit = (old.bit.0, old.bit.1 ∙ ap Some (sym m.same));
            unwritten = old.unwritten;
            undrawn = old.undrawn;
            still = none_at_both b.shape lock.bucket m.more old.more (moved_none b own p q lock.bucket m (has_lock b p lock quiet before).bit (s.untouched lock before)) old.still;
          };
      holds = holds_again b own p q quiet m there;
      inside = inside_again b own p q quiet m there;
      hold = hold_again b own p q quiet m there;
    }

-- what it has seen only grew
pub goes_on : (b : Board) (own : List Event) (p q : Pass) → AddsEvents b own p q → IsQuiet b q → GoesOn b p q
goes_on b own p q m quiet = record {
  quiet = quiet;
  same = m.same;
  marked = marked_begins (trace p) (trace q) (moved_on b own p q m);
  seen = moved_seen b own p q m;
  steps = m.steps;
}

-- ---- readers

reading_none : (z : Shape) (b : ℕ) (e : Event) → IsReaderEvent e → NoneAt z b (e ∷ [])
reading_none z b (Glanced p c) is = (refl, tt)
reading_none z b (Bumped p s r f) is = (refl, tt)
reading_none z b (Entered p s) is = (refl, tt)
reading_none z b (Left p s) is = (refl, tt)
reading_none z b e is = absurd is

-- a reader does nothing in a bucket
pub reads_none : (z : Shape) (b : ℕ) (own : List Event) → OnlyReads own → NoneAt z b own
reads_none z b [] only = tt
reads_none z b (e ∷ own) only = ((reading_none z b e only.0).0, reads_none z b own only.1)

pub reads_settles : (b : Board) (p q : Pass) (reads : Reads b p q) → q.plain ≡ p.plain → (sight q).memo ≡ (sight p).memo → KeepsSegments b q → StaysQuiet b reads.own p q
reads_settles b p q reads plain memo segments = record {
  moved = reads.moved;
  memo = memo;
  locked_of = ap (λ (x : PlainPart). x.locked) plain;
  holding = ap (λ (x : PlainPart). x.is_holding) plain;
  segments = segments;
  bits = λ bucket. bit_before b reads.own p q bucket reads.moved (reads_none b.shape bucket reads.own reads.only);
  untouched = λ lock is. reads_none b.shape lock.bucket reads.own reads.only;
  readings = reads.inside;
  stays = reads.stays;
}

pub quiet_reads : (b : Board) (p q : Pass) → IsQuiet b p → Reads b p q → q.plain ≡ p.plain → (sight q).memo ≡ (sight p).memo → KeepsSegments b q → IsQuiet b q
quiet_reads b p q quiet reads plain memo segments = quiet_again b reads.own p q quiet (reads_settles b p q reads plain memo segments)
