-- A write under the bit that it took for itself: the bit is given back at the end, and the pass is quiet again.
use Rattle.std.proofs.Common.{◌≡◌, ◌≢◌, ℕ, ◌<◌, Bool, true, false, List, [], ◌∷◌, ◌++◌, Option, Some, None, refl, option_map, sym, ap, ◌∙◌, subst, ⊎_elim, append_assoc}
use Rattle.std.proofs.lemmas.Bool.{cases_eq, ne_eqb}
use Rattle.std.proofs.lemmas.Option.{none-some}
use Rattle.segmodel.specs.Words.{Entry}
use Rattle.segmodel.specs.History as history
use Rattle.segcore.specs.declared.event.Event.TheVariants.{Took, Freed}
use Rattle.segcore.specs.Event as event
use Rattle.segcore.specs.Count as traces
use Rattle.segcore.specs.Words.{bucket_after, drew, Event, HasBit, NoneAt}
use Rattle.segbase.specs.Words.{AddsAtOnce, AddsEvents, Board, count, HasStep, is_holding_of}
use Rattle.segbase.specs.Words.{Locked, locked, locked_of, mine, number, Pass, seen, trace}
use Rattle.segbase.proofs.Starting.{has_added}
use Rattle.segbase.proofs.Moves.{moved_then, moved_mine, moved_count, moved_inside}
use Rattle.segstore.specs.Segments.{KeepsSegments}
use Rattle.segstore.proofs.Keeping.{AreCalm, keeps_plain}
use Rattle.segstore.specs.Quiet.{IsQuiet}
use Rattle.segstore.specs.Calls.{memo, GoesOn, TakesOneBit, DrawsNothing}
use Rattle.segstore.specs.Taking.{peek, bounces, TakesBucket, HasCleanBit, TookToWrite, TakesToWrite}
use Rattle.segstore.proofs.Bits.{none_at_both, bit_before}
use Rattle.segstore.proofs.Bounces.{bounces_still, bounces_calm, bounces_undrawn, bounces_seen}
use Rattle.segstore.proofs.Draws.{AreUndrawn, undrawn}
use Rattle.segstore.proofs.Idling.{gave_up}
use Rattle.segstore.proofs.Quiet.{quiet_again, goes_on}
use Rattle.segstore.proofs.Still.{AreStill}
use Rattle.segstore.proofs.Peeking.{PeeksInto, parted_inside, parted_stays, peeks_into}
use Rattle.segstore.proofs.TakenBits.{AreNoTries, both_no_tries, took_one}
use Rattle.segstore.proofs.Taking.{bounces_none}

pub takes_to_write : (b : Board) (bucket : ℕ) (t : Bool) (p q : Pass) → IsQuiet b p → bucket < b.shape.buckets
    → locked_of p ≢ Some bucket → TakesBucket b bucket t p q → q.plain ≡ p.plain → memo q ≡ memo p
    → TakesToWrite b bucket t p q
takes_to_write b bucket true p q quiet within apart takes plain same = record { unlocked = apart; takes = takes; plain = plain; memo = same }
takes_to_write b bucket false p q quiet within apart takes plain same = gave_up b p q bucket quiet within takes plain same

pub still_both : (xs ys : List Event) → AreStill xs → AreStill ys → AreStill (xs ++ ys)
still_both [] ys i j = j
still_both (e ∷ xs) ys i j = (i.0, still_both xs ys i.1 j)

-- The pass took the bit of a bucket that it hasn't locked, to write under it. It may have looked at the deadline of a segment since.
pub record HasBegun (b : Board) (bucket : ℕ) (into : Option ℕ) (p q : Pass) : Type 0 where
  pub unlocked : locked_of p ≢ Some bucket
  pub tries : ℕ
  pub few : tries < 64
  pub moved : AddsEvents b (peek (number p) into ++ (Took (number p) bucket ∷ bounces (number p) bucket tries)) p q
  pub clean : HasCleanBit b q bucket
  pub plain : q.plain ≡ p.plain
  pub memo : memo q ≡ memo p

peek_no_try : (n : ℕ) (into : Option ℕ) → AreNoTries (peek n into)
peek_no_try n None = tt
peek_no_try n (Some segment) = (tt, (tt, tt))

-- as it is when the bit was taken
pub begun : (b : Board) (bucket : ℕ) (p q : Pass) → TookToWrite b bucket p q → HasBegun b bucket None p q
begun b bucket p q took = record {
  unlocked = took.unlocked;
  tries = took.takes.0;
  few = took.takes.1;
  moved = took.takes.2;
  clean = took.takes.3;
  plain = took.plain;
  memo = took.memo;
}

module _ (b : Board) (bucket : ℕ) (p q : Pass) (quiet : IsQuiet b p) {into : Option ℕ} (took : HasBegun b bucket into p q) where
  abbrev taking : List Event
  taking = Took (number p) bucket ∷ bounces (number p) bucket took.tries

  -- the tries, the one that took the bit, and the look
  abbrev pub tries : List Event
  tries = peek (number p) into ++ taking

  pub took_moved : AddsEvents b tries p q
  took_moved = took.moved

  -- it has a step, that of the first try
  has_by : (look : Option ℕ) → AddsEvents b (peek (number p) look ++ taking) p q → HasStep p q
  has_by None m = has_added b _ _ p q m
  has_by (Some segment) m = has_added b _ _ p q m

  pub took_has : HasStep p q
  took_has = has_by into took.moved

  pub took_clean : HasCleanBit b q bucket
  took_clean = took.clean

  taking_still : AreStill taking
  taking_still = (tt, bounces_still (number p) bucket took.tries)

  tries_are_undrawn : AreUndrawn tries
  tries_are_undrawn = elim into as (λ o. AreUndrawn (peek (number p) o ++ taking)) [
    | None ↦ (tt, bounces_undrawn (number p) bucket took.tries)
    | Some segment ↦ (tt, (tt, (tt, bounces_undrawn (number p) bucket took.tries)))
  ]

  tries_are_calm : AreCalm tries
  tries_are_calm = elim into as (λ o. AreCalm (peek (number p) o ++ taking)) [
    | None ↦ (tt, bounces_calm (number p) bucket took.tries)
    | Some segment ↦ (tt, (tt, (tt, bounces_calm (number p) bucket took.tries)))
  ]

  tries_elsewhere : (other : ℕ) → bucket ≢ other → NoneAt b.shape other tries
  tries_elsewhere other apart = elim into as (λ o. NoneAt b.shape other (peek (number p) o ++ taking)) [
    | None ↦ (ne_eqb bucket other apart, bounces_none b.shape other (number p) bucket took.tries)
    | Some segment ↦ (refl, (refl, (ne_eqb bucket other apart, bounces_none b.shape other (number p) bucket took.tries)))
  ]

  tries_seen : (h : List Event) → event.seen (tries ++ h) ≡ event.seen h
  tries_seen h = elim into as (λ o. event.seen ((peek (number p) o ++ taking) ++ h) ≡ event.seen h) [
    | None ↦ bounces_seen (number p) bucket took.tries h
    | Some segment ↦ bounces_seen (number p) bucket took.tries h
  ]

  pub tries_undrawn : (c : ℕ) → traces.count (drew c) (number p) (tries ++ trace p) ≡ count (drew c) p
  tries_undrawn c = undrawn (number p) c tries (trace p) tries_are_undrawn

  pub took_keeps : KeepsSegments b q
  took_keeps = keeps_plain b tries p q took_moved tries_are_calm took.plain quiet.segments

  -- what was done since the bit was taken, the release at its end
  module _ (s : Pass) (own : List Event) (added : List Entry) (counted : Bool)
      (m : AddsEvents b (Freed (number p) bucket counted ∷ own) q s) (elsewhere : (other : ℕ) → bucket ≢ other
      → NoneAt b.shape other own) (still : AreStill own)
      (adds : (h : List Event) → event.seen (own ++ h) ≡ added ++ event.seen h) (free : (bucket_after b.shape (trace s) bucket).holder ≡ None) where
    abbrev all : List Event
    all = Freed (number p) bucket counted ∷ (own ++ tries)

    moved_all : AddsEvents b all p s
    moved_all = moved_then b tries (Freed (number p) bucket counted ∷ own) p q s took_moved m

    none_elsewhere : (other : ℕ) → bucket ≢ other → NoneAt b.shape other all
    none_elsewhere other apart = (ne_eqb bucket other apart, none_at_both b.shape other own tries (elsewhere other apart) (tries_elsewhere other apart))

    lock_apart : (lock : Locked) → locked p ≡ Some lock → bucket ≢ lock.bucket
    lock_apart lock is same = took.unlocked (quiet.locks ∙ (ap (λ o. option_map (λ (l : Locked). l.bucket) o) is ∙ ap Some (sym same)))

    bit_back : (other : ℕ) → HasBit b.shape (trace s) (number s) other → HasBit b.shape (trace p) (number p) other
    bit_back other has = ⊎_elim
        (λ same. absurd (none-some (number s) (sym free ∙ (ap (λ k. (bucket_after b.shape (trace s) k).holder) same ∙ has.1))))
        (λ apart. bit_before b all p s other moved_all (none_elsewhere other apart) has)
        (cases_eq bucket other)

    pub ends_on : memo s ≡ memo p → locked_of s ≡ locked_of p → is_holding_of s ≡ is_holding_of p → KeepsSegments b s → GoesOn b p s
    ends_on same locks holds segments =
        goes_on b all p s moved_all (quiet_again b all p s quiet (record {
          moved = moved_all;
          memo = same;
          locked_of = locks;
          holding = holds;
          segments = segments;
          bits = bit_back;
          untouched = λ lock is. none_elsewhere lock.bucket (lock_apart lock is);
          readings = λ segment. moved_inside b all p s segment moved_all ∙ parted_inside (number p) into taking taking_still (Freed (number p) bucket counted ∷ own) (trace p) segment (tt, still);
          stays = λ segment there. parted_stays (number p) into taking taking_still (Freed (number p) bucket counted ∷ own) (trace p) segment (tt, still) there;
        }))

    -- its entries are those that were added under the bit
    pub ends_adding : mine s ≡ history.mine (number p) (added ++ seen p)
    ends_adding = moved_mine b all p s moved_all ∙ ap (history.mine (number p))
        (ap event.seen (append_assoc own tries (trace p)) ∙ (adds (tries ++ trace p) ∙ ap (λ h. added ++ h) (tries_seen (trace p))))

    -- it drew what was drawn under the bit
    pub ends_drew : (c : ℕ) → count (drew c) s ≡ traces.count (drew c) (number p) (own ++ (tries ++ trace p))
    ends_drew c = moved_count b all p s (drew c) moved_all ∙ ap (traces.count (drew c) (number p)) (append_assoc own tries (trace p))

    pub ends_undrawn : AreUndrawn own → DrawsNothing p s
    ends_undrawn none c = ends_drew c ∙ (undrawn (number p) c own (tries ++ trace p) none ∙ tries_undrawn c)

    -- it looked at a deadline where it did so before
    pub ends_peeking : PeeksInto into p s
    ends_peeking = peeks_into (number p) into taking taking_still b (Freed (number p) bucket counted ∷ own) p s refl moved_all (tt, still)

    -- it took one bit
    pub ends_taking : AreNoTries own → TakesOneBit bucket p s
    ends_taking none = took_one b bucket took.tries (Freed (number p) bucket counted ∷ (own ++ peek (number p) into)) p s took.few
        (tt, both_no_tries own (peek (number p) into) none (peek_no_try (number p) into))
        (subst (λ events. AddsEvents b (Freed (number p) bucket counted ∷ events) p s) (sym (append_assoc own (peek (number p) into) taking)) moved_all)

  -- the same where the release is a step of its own, that tells no entry
  module _ (r s : Pass) (own : List Event) (added : List Entry) (counted : Bool) (m : AddsEvents b own q r) (elsewhere : (other : ℕ) → bucket ≢ other → NoneAt b.shape other own) (still : AreStill own)
      (adds : (h : List Event) → event.seen (own ++ h) ≡ added ++ event.seen h)
      (freed : AddsAtOnce b (Freed (number r) bucket counted ∷ []) r s)
      (free : (bucket_after b.shape (trace s) bucket).holder ≡ None) where
    ended : AddsEvents b (Freed (number p) bucket counted ∷ own) q s
    ended = subst (λ n. AddsEvents b (Freed n bucket counted ∷ own) q s) (m.same ∙ took_moved.same) (moved_then b own (Freed (number r) bucket counted ∷ []) q r s m freed.moved)

    pub write_goes_on : memo s ≡ memo p → locked_of s ≡ locked_of p → is_holding_of s ≡ is_holding_of p → KeepsSegments b s → GoesOn b p s
    write_goes_on = ends_on s own added counted ended elsewhere still adds free

    pub write_adds : mine s ≡ history.mine (number p) (added ++ seen p)
    write_adds = ends_adding s own added counted ended elsewhere still adds free

    pub write_drew : (c : ℕ) → count (drew c) s ≡ traces.count (drew c) (number p) (own ++ (tries ++ trace p))
    write_drew = ends_drew s own added counted ended elsewhere still adds free

    pub write_undrawn : AreUndrawn own → DrawsNothing p s
    write_undrawn = ends_undrawn s own added counted ended elsewhere still adds free

    pub write_peeking : PeeksInto into p s
    write_peeking = ends_peeking s own added counted ended elsewhere still adds free

    pub write_takes : AreNoTries own → TakesOneBit bucket p s
    write_takes = ends_taking s own added counted ended elsewhere still adds free
