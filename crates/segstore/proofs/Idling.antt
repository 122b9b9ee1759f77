-- Calls of a quiet pass that do nothing but look, and those that gave up at a bit.
use Rattle.std.proofs.Common.{◌≡◌, ℕ, ◌<◌, false, List, [], ◌++◌, None, refl, sym, ap, ◌∙◌, inl, inr, ⊎_elim}
use Rattle.std.proofs.lemmas.Option.{none-some}
use Rattle.segmodel.specs.History as history
use Rattle.segcore.specs.Event as event
use Rattle.segcore.specs.Words.{bounced, count, Event, NoneAt, taken}
use Rattle.segbase.specs.declared.pass.PlainPart.{PlainPart}
use Rattle.segbase.specs.Words.{AddsEvents, Board, locked_of, Memo, number, Pass, trace}
use Rattle.segbase.proofs.Moves.{stays, moved_mine, moved_count}
use Rattle.segstore.proofs.Keeping.{AreCalm, keeps_plain}
use Rattle.segstore.specs.Quiet.{IsQuiet}
use Rattle.segstore.specs.Calls.{memo, GoesOn, ChangesNothing, TakesNoBit, TriesInVain, DrawsNothing, ReadsNothing, IsBusy}
use Rattle.segstore.specs.Taking.{bounces, TakesBucket}
use Rattle.segstore.proofs.Bits.{bit_before}
use Rattle.segstore.proofs.Bounces.{bounces_still, bounces_calm, bounces_undrawn, bounces_seen, bounces_taken, bounces_counted, bounces_elsewhere}
use Rattle.segstore.proofs.Draws.{moved_undrawn}
use Rattle.segstore.proofs.Quiet.{quiet_again, goes_on}
use Rattle.segstore.proofs.Still.{AreStill, no_reader, settles_still}
use Rattle.segstore.proofs.Taking.{has, bounces_none}

-- events that do nothing to words, rows or segments
pub record IsIdle (b : Board) (own : List Event) (p : Pass) : Type 0 where
  pub still : AreStill own
  pub calm : AreCalm own
  pub nowhere : (bucket : ℕ) → NoneAt b.shape bucket own
  pub unseen : event.seen (own ++ trace p) ≡ event.seen (trace p)

module _ (b : Board) (own : List Event) (p q : Pass) (quiet : IsQuiet b p) (m : AddsEvents b own p q) (idles : IsIdle b own p) (plain : q.plain ≡ p.plain) (same : memo q ≡ memo p) where
  pub quiet_idle : IsQuiet b q
  quiet_idle =
      let there = settles_still b own p q m idles.still (ap (λ (x : Memo). x.holding) same) (ap (λ (x : PlainPart). x.is_holding) plain) in
      quiet_again b own p q quiet (record {
        moved = m;
        memo = same;
        locked_of = ap (λ (x : PlainPart). x.locked) plain;
        holding = there.plain;
        segments = keeps_plain b own p q m idles.calm plain quiet.segments;
        bits = λ bucket. bit_before b own p q bucket m (idles.nowhere bucket);
        untouched = λ lock is. idles.nowhere lock.bucket;
        readings = there.readings;
        stays = there.stays;
      })

  pub goes_idle : GoesOn b p q × ChangesNothing p q
  goes_idle = (
    goes_on b own p q m quiet_idle,
    record { entries = moved_mine b own p q m ∙ ap (history.mine (number p)) idles.unseen; plain = plain; memo = same },
  )

pub idles_none : (b : Board) (p : Pass) → IsIdle b [] p
idles_none b p = record { still = tt; calm = tt; nowhere = λ bucket. tt; unseen = refl }

pub idles_bounces : (b : Board) (p : Pass) (bucket times : ℕ) → IsIdle b (bounces (number p) bucket times) p
idles_bounces b p bucket times = record {
  still = bounces_still (number p) bucket times;
  calm = bounces_calm (number p) bucket times;
  nowhere = λ other. bounces_none b.shape other (number p) bucket times;
  unseen = bounces_seen (number p) bucket times (trace p);
}

-- what it did took no bit and met none
pub took_none : (b : Board) (own : List Event) (p q : Pass) → AddsEvents b own p q → count taken (number p) (own ++ trace p) ≡ count taken (number p) (trace p)
    → ((bucket : ℕ) → count (bounced bucket) (number p) (own ++ trace p) ≡ count (bounced bucket) (number p) (trace p)) → TakesNoBit p q
took_none b own p q m takes meets = record {
  taken = moved_count b own p q taken m ∙ takes;
  bounced = λ bucket. moved_count b own p q (bounced bucket) m ∙ meets bucket;
}

-- 64 tries were in vain
pub gave_up : (b : Board) (p q : Pass) (bucket : ℕ) → IsQuiet b p → bucket < b.shape.buckets
    → TakesBucket b bucket false p q → q.plain ≡ p.plain → memo q ≡ memo p → GoesOn b p q × ChangesNothing p q
    × IsBusy bucket p q × DrawsNothing p q × ReadsNothing p q
gave_up b p q bucket quiet within tried plain same = ⊎_elim
    (λ t. let idle = goes_idle b [] p q quiet t.1 (idles_none b p) plain same in
    (idle.0, idle.1, inl (quiet.bits bucket (has b p bucket within t.0), took_none b [] p q t.1 refl (λ c. refl)), moved_undrawn b [] p q t.1 tt, no_reader b [] p q t.1 tt))
    (λ f. let own = bounces (number p) bucket 64 in let idle = goes_idle b own p q quiet f.1 (idles_bounces b p bucket 64) plain same in (
      idle.0,
      idle.1,
      inr (record {
        taken = moved_count b own p q taken f.1 ∙ bounces_taken (number p) bucket 64 (number p) (trace p);
        tries = moved_count b own p q (bounced bucket) f.1 ∙ bounces_counted (number p) bucket 64 (trace p);
        others = λ other apart. moved_count b own p q (bounced other) f.1 ∙ bounces_elsewhere (number p) bucket other 64 (trace p) apart;
      }),
      moved_undrawn b own p q f.1 (bounces_undrawn (number p) bucket 64),
      no_reader b own p q f.1 (bounces_still (number p) bucket 64),
    ))
    tried

-- a pass that has no bucket locked was in the way of nobody but another
pub in_vain : (p q : Pass) (bucket : ℕ) → locked_of p ≡ None → IsBusy bucket p q → TriesInVain bucket p q
in_vain p q bucket free (inl (own, none)) = absurd (none-some bucket (sym free ∙ own))
in_vain p q bucket free (inr vain) = vain

-- the pass did nothing by itself
pub goes_nowhere : (b : Board) (p q : Pass) → IsQuiet b p → AddsEvents b [] p q → q.plain ≡ p.plain → memo q ≡ memo p → GoesOn b p q
goes_nowhere b p q quiet m plain same = (goes_idle b [] p q quiet m (idles_none b p) plain same).0

pub does_nothing : (b : Board) (p q : Pass) → IsQuiet b p → AddsEvents b [] p q → q.plain ≡ p.plain → memo q ≡ memo p → ChangesNothing p q
does_nothing b p q quiet m plain same = (goes_idle b [] p q quiet m (idles_none b p) plain same).1

-- nothing was done at all
pub goes_same : (b : Board) (p : Pass) → IsQuiet b p → GoesOn b p p
goes_same b p quiet = goes_nowhere b p p quiet (stays b p quiet.pass) refl refl

pub changes_nothing : (p : Pass) → ChangesNothing p p
changes_nothing p = record { entries = refl; plain = refl; memo = refl }

pub unchanged : (p q : Pass) → q ≡ p → ChangesNothing p q
unchanged p q same = rw same (changes_nothing p)
