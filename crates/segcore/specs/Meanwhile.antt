-- What others leave alone between the trace that a pass has seen and a longer one
-- that has nothing more of that pass.
use Rattle.std.specs.Prelude.{◌≡◌, ◌≢◌, ℕ, ◌<◌, ◌≤◌, false, List, ◌++◌, Some}
use Rattle.segword.specs.Words.{Shape}
use Rattle.segmodel.specs.Words.{after, bucket_of, IsSameAt, mine, NoneStandsIn, owner}
use Rattle.segcore.specs.declared.event.Event.{Event}
use Rattle.segcore.specs.Event.{by, seen}
use Rattle.segcore.specs.Bucket.{Slot, item, bucket_after}
use Rattle.segcore.specs.Row.{row_alone, frequency_of}
use Rattle.segcore.specs.Segment.{inside, refills, NoneRefills, deadline_of}
use Rattle.segcore.specs.Lawful.{Fits, is_of_now, NoneAt}
use Rattle.segcore.specs.Count.{Counted, count}
use Rattle.segcore.specs.Kind.{Step, info_look, row_load, cell, HasBit, MayRead, May}
use Rattle.segcore.specs.Word.{word}

-- the step loads a word that others leave alone
abbrev pub FindsKnown : Step → Type 0
FindsKnown (info_look bucket) = Unit {0}
FindsKnown (row_load segment row place) = Unit {0}
FindsKnown _ = ⊥

pub record Meanwhile (shape : Shape) (pass : ℕ) (more old : List Event) : Type 0 where
  -- a bucket whose bit the pass has stays as it is, and so do the keys and the version in it
  pub untouched : (bucket : ℕ) → HasBit shape old pass bucket → NoneAt shape bucket more
  pub buckets : (bucket : ℕ)
      → HasBit shape old pass bucket
      → bucket_after shape (more ++ old) bucket ≡ bucket_after shape old bucket
  pub keys : (key : List ℕ)
      → HasBit shape old pass (bucket_of shape key)
      → IsSameAt shape (after shape (seen old)) (after shape (seen (more ++ old))) key
  -- the frequencies of the items in such a bucket only rise
  pub rises : (bucket position : ℕ) (named : Slot)
      → HasBit shape old pass bucket
      → (bucket_after shape old bucket).items position ≡ item named
      → frequency_of old named.segment named.row
      ≤ frequency_of (more ++ old) named.segment named.row
  -- nobody else gives the pass a bit
  pub bits : (bucket : ℕ)
      → (bucket_after shape old bucket).holder ≢ Some pass
      → (bucket_after shape (more ++ old) bucket).holder ≢ Some pass
  -- a row that the pass may read stays as it is, and the pass may go on reading it
  pub readable : (segment row : ℕ)
      → MayRead shape old pass segment row
      → (row_alone (more ++ old) segment row ≡ row_alone old segment row)
      × MayRead shape (more ++ old) pass segment row
  -- a step that loads a word that others leave alone finds what the pass knows
  pub known : (step : Step)
      → FindsKnown step
      → May shape old pass step
      → word shape (more ++ old) (cell step) ≡ word shape old (cell step)
  -- no key comes to stand in a segment of the pass's own in which none stands
  pub none_stands : (segment : ℕ)
      → owner shape segment ≡ pass
      → NoneStandsIn (after shape (seen old)) segment
      → NoneStandsIn (after shape (seen (more ++ old))) segment
  -- the pass stays in the segments that it is in, and they aren't refilled
  pub stays : (segment : ℕ) → inside (more ++ old) pass segment ≡ inside old pass segment
  pub not_refilled : (segment : ℕ) → 0 < inside old pass segment → NoneRefills segment more
  -- the deadlines of these stay, and so do those of the pass's own segments
  pub deadlines : (segment : ℕ)
      → 0 < inside old pass segment
      → deadline_of (more ++ old) segment ≡ deadline_of old segment
  pub own_deadlines : (segment : ℕ)
      → owner shape segment ≡ pass
      → deadline_of (more ++ old) segment ≡ deadline_of old segment
  pub filling : (segment : ℕ)
      → 0 < inside old pass segment
      → refills (more ++ old) segment ≡ refills old segment
  -- the pass's own entries and counts stay
  pub entries : mine pass (seen (more ++ old)) ≡ mine pass (seen old)
  pub counts : (what : Counted) → count what pass (more ++ old) ≡ count what pass old
  -- an event that the pass could add it still can,
  -- unless the event asks something of the moment itself
  pub fits : (event : Event)
      → by event ≡ pass
      → is_of_now event ≡ false
      → Fits shape old event
      → Fits shape (more ++ old) event
