-- What a put of a client came to.
use Rattle.std.specs.Prelude.{◌≡◌, ◌≢◌, ◌⊎◌, ℕ, ◌/◌, ◌≤◌, Bool, true, false, is_some, List, [], length, All, min, Some}
use Rattle.segword.specs.Words.{most_rows, Shape, span_of}
use Rattle.segmodel.specs.declared.answer.WriteAnswer.TheVariants as write
use Rattle.segmodel.specs.declared.request.Request.TheVariants.{Set}
use Rattle.segmodel.specs.Words.{owner}
use Rattle.segbase.specs.Words.{Board, number, Pass}
use Rattle.segstore.specs.Words.{has_room, has_room_for, memo}
use Rattle.segindex.specs.declared.current.CurrentAnswer.TheVariants as current_answer
use Rattle.segindex.specs.Words.{MakesCurrent}
use Rattle.segclient.specs.declared.member.Member.{Member}
use Rattle.segclient.specs.declared.put.PutAnswer.{PutAnswer}
use Rattle.segclient.specs.declared.put.PutAnswer.TheVariants as put
use Rattle.segclient.specs.declared.segments.Window.{Window}
use Rattle.segclient.specs.Clearing.{Clears, most_steps_of_put, Step}
use Rattle.segclient.specs.Counting.{cleared_too, counted, given_up_too}
use Rattle.segclient.specs.Lives.{deadline_by, IsDeadlineFor, IsLife, IsWindowFor}
use Rattle.segclient.specs.Member.{KeepsSettings}
use Rattle.segclient.specs.PutCalls.{IsInWindow, IsRefused, Makes, Plan, PutCall, room_plan, sets}
use Rattle.segclient.specs.PutCalls.{StoresUntil}
use Rattle.segclient.specs.PutParts.{is_outside, SetsIfTimely, Spares}
use Rattle.segclient.specs.Putting.{CostsOneItem, IsPutAnswer, most_calls, SetsAtMost16}
use Rattle.segclient.specs.Tallies.{put_tally}

-- The deadline of what a client refills now for its own time to live: the last multiple
-- of an eighth of this time that comes in it. What is of one eighth then has one deadline.
abbrev pub deadline_of : Member → ℕ
deadline_of member = deadline_by member.clock member.time_to_live (member.time_to_live / 8)

-- the pass stores into another segment of its own in use, or into the same one as before
abbrev pub Chooses : Board → Pass → Pass → Type 0
Chooses b p q =
    (q ≡ p) ⊎ ((segment : ℕ) × MakesCurrent b segment current_answer.Current p q)

-- it is as it was, or it stores into a segment with one of these deadlines and a row left
abbrev pub Moves : Shape → Window → Pass → Pass → Type 0
Moves shape window p q = (q ≡ p) ⊎ ((is_outside window q ≡ false) × (has_room shape q ≡ true))

-- The pass stays where its segment has one of these deadlines and a row left.
-- Else it may move, only to an own segment in use that has both.
pub record ChoosesFor (window : Window) (b : Board) (p q : Pass) : Type 0 where
  pub chooses : Chooses b p q
  pub moves : Moves b.shape window p q
  pub stays : is_outside window p ≡ false → has_room b.shape p ≡ true → q ≡ p

-- so it chose, and then a set was made, or more in a row
abbrev pub SetsFirst : Board → Plan → PutAnswer → Pass → Pass → Type 0
SetsFirst b plan told p q =
    (chosen : Pass) × ChoosesFor plan.window b p chosen × SetsIfTimely b plan told chosen q

-- what the pass stored has one of these deadlines: that of its current segment
abbrev pub StoredFor : Window → Pass → Type 0
StoredFor window p = (until : ℕ) × StoresUntil until p × IsInWindow window until

-- A put for this time chose a segment, without a step, and made these calls, for its request
-- and by the client's settings. What it refills for it has the deadline `until`, the last multiple
-- of an eighth of the time that comes in it, or with queues of a 64th.
-- Where it is Stored, the deadline of the segment it is stored into comes in the put's time,
-- and not before seven eighths of it: it can be read so long, unless it goes before.
-- It makes at most 16 sets in a row.
-- With rows enough left in the segment that it chose, and a deadline that it asks for, it makes
-- no room. A full bucket costs one item at most, and no segment.
-- Once it is Stored, a client with queues clears rows of another segment, by at most 24 steps.
-- Hold and lock are as they were, and the client counted the put, and what calls and steps came to.
pub record PutsFor (time : ℕ) (key value : List ℕ) (told : PutAnswer) (b : Board)
    (old new : Member) : Type 0 where
  pub until : ℕ
  pub window : Window
  pub life : IsLife old.clock time window until
  pub deadline : IsDeadlineFor (is_some old.segments.queues) old.clock time until
  pub asks : IsWindowFor (is_some old.segments.queues) old.clock time until window
  pub calls : List PutCall
  pub chosen : Pass
  pub between : Pass
  pub chooses : ChoosesFor window b old.pass chosen
  pub makes : Makes b (record {
    request = Some (Set key value old.clock);
    cutoff = old.cutoff;
    deadline = until;
    window = window;
  }) calls chosen between
  pub answer : IsPutAnswer b.shape (number old.pass) (span_of key value) told calls
  pub stored : told ≡ put.Stored → StoredFor window between
  pub not_stored : told ≢ put.Stored → All (λ call. call ≢ sets write.Stored) calls
  pub tries : SetsAtMost16 calls
  pub full : CostsOneItem calls
  pub spares : Spares b.shape window (span_of key value) calls chosen
  pub steps : List Step
  pub clears : Clears b old.cutoff steps between new.pass
  pub few_steps : length steps ≤ most_steps_of_put
  pub unasked : told ≢ put.Stored → steps ≡ []
  pub unqueued : is_some old.segments.queues ≡ false → steps ≡ []
  pub memo : memo new.pass ≡ memo old.pass
  pub stats : new.stats ≡ counted (put_tally told)
      (cleared_too steps (given_up_too calls old.stats))
  pub draws : new.draws ≡ old.draws
  pub settings : KeepsSettings old new
  pub costs : length calls ≤ most_calls b.shape

-- a put for the client's own time to live
abbrev pub Puts : List ℕ → List ℕ → PutAnswer → Board → Member → Member → Type 0
Puts key value told b old new = PutsFor old.time_to_live key value told b old new

-- Room was made by these calls: then as many rows as the longest item takes are left in a segment
-- with the deadline that is asked, or all of one that has fewer. Or it wasn't, and each segment
-- of the pass was refused.
-- A client with queues makes no call where its current segment has this deadline and so many
-- rows left.
pub record MakesRoomFor (made : Bool) (b : Board) (old new : Member) : Type 0 where
  pub calls : List PutCall
  pub makes : Makes b (room_plan old.cutoff (deadline_of old)) calls old.pass new.pass
  pub room : has_room_for b.shape (min (most_rows b.limits) b.shape.rows) new.pass ≡ made
  pub deadline : made ≡ true → StoresUntil (deadline_of old) new.pass
  pub refused : made ≡ false
      → (segment : ℕ)
      → owner b.shape segment ≡ number old.pass
      → IsRefused segment calls
  pub spares : is_some old.segments.queues ≡ true
      → StoresUntil (deadline_of old) old.pass
      → has_room_for b.shape (min (most_rows b.limits) b.shape.rows) old.pass ≡ true
      → calls ≡ []
  pub memo : memo new.pass ≡ memo old.pass
  pub stats : new.stats ≡ given_up_too calls old.stats
  pub draws : new.draws ≡ old.draws
  pub settings : KeepsSettings old new
  pub costs : length calls ≤ most_calls b.shape
