-- Laws of puts: what a caller needs of a put, in place of the calls of the index that it makes.
-- How many calls those are, and when none makes room, stands only in `PutsFor`.
-- Each is proved as the contract of a function in src/laws.rt.
use Rattle.std.specs.Prelude.{◌≡◌, ◌≢◌, ◌⊎◌, ℕ, ◌≤◌, false, is_some, List, ◌∷◌, Some}
use Rattle.segword.specs.Words.{Shape, span_of}
use Rattle.segmodel.specs.declared.entry.Entry.TheVariants.{Wrote}
use Rattle.segmodel.specs.declared.request.Reply.TheVariants.{Stored}
use Rattle.segmodel.specs.declared.request.Request.TheVariants.{Set}
use Rattle.segmodel.specs.Words.{after, bucket_of, Entry, IsBetween, mine as mine_in, owner}
use Rattle.segmodel.specs.Words.{Request}
use Rattle.segcore.specs.Mark as mark
use Rattle.segbase.specs.Words.{Board, marked, mine, number, Pass, seen, SinceFirst}
use Rattle.segstore.specs.Words.{GoesOn, IsBusy, memo}
use Rattle.segwrite.specs.Words.{WasFull}
use Rattle.segevict.specs.Words.{IsInTheWay, StoodIn}
use Rattle.segindex.specs.Words.{board_of, Index, IsBeingRead, shape_of}
use Rattle.segclient.specs.declared.effort.Effort.{Effort}
use Rattle.segclient.specs.declared.member.Member.{Member}
use Rattle.segclient.specs.declared.put.PutAnswer.{PutAnswer}
use Rattle.segclient.specs.declared.put.PutAnswer.TheVariants as put
use Rattle.segclient.specs.declared.segments.Window.{Window}
use Rattle.segclient.specs.Counting.{counted}
use Rattle.segclient.specs.Entries.{AddsForPut}
use Rattle.segclient.specs.Lives.{IsDeadlineFor, life_window}
use Rattle.segclient.specs.Member.{IsMember, KeepsDraws, KeepsSettings}
use Rattle.segclient.specs.PutCalls.{IsInWindow}
use Rattle.segclient.specs.PutParts.{effort_from, with_effort}
use Rattle.segclient.specs.Puts.{PutsFor}
use Rattle.segclient.specs.Tallies.{put_tally}

-- `Is` holds of each put of a client: for a time to live, of a key and a value, with its answer.
abbrev pub OfPut : (Index → ℕ → List ℕ → List ℕ → PutAnswer → Member → Member → Type 0)
    → Type 0
OfPut Is = (i : Index) (time : ℕ) (key value : List ℕ) (told : PutAnswer) (old new : Member)
    → IsMember i old
    → PutsFor time key value told (board_of i) old new
    → Is i time key value told old new

-- The client's pass is quiet again, and what it has seen only grew. Hold, lock and settings are
-- as they were, and no number was drawn.
abbrev pub PutGoesOn : Type 0
PutGoesOn = OfPut (λ i time key value told old new.
    GoesOn (board_of i) old.pass new.pass
    × (memo new.pass ≡ memo old.pass)
    × KeepsDraws old new
    × KeepsSettings old new)

-- ---- what it adds and counts

-- A put counts its answer, and what it refilled, moved and took out, by as many entries:
-- for room, up to one deadline, and then, once it is Stored, to clear a segment, if it has queues.
pub record CountsPut (i : Index) (time : ℕ) (key value : List ℕ) (told : PutAnswer)
    (old new : Member) : Type 0 where
  pub until : ℕ
  pub deadline : IsDeadlineFor (is_some old.segments.queues) old.clock time until
  pub room : Effort
  pub cleared : Effort
  pub adds : AddsForPut (shape_of i) (number old.pass) old.cutoff (Set key value old.clock) until
      told room cleared (mine old.pass) (mine new.pass)
  pub unasked : told ≢ put.Stored → cleared ≡ effort_from 0 0 0
  pub unqueued : is_some old.segments.queues ≡ false → cleared ≡ effort_from 0 0 0
  pub stats : new.stats
      ≡ counted (put_tally told) (with_effort cleared (with_effort room old.stats))

-- A put counts its answer, and the entries that it adds beside its request's.
abbrev pub PutCounts : Type 0
PutCounts = OfPut CountsPut

-- ---- how long it lasts

-- The pass's newest entry stores what is asked, into a segment with one of these deadlines.
pub record StoresInWindow (shape : Shape) (pass : ℕ) (asked : Request) (window : Window)
    (history : List Entry) : Type 0 where
  pub segment : ℕ
  pub earlier : List Entry
  pub newest : mine_in pass history ≡ Wrote pass asked Stored (Some segment) ∷ earlier
  pub lasts : IsInWindow window ((after shape history).deadline segment)

-- A put that is Stored stores into a segment whose deadline comes in the put's time,
-- and not before seven eighths of it.
abbrev pub PutLasts : Type 0
PutLasts = OfPut (λ i time key value told old new. told ≡ put.Stored
    → (history : List Entry)
    × IsBetween (seen old.pass) (seen new.pass) history
    × StoresInWindow (shape_of i) (number old.pass) (Set key value old.clock)
    (life_window old.clock time) history)

-- ---- why it isn't Stored

-- this is so of a part of a call, from one of its moments to another
abbrev pub Somewhen : Board → (Pass → Pass → Type 0) → Pass → Pass → Type 0
Somewhen b Is p q =
    (start : Pass) × (end : Pass) × GoesOn b p start × Is start end × GoesOn b end q

-- a segment couldn't be had: the bucket of one of its keys was in the way, or it was being read
abbrev pub IsDenied : Shape → ℕ → Pass → Pass → Type 0
IsDenied shape segment p q =
    IsInTheWay shape (λ key. StoodIn shape segment key p q) p q ⊎ IsBeingRead segment q

-- the key was new, its bucket had no empty word, and the chain couldn't grow
abbrev pub FoundFull : Shape → List ℕ → Pass → Pass → Type 0
FoundFull shape key p q =
    SinceFirst p q (λ start. WasFull shape key (mark.marked start) (marked q))

-- why a put that isn't Stored has its answer
abbrev pub IsPutReason : Board → List ℕ → List ℕ → PutAnswer → Pass → Pass → Type 0
IsPutReason b key value put.Stored p q = Unit {0}
IsPutReason b key value put.NoRoom p q =
    span_of key value ≤ b.shape.rows
    → (segment : ℕ)
    → owner b.shape segment ≡ number p
    → Somewhen b (IsDenied b.shape segment) p q
IsPutReason b key value put.BucketFull p q = Somewhen b (FoundFull b.shape key) p q
IsPutReason b key value put.Busy p q = Somewhen b (IsBusy (bucket_of b.shape key)) p q

-- A put of an item that takes no more rows than a segment has is NoRoom only if each segment of its
-- pass couldn't be had. It is BucketFull only if its key's bucket was full, and Busy only if that
-- bucket was in the way.
abbrev pub PutIsRefused : Type 0
PutIsRefused = OfPut (λ i time key value told old new.
    IsPutReason (board_of i) key value told old.pass new.pass)
