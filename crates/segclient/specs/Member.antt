-- What a client has beside its index, as contracts see it, and what its calls leave as it was.
use Rattle.std.specs.Prelude.{◌≡◌, ℕ, ◌+◌, ◌*◌, ◌/◌, ◌%◌, ◌^◌, ◌-◌, is_some, Option, None}
use Rattle.segword.specs.Words.{Shape}
use Rattle.segbase.specs.Words.{number, Pass}
use Rattle.segindex.specs.Words.{board_of, Index, shape_of}
use Rattle.segstore.specs.Words.{IsQuiet, IsQuiet-prop}
use Rattle.segtally.specs.Rings.{first_ring, IsOwnRing, IsOwnRing-prop}
use Rattle.segclient.specs.declared.member.Member.{Member}
use Rattle.segclient.specs.Clearing.{IsCleared, IsCleared-prop}
use Rattle.segclient.specs.Counting.{no_stats}

-- Its pass is between two calls of this index, and its segments are the pass's own.
-- No item names a row of the one that it clears, up to where the clearing is.
abbrev pub IsMember : Index → Member → Type 0
IsMember i member =
    IsQuiet (board_of i) member.pass
    × IsOwnRing (shape_of i) (number member.pass) member.segments.ring
    × IsCleared (shape_of i) member.segments.source member.pass

pub IsMember-prop : (i : Index) (member : Member) → IsProp (IsMember i member)
IsMember-prop i member = λ x y j. (
  IsQuiet-prop (board_of i) member.pass x.0 y.0 j,
  IsOwnRing-prop (shape_of i) (number member.pass) member.segments.ring x.1 y.1 j,
  IsCleared-prop (shape_of i) member.segments.source member.pass x.2 y.2 j,
)

-- the numbers at random: the state after the next one, and the one that it gives
abbrev pub next_draws : ℕ → ℕ
next_draws draws = (draws * 1664525 % 2 ^ 32 + 1013904223) % 2 ^ 32

abbrev pub draw_of : Member → ℕ
draw_of member = next_draws member.draws / 256

-- a new one of the pass: its ring begins with its first segment, its draws with the pass's
-- number, its clock shows 0, what it stores expires at the largest moment,
-- its puts keep by queues nothing under this cutoff, or nothing, and it counted nothing
pub record Begins (shape : Shape) (least : Option ℕ) (p : Pass) (member : Member) : Type 0 where
  pub pass : member.pass ≡ p
  pub ring : member.segments.ring ≡ first_ring shape (number p)
  pub draws : member.draws ≡ number p
  pub clock : member.clock ≡ 0
  pub time_to_live : member.time_to_live ≡ 2 ^ 32 - 1
  pub cutoff : member.cutoff ≡ least
  pub queues : is_some member.segments.queues ≡ is_some least
  pub stats : member.stats ≡ no_stats

-- it has the same pass, with the same clock; what it stores expires as before,
-- and its puts keep what they kept before, by queues if they did
pub record KeepsSettings (old new : Member) : Type 0 where
  pub number : number new.pass ≡ number old.pass
  pub clock : new.clock ≡ old.clock
  pub time_to_live : new.time_to_live ≡ old.time_to_live
  pub cutoff : new.cutoff ≡ old.cutoff
  pub queues : is_some new.segments.queues ≡ is_some old.segments.queues

-- and it clears the same segment next
pub record Keeps (old new : Member) : Type 0 where
  pub settings : KeepsSettings old new
  pub segments : new.segments ≡ old.segments

-- no number was drawn
abbrev pub KeepsDraws : Member → Member → Type 0
KeepsDraws old new = new.draws ≡ old.draws

-- one number was drawn
abbrev pub DrawsOnce : Member → Member → Type 0
DrawsOnce old new = new.draws ≡ next_draws old.draws

-- all but its settings is as it was
pub record KeepsRest (old new : Member) : Type 0 where
  pub pass : new.pass ≡ old.pass
  pub ring : new.segments.ring ≡ old.segments.ring
  pub draws : new.draws ≡ old.draws
  pub stats : new.stats ≡ old.stats

-- its clock shows this moment, and nothing else is changed
pub record SetsNow (now : ℕ) (old new : Member) : Type 0 where
  pub rest : KeepsRest old new
  pub segments : new.segments ≡ old.segments
  pub clock : new.clock ≡ now
  pub time_to_live : new.time_to_live ≡ old.time_to_live
  pub cutoff : new.cutoff ≡ old.cutoff

-- the client's time to live is this one from now on, and nothing else is changed
pub record SetsTimeToLive (time : ℕ) (old new : Member) : Type 0 where
  pub rest : KeepsRest old new
  pub clock : new.clock ≡ old.clock
  pub segments : new.segments ≡ old.segments
  pub time_to_live : new.time_to_live ≡ time
  pub cutoff : new.cutoff ≡ old.cutoff

-- its puts keep what has this frequency or a higher one, or nothing, and no more by queues,
-- it clears no segment, and nothing else is changed
pub record SetsCutoff (least : Option ℕ) (old new : Member) : Type 0 where
  pub rest : KeepsRest old new
  pub clock : new.clock ≡ old.clock
  pub time_to_live : new.time_to_live ≡ old.time_to_live
  pub cutoff : new.cutoff ≡ least
  pub queues : new.segments.queues ≡ None
  pub source : new.segments.source ≡ None
