-- What is so of a pass between calls, and of its own segments, has at most one proof,
-- so that a struct may keep it in a ghost field, by { IsQuiet-prop .. }.
use Rattle.std.specs.Prelude.{ℕ, List, Option}
use Rattle.std.proofs.Props.{props}
use mathlib.Core.Bool.{Bool-set}
use mathlib.Core.HLevel.{is_prop→PathP}
use Rattle.segword.specs.Words.{Shape}
use Rattle.segmodel.specs.Words.{IsStanding-prop}
use Rattle.segcore.specs.Words.{Event, HasBit, NoneAt, NoneAt-prop, NoneRefills, NoneRefills-prop}
use Rattle.segbase.specs.Words.{Board, Held, IsPassOf-prop, Locked, Pass, traces-prop}
use Rattle.segstore.specs.Segments.{KeepsSegments}
use Rattle.segstore.specs.Quiet.{IsLock, IsHold, IsQuiet}

pub KeepsSegments-prop : (b : Board) (p : Pass) → IsProp (KeepsSegments b p)
KeepsSegments-prop b p = hlevel props

IsLock-prop : (shape : Shape) (trace : List Event) (pass : ℕ) (lock : Locked)
    → IsProp (IsLock shape trace pass lock)
IsLock-prop shape trace pass lock u v =
    let start = traces-prop lock.trace trace (u.more, u.since) (v.more, v.since) in
    let bit : IsProp (HasBit shape lock.trace pass lock.bucket) = hlevel props in
    let spare : IsSet (Option ℕ) = hlevel props in
    λ i. record {
      more = (start i).0;
      since = (start i).1;
      bit = bit u.bit v.bit i;
      unwritten = Bool-set _ _ u.unwritten v.unwritten i;
      undrawn = spare _ _ u.undrawn v.undrawn i;
      still = is_prop→PathP (λ j. NoneAt shape lock.bucket (start j).0)
          (λ j. NoneAt-prop shape lock.bucket (start j).0) u.still v.still i;
    }

IsHold-prop : (shape : Shape) (trace : List Event) (hold : Held) → IsProp (IsHold shape trace hold)
IsHold-prop shape trace hold u v =
    let start = traces-prop hold.trace trace (u.more, u.since) (v.more, v.since) in
    λ i. record {
      more = (start i).0;
      since = (start i).1;
      stood = IsStanding-prop shape _ hold.key hold.value hold.segment u.stood v.stood i;
      kept = is_prop→PathP (λ j. NoneRefills hold.segment (start j).0)
          (λ j. NoneRefills-prop hold.segment (start j).0) u.kept v.kept i;
    }

pub IsQuiet-prop : (b : Board) (p : Pass) → IsProp (IsQuiet b p)
IsQuiet-prop b p = hlevel (props, IsPassOf-prop, KeepsSegments-prop, IsLock-prop, IsHold-prop)
