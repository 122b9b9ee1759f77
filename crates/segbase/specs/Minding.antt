-- What a pass keeps in mind was so at a moment that it has seen.
use Rattle.std.specs.Prelude.{◌≡◌, ℕ, List, Some}
use Rattle.segword.specs.Words.{Shape}
use Rattle.segmodel.specs.Words.{Begins, IsStanding}
use Rattle.segcore.specs.Words.{Event, HasBit, seen}
use Rattle.segbase.specs.declared.law.Held.{Held}
use Rattle.segbase.specs.declared.law.Locked.{Locked}
use Rattle.segbase.specs.declared.law.Memo.{Memo}

-- at that moment the key stood with the value in the segment
pub record HasHeld (shape : Shape) (trace : List Event) (held : Held) : Type 0 where
  pub past : Begins held.trace trace
  pub stood : IsStanding shape (seen held.trace) held.key held.value held.segment

-- at that moment the pass had the bit of the bucket
pub record HasLocked (shape : Shape) (trace : List Event) (pass : ℕ) (locked : Locked)
    : Type 0 where
  pub past : Begins locked.trace trace
  pub bit : HasBit shape locked.trace pass locked.bucket

-- both are so of whatever the pass keeps in mind
pub record Minds (shape : Shape) (trace : List Event) (pass : ℕ) (memo : Memo) : Type 0 where
  pub holding : (held : Held) → memo.holding ≡ Some held → HasHeld shape trace held
  pub locked : (locked : Locked) → memo.locked ≡ Some locked → HasLocked shape trace pass locked
