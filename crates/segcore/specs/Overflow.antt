-- The overflow buckets after a trace: how many are drawn, and for which chain each.
use Rattle.std.specs.Prelude.{ℕ, ◌+◌, ◌==◌, List, [], ◌∷◌, Option, Some, None, if◌then◌else◌}
use Rattle.segcore.specs.declared.event.Event.{Event}
use Rattle.segcore.specs.declared.event.Event.TheVariants.{Drew}

-- how many overflow buckets are drawn
abbrev pub drawn_in : List Event → ℕ
drawn_in [] = 0
drawn_in (Drew pass bucket depth number ∷ trace) = drawn_in trace + 1
drawn_in (_ ∷ trace) = drawn_in trace

-- the bucket that an overflow bucket is drawn for, and its depth in that bucket's chain
pub record Home : Type 0 where
  pub bucket : ℕ
  pub depth : ℕ

abbrev pub home : ℕ → ℕ → Home
home bucket depth = record { bucket = bucket; depth = depth }

-- the home of an overflow bucket that is drawn
abbrev pub home_of : List Event → ℕ → Option Home
home_of [] number = None
home_of (Drew pass bucket depth drawn ∷ trace) number =
    if drawn == number then Some (home bucket depth) else home_of trace number
home_of (_ ∷ trace) number = home_of trace number
