-- Worked examples: which calls with points an order of calls refuses.
use Rattle.std.proofs.Common.{ℕ, List, Option, arith}
use Rattle.segword.specs.Words.{Shape}
use Rattle.segmodel.specs.Words.{Reply, Request}
use Rattle.segcore.specs.Words.{World}
use Rattle.segindex.specs.Linearizable.{Effect, gets_value, IsPlaced, MayPrecede, Placed, writes}

-- a call from moment 3 to moment 5, at a point
abbrev call_at : Effect → ℕ → Placed
call_at effect point = record { call = record { pass = 0; began = 3; returned = 5; effect = effect }; point = point }

-- and one from moment 5 to moment 7
abbrev later_at : Effect → ℕ → Placed
later_at effect point = record { call = record { pass = 1; began = 5; returned = 7; effect = effect }; point = point }

-- a call of another pass beside the first one, and one of the same pass behind it
abbrev pub beside_at : Effect → ℕ → Placed
beside_at effect point = record { call = record { pass = 1; began = 3; returned = 5; effect = effect }; point = point }

abbrev pub next_at : Effect → ℕ → Placed
next_at effect point = record { call = record { pass = 0; began = 5; returned = 7; effect = effect }; point = point }

module _ (shape : Shape) (world : ℕ → World) (key : List ℕ) (now : ℕ) (read : Option (List ℕ)) (request : Request) (said : Reply) where
  -- a get doesn't read what was so before it began, nor what came after it returned
  early : ¬ (IsPlaced shape world (call_at (gets_value key now read) 2))
  early is = let since = is.since in omega (arith, since)

  late : ¬ (IsPlaced shape world (call_at (gets_value key now read) 6))
  late is = let until = is.until in omega (arith, until)

  -- a write isn't a step before the call began
  early_write : ¬ (IsPlaced shape world (call_at (writes request said) 2))
  early_write is = let since = is.since in omega (arith, since)

  -- a write is one of the steps before its return
  after_return : ¬ (IsPlaced shape world (call_at (writes request said) 5))
  after_return is = let until = is.until in omega (arith, until)

  -- a get doesn't come before a write that had returned when it began, even at one point
  overtaken : ¬ (MayPrecede (later_at (gets_value key now read) 5) (call_at (writes request said) 4))
  overtaken m = m.1 (omega arith)

  -- at one point a write comes behind a get
  at_one_point : ¬ (MayPrecede (call_at (writes request said) 4) (call_at (gets_value key now read) 4))
  at_one_point m = let places = m.0 in omega (arith, places)

  -- two passes don't write at one point, nor does one pass by two calls in turn
  two_writers : ¬ (MayPrecede (call_at (writes request said) 4) (beside_at (writes request said) 4))
  two_writers m = let same = (m.2 4 (omega arith) (omega arith)).0 in absurd (omega (arith, same))

  in_turn : ¬ (MayPrecede (call_at (writes request said) 4) (next_at (writes request said) 4))
  in_turn m = let before = (m.2 4 (omega arith) (omega arith)).1 in absurd (omega (arith, before))
