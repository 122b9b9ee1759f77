use Rattle.std.proofs.Common.{◌≡◌, ◌≤◌, ◌⊎◌, ◌-◌, ◌<◌, ◌+◌}
use Rattle.segshards.specs.Budget.{bytes_of, IsShapeFor, most_items, TakesOver}
use Rattle.segshards.proofs.budget.largest_plan.Given as goal

abbrev pub invariant-loop-over : goal.invariant-loop-over
invariant-loop-over l =
    IsShapeFor l.keys l.threads l.shape
    × (bytes_of l.shape l.count ≤ l.bytes)
    × (l.keys < l.over)
    × (l.over ≤ most_items + 1)
    × ((l.over ≡ most_items + 1) ⊎ TakesOver l.bytes l.threads l.over l.count)

abbrev pub decreases-loop-over : goal.decreases-loop-over
decreases-loop-over l = l.over - l.keys
