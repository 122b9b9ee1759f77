use Rattle.segbase.specs.Words.{number, seen, trace, view}
use Rattle.segcore.specs.Event as event
use Rattle.segcore.proofs.InOrder.{in_order}
use Rattle.segcore.proofs.Moments.{begins_on, seen_begins}
use Rattle.segindex.specs.Order.{PointsAreInOrder}
use Rattle.segindex.proofs.laws.calls_are_in_order.Goals as goal

points : PointsAreInOrder
points shape before after between world earlier p q one other reached on at_earlier at_p at_q ends first =
    let start = first.0 in
    let order = in_order shape before after between world (number earlier) (number p) (view earlier) (view p) (view q) first.1.later start reached on at_earlier at_p at_q first.1.looked in
    begins_on one (event.seen start) other (begins_on one (seen earlier) (event.seen start) ends (seen_begins (trace earlier) start order)) first.2

pub returns : goal.returns
returns c = points
