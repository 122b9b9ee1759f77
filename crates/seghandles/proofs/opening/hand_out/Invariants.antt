use Rattle.std.proofs.Common.{◌≡◌, ◌++◌, length, map, take}
use Rattle.std.specs.Vec.Iter.{into_iter_items}
use Rattle.seghandles.specs.Opening.{put_in, values_of}
use Rattle.seghandles.proofs.opening.hand_out.Given as goal

abbrev pub invariant-loop-client : goal.invariant-loop-client
invariant-loop-client l = record {
  can : goal.iterator-loop-client.can_next l.client-iterator;
  finite : goal.iterator-loop-client.is_finite l.client-iterator;
  all : l.fn.clients.items ≡ l.yielded ++ into_iter_items l.client-iterator;
  at : l.at ≡ length l.yielded;
  long : length l.handles ≡ length l.fn.clients.items;
  placed : values_of (take l.at l.handles) ≡ map put_in l.yielded;
}
