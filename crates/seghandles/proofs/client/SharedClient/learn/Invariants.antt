use Rattle.std.proofs.Common.{◌≡◌, ◌++◌, drop, length, take}
use Rattle.std.specs.Vec.Iter.{into_iter_items}
use Rattle.segshards.specs.Each.{AllThree}
use Rattle.segclient.specs.Made.{Learns}
use Rattle.seghandles.specs.Guest as of_guest
use Rattle.seghandles.proofs.client.SharedClient.learn.Given as goal

abbrev pub invariant-loop-note : goal.invariant-loop-note
invariant-loop-note l =
    let old = l.fn.self.guests.items in
    let new = l.self.guests.items in
    record {
      can : goal.iterator-loop-note.can_next l.note-iterator;
      finite : goal.iterator-loop-note.is_finite l.note-iterator;
      all : l.fn.notes.items ≡ l.yielded ++ into_iter_items l.note-iterator;
      at : l.place ≡ length l.yielded;
      long : length new ≡ length old;
      rest : drop l.place new ≡ drop l.place old;
      made : AllThree (λ a was is. of_guest.MakesCall (Learns a) was is) l.yielded (take l.place old) (take l.place new);
      wants : l.self.wants ≡ l.fn.self.wants;
      holds : l.self.holds ≡ l.fn.self.holds;
    }
