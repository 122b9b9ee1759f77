use Rattle.std.proofs.Common.{◌≡◌, ◌≤◌, ◌++◌, drop, length, take}
use Rattle.std.specs.List.{AllZip}
use Rattle.std.specs.Vec.Iter.{into_iter_items}
use Rattle.segclient.specs.Client as of_one
use Rattle.segclient.specs.Made.{Learns}
use Rattle.segshards.specs.Each.{AllThree}
use Rattle.segshards.proofs.Noted.{is_note_of}
use Rattle.segshards.proofs.client.Client.learn.Given as goal

abbrev pub invariant-loop-note : goal.invariant-loop-note
invariant-loop-note l =
    let old = l.fn.self.shards.items in
    let new = l.self.shards.items in
    record {
      can : goal.iterator-loop-note.can_next l.note-iterator;
      finite : goal.iterator-loop-note.is_finite l.note-iterator;
      all : l.fn.notes.each.items ≡ l.yielded ++ into_iter_items l.note-iterator;
      notes : AllZip is_note_of (drop l.place old) (into_iter_items l.note-iterator);
      within : l.place ≤ length old;
      long : length new ≡ length old;
      rest : drop l.place new ≡ drop l.place old;
      learned : AllThree (λ a was is. of_one.MakesCall (Learns a) was is) l.yielded (take l.place old) (take l.place new);
      clock : l.self.clock ≡ l.fn.self.clock;
      holds : l.self.holds ≡ l.fn.self.holds;
    }
