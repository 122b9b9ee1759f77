use Rattle.std.proofs.Common.{◌<◌, ◌∙◌, List, ◌++◌, ◌∷◌, [], append_assoc, length, refl, sym, ap, subst, arith}
use Rattle.std.specs.Vec.Iter.{into_iter_items}
use Rattle.std.proofs.lemmas.List.{append-nil, length-set, nil_from_length}
use Rattle.segindex.specs.Words.{board_of, IsNoteOf, Note}
use Rattle.segclient.specs.Made.{Learns}
use Rattle.segclient.proofs.Places.{zip_long}
use Rattle.segshards.specs.Each.{AllThree}
use Rattle.segshards.proofs.Each.{same_rest, three_next, three_none}
use Rattle.seghandles.specs.declared.guest.Guest.{Guest}
use Rattle.seghandles.specs.Guest as of_guest
use Rattle.seghandles.proofs.Along.{longer, there, within}
use Rattle.seghandles.proofs.Dealt.{all_three}
use Rattle.seghandles.proofs.client.SharedClient.learn.Goals as goal

abbrev IsFor : Guest → Note → Type 0
IsFor guest note = IsNoteOf (board_of guest.share.index.value) note

abbrev Learned : Note → Guest → Guest → Type 0
Learned a was is = of_guest.MakesCall (Learns a) was is

pub loop-note-init : goal.loop-note-init
loop-note-init c = record {
  can = tt;
  finite = tt;
  all = sym c.into_iter-note-iterator.ensures.into_iter_gives.0;
  at = refl;
  long = refl;
  rest = refl;
  made = three_none Learned;
  wants = refl;
  holds = refl;
}

pub index_mut-requires : goal.index_mut-requires
index_mut-requires c =
    let was = c.loop-note.invariant in
    let new = c.loop-note.self.guests in
    let have = new.ok.0 in
    let split = was.all ∙ ap (λ l. c.loop-note.yielded ++ l) c.in-Some.ensures.steps.0 in
    let below = within IsFor c.args.self.now.guests.items new.items c.args.notes.items c.loop-note.yielded
    c.in-Some.note (into_iter_items c.next.new.self) c.loop-note.place was.at was.long split c.requires.notes in
    omega (arith, below, have)

pub learn-requires : goal.learn-requires
learn-requires c =
    let was = c.loop-note.invariant in
    let split = was.all ∙ ap (λ l. c.loop-note.yielded ++ l) c.in-Some.ensures.steps.0 in
    record {
      note = there IsFor c.args.self.now.guests.items c.loop-note.self.guests.items c.args.notes.items
          c.loop-note.yielded c.in-Some.note (into_iter_items c.next.new.self) c.loop-note.place
          c.index_mut.result.now was.at was.rest split c.requires.notes c.index_mut.ensures.value;
    }

pub loop-note-preserved : goal.loop-note-preserved
loop-note-preserved c =
    let was = c.loop-note.invariant in
    let old = c.args.self.now.guests.items in
    let new = c.loop-note.self.guests.items in
    let place = c.loop-note.place in
    let yielded = c.loop-note.yielded in
    let note = c.in-Some.note in
    let rest = into_iter_items c.next.new.self in
    let split = was.all ∙ ap (λ l. yielded ++ l) c.in-Some.ensures.steps.0 in
    let long = was.long in
    let in_new = within IsFor old new c.args.notes.items yielded note rest place was.at was.long split c.requires.notes in
    let below : place < length old = omega (arith, in_new, long) in
    record {
      can = tt;
      finite = tt;
      all = split ∙ sym (append_assoc yielded (note ∷ []) rest);
      at = longer yielded note place was.at;
      long = length-set new place c.learn.new.self ∙ was.long;
      rest = same_rest old new place c.learn.new.self was.rest;
      made = three_next Learned yielded old new place note c.index_mut.result.now c.learn.new.self below was.long was.rest c.index_mut.ensures.value was.made c.learn.ensures;
      wants = was.wants;
      holds = was.holds;
    }

pub returns : goal.returns
returns c =
    let was = c.loop-note.invariant in
    let old = c.args.self.now.guests.items in
    let new = c.loop-note.self.guests.items in
    let yielded = c.loop-note.yielded in
    let rest = c.loop-note.note-iterator.rest in
    let none = nil_from_length rest.items (sym rest.ok.0 ∙ c.in-None.ensures.steps.0) in
    let all = was.all ∙ ap (λ l. yielded ++ l) none ∙ append-nil yielded in
    let end = was.at ∙ ap length (sym all) ∙ zip_long IsFor old c.args.notes.items c.requires.notes in
    (subst (λ (l : List Note). AllThree Learned l old new) (sym all) (all_three Learned yielded old new c.loop-note.place end was.long was.made), record { wants = was.wants; holds = was.holds })
