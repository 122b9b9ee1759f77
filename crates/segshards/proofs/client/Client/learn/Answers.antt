use Rattle.std.proofs.Common.{◌≡◌, ◌+◌, ◌<◌, ◌≤◌, ◌∙◌, ◌∷◌, ◌++◌, [], List, ap, append_assoc, drop, length, refl, rules, subst, sym, arith}
use Rattle.std.specs.List.{AllZip}
use Rattle.std.specs.Vec.Iter.{into_iter_items}
use Rattle.std.proofs.lemmas.List.{append-nil, length-set, nil_from_length}
use Rattle.segindex.specs.Words.{Note}
use Rattle.segclient.specs.Client as of_one
use Rattle.segclient.specs.Made.{Learns}
use Rattle.segshards.specs.Each.{AllThree}
use Rattle.segshards.proofs.Each.{all_three, same_rest, same_there, three_next, three_none}
use Rattle.segshards.proofs.Places.{zip_ends, zip_first, zip_goes_on}
use Rattle.segshards.proofs.Noted.{is_note_of, same_note}
use Rattle.segshards.proofs.Same.{answers_same}
use Rattle.segshards.proofs.client.Client.learn.Goals as goal

pub loop-note-init : goal.loop-note-init
loop-note-init c = record {
  can = tt;
  finite = tt;
  all = search rules;
  notes = subst (AllZip is_note_of c.args.self.now.shards.items) (search rules) c.requires.notes;
  within = omega arith;
  long = refl;
  rest = refl;
  learned = three_none (λ a was is. of_one.MakesCall (Learns a) was is);
  clock = refl;
  holds = refl;
}

pub index_mut-requires : goal.index_mut-requires
index_mut-requires c =
    let was = c.loop-note.invariant in
    let old = c.args.self.now.shards.items in
    let long = was.long in
    let steps = c.in-Some.ensures.steps in
    let below = zip_goes_on is_note_of old c.loop-note.place _ c.in-Some.note (subst (AllZip is_note_of (drop c.loop-note.place old)) steps.0 was.notes) in
    let here : c.loop-note.place < length c.loop-note.self.shards.items = omega (arith, below, long) in
    search (rules, here)

pub learn-requires : goal.learn-requires
learn-requires c =
    let was = c.loop-note.invariant in
    let old = c.args.self.now.shards.items in
    let new = c.loop-note.self.shards.items in
    let place = c.loop-note.place in
    let one = c.index_mut.result.now in
    let steps = c.in-Some.ensures.steps in
    let first = zip_first is_note_of old place _ c.in-Some.note one (subst (AllZip is_note_of (drop place old)) steps.0 was.notes) in
    record { note = same_note _ one c.in-Some.note (sym (c.index_mut.ensures.value ∙ same_there old new place one first.0 was.long was.rest)) first.1 }

pub overflow_add-place : goal.overflow_add-place
overflow_add-place c =
    let was = c.loop-note.invariant in
    let old = c.args.self.now.shards.items in
    let steps = c.in-Some.ensures.steps in
    let below = zip_goes_on is_note_of old c.loop-note.place _ c.in-Some.note (subst (AllZip is_note_of (drop c.loop-note.place old)) steps.0 was.notes) in
    let few = c.args.self.now.few in
    let have = c.args.self.now.shards.ok.0 in
    let small : c.loop-note.place + 1 ≤ 16384 = omega (arith, below, few, have) in
    search (rules, small)

pub loop-note-preserved : goal.loop-note-preserved
loop-note-preserved c =
    let was = c.loop-note.invariant in
    let old = c.args.self.now.shards.items in
    let new = c.loop-note.self.shards.items in
    let place = c.loop-note.place in
    let one = c.index_mut.result.now in
    let is = c.learn.new.self in
    let steps = c.in-Some.ensures.steps in
    let yielded = c.loop-note.yielded in
    let note = c.in-Some.note in
    let first = zip_first is_note_of old place _ note one (subst (AllZip is_note_of (drop place old)) steps.0 was.notes) in
    let below = first.0 in
    record {
      can = tt;
      finite = tt;
      all = was.all ∙ ap (λ l. yielded ++ l) steps.0 ∙ sym (append_assoc yielded (note ∷ []) (into_iter_items c.next.new.self));
      notes = first.2;
      within = omega (arith, below);
      long = length-set new place is ∙ was.long;
      rest = same_rest old new place is was.rest;
      learned = three_next (λ a was is. of_one.MakesCall (Learns a) was is) yielded old new place note one is below was.long was.rest c.index_mut.ensures.value was.learned c.learn.ensures.learns;
      clock = was.clock;
      holds = was.holds;
    }

pub returns-clause-learns : goal.returns-clause-learns
returns-clause-learns c =
    let was = c.loop-note.invariant in
    let old = c.args.self.now.shards.items in
    let new = c.loop-note.self.shards.items in
    let place = c.loop-note.place in
    let yielded = c.loop-note.yielded in
    let rest = c.loop-note.note-iterator.rest in
    let none = nil_from_length rest.items (sym rest.ok.0 ∙ c.in-None.ensures.steps.0) in
    let all : c.args.notes.each.items ≡ yielded = was.all ∙ ap (λ l. yielded ++ l) none ∙ append-nil yielded in
    let over = zip_ends is_note_of old place (subst (AllZip is_note_of (drop place old)) none was.notes) in
    let within = was.within in (
      subst (λ (l : List Note). AllThree (λ a was is. of_one.MakesCall (Learns a) was is) l old new) (sym {A = List Note} all)
          (all_three (λ a was is. of_one.MakesCall (Learns a) was is) yielded old new place (omega (arith, over, within)) was.long was.learned),
      record { clock = was.clock; holds = was.holds },
    )

pub returns-clause-same : goal.returns-clause-same
returns-clause-same c =
    answers_same Learns c.args.notes.each.items c.args.self.now.shards.items c.loop-note.self.shards.items (λ a b old new learned. learned.counts.keeps.settings.number) (returns-clause-learns c).0
