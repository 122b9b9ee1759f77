use Rattle.std.proofs.Common.{◌≡◌, set, slice_get, refl, sym, ap, subst, subst₂, ◌∙◌, arith}
use Rattle.std.proofs.lemmas.List.{length-set}
use Rattle.std.proofs.lemmas.Option.{same_Some}
use Rattle.segmodel.specs.Words.{Turns}
use Rattle.segindex.specs.Words.{board_of, shape_of}
use Rattle.segscript.specs.Passes.{first_state, SeesAllOf}
use Rattle.segmodel.proofs.ListPlaces.{elsewhere}
use Rattle.segscript.proofs.Catching.{all_quiet, all_seen, all_there, caught_up, hold_there, only_place, pass_there}
use Rattle.segscript.proofs.Meetings.{learned_sees, turned_sees}
use Rattle.segscript.proofs.Servers.{still_in_order, set_there, first_is, first_then}
use Rattle.segscript.proofs.server.ServerEngine.turn.Goals as goal

pub catch_up-requires-clause-quiet : goal.catch_up-requires-clause-quiet
catch_up-requires-clause-quiet c = all_quiet c.args.self.now c.requires.ready

pub take_turn-requires-clause-quiet : goal.take_turn-requires-clause-quiet
take_turn-requires-clause-quiet c =
    let s = c.args.self.now in
    let up = c.catch_up.ensures in
    let at = pass_there s c.catch_up.new.passes.items c.args.pass c.requires.ready up c.requires.pass c.index_mut.result.now c.index_mut.ensures.value in
    let held = hold_there s c.catch_up.new.passes.items c.args.pass c.requires.ready up c.requires.pass c.index_mut-2.result.now c.index_mut-2.ensures.value in
    (caught_up s c.catch_up.new.passes.items c.args.pass c.requires.ready up c.requires.pass c.args.pass c.index_mut.result.now c.index_mut-2.result.now at held).0.quiet

pub take_turn-requires-clause-hold : goal.take_turn-requires-clause-hold
take_turn-requires-clause-hold c =
    let s = c.args.self.now in
    let up = c.catch_up.ensures in
    let at = pass_there s c.catch_up.new.passes.items c.args.pass c.requires.ready up c.requires.pass c.index_mut.result.now c.index_mut.ensures.value in
    let held = hold_there s c.catch_up.new.passes.items c.args.pass c.requires.ready up c.requires.pass c.index_mut-2.result.now c.index_mut-2.ensures.value in
    (caught_up s c.catch_up.new.passes.items c.args.pass c.requires.ready up c.requires.pass c.args.pass c.index_mut.result.now c.index_mut-2.result.now at held).0.hold

pub returns-clause-ready : goal.returns-clause-ready
returns-clause-ready c =
    let s = c.args.self.now in
    let ready = c.requires.ready in
    let up = c.catch_up.ensures in
    let b = board_of s.index.now in
    let passes = c.catch_up.new.passes.items in
    let p = c.index_mut.result.now in
    let q = c.take_turn.new.pass in
    let at = pass_there s passes c.args.pass ready up c.requires.pass p c.index_mut.ensures.value in
    let held = hold_there s passes c.args.pass ready up c.requires.pass c.index_mut-2.result.now c.index_mut-2.ensures.value in
    let in_order = caught_up s passes c.args.pass ready up c.requires.pass in
    let was = (in_order c.args.pass p c.index_mut-2.result.now at held).0 in
    let turn = c.take_turn.ensures.turn in
    record {
      all = length-set passes c.args.pass q ∙ all_there s passes c.args.pass ready up c.requires.pass;
      holds = length-set s.holds.items c.args.pass c.take_turn.new.held ∙ ready.holds;
      in_order = still_in_order b passes s.holds.items c.args.pass p q c.index_mut-2.result.now c.take_turn.new.held in_order at held turn.goes_on.same
          (record { quiet = turn.goes_on.quiet; hold = c.take_turn.ensures.hold; alone = λ one. (turn.alone (was.alone one)).0 });
      within = c.requires.pass;
      ahead = λ r is. subst (SeesAllOf (set passes c.args.pass q)) (same_Some q r (sym (set_there passes c.args.pass q p at) ∙ is))
          (turned_sees b passes c.args.pass p q turn.goes_on (all_seen s passes c.args.pass ready up c.requires.pass p at));
    }

pub returns-clause-turns : goal.returns-clause-turns
returns-clause-turns c =
    let s = c.args.self.now in
    let ready = c.requires.ready in
    let up = c.catch_up.ensures in
    let shape = shape_of s.index.now in
    let passes = c.catch_up.new.passes.items in
    let p = c.index_mut.result.now in
    let q = c.take_turn.new.pass in
    let at = pass_there s passes c.args.pass ready up c.requires.pass p c.index_mut.ensures.value in
    let held = hold_there s passes c.args.pass ready up c.requires.pass c.index_mut-2.result.now c.index_mut-2.ensures.value in
    record {
      index = refl;
      one = record {
        met = passes;
        before = p;
        after = q;
        learn = up.learn;
        was = at;
        sees = learned_sees (board_of s.index.now) s.passes.items passes p up.learn (all_seen s passes c.args.pass ready up c.requires.pass p at);
        takes = c.take_turn.ensures.turn;
        is = set_there passes c.args.pass q p at;
        others = λ other apart. elsewhere passes c.args.pass other q apart;
      };
      holds = λ other apart. elsewhere s.holds.items c.args.pass other c.take_turn.new.held apart;
      served = λ one.
          let was = (caught_up s passes c.args.pass ready up c.requires.pass c.args.pass p c.index_mut-2.result.now at held).0 in
          let first : c.args.pass ≡ 0 = (let lt = c.requires.pass in omega arith) in
          let at_first = ap (slice_get passes) (sym first) ∙ at in
          let then = ap (λ n. first_state shape (set passes n q)) first ∙ first_then shape passes p q at_first in
          let from = ap (first_state shape) (sym (up.stays (only_place s passes c.args.pass ready up c.requires.pass one))) ∙ first_is shape passes p at_first in
          subst₂ (λ old new. Turns shape old c.args.turn.now c.take_turn.result new) (sym from) (sym then) (c.take_turn.ensures.turn.alone (was.alone one)).1;
    }
