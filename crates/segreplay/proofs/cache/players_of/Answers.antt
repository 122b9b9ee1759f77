use Rattle.std.proofs.Common.{◌++◌, ◌∙◌, [], All, ap, append_assoc, append-nil, drop, refl, subst, sym}
use Rattle.std.specs.List.{AllZip}
use Rattle.std.proofs.lemmas.List.{nil_from_length}
use Rattle.segindex.specs.Words.{board_of}
use Rattle.segstore.specs.Words.{IsQuiet}
use Rattle.segreplay.specs.Caches.{AreFresh, ArePlayersOf, caches_in, IsDealt}
use Rattle.segreplay.proofs.Lists.{at_place}
use Rattle.segreplay.proofs.cache.players_of.Goals as goal

pub add_players-requires : goal.add_players-requires
add_players-requires c =
    let zip = subst (AllZip IsDealt (drop c.loop-each.place c.args.indexes.now)) c.in-Some.ensures.steps.0 c.loop-each.invariant.new in
    let at = at_place IsDealt c.args.indexes.now c.loop-each.place c.index-indexes-place.result _ _ zip in
    record { quiet = subst (λ index. All (IsQuiet (board_of index)) c.in-Some.each.passes.items) (sym c.index-indexes-place.is) at.0.quiet }

pub loop-each-preserved : goal.loop-each-preserved
loop-each-preserved c =
    let was = c.loop-each.invariant in
    let steps = c.in-Some.ensures.steps in
    let each = c.in-Some.each in
    let index = c.index-indexes-place.result in
    let place = c.loop-each.place in
    let zip = subst (AllZip IsDealt (drop place c.args.indexes.now)) steps.0 was.new in
    let at = at_place IsDealt c.args.indexes.now place index _ _ zip in
    let more = c.in_ok-add_players.ensures in
    let these : ArePlayersOf place c.args.value.now each.cache more.0 =
    (index, each.passes.items, subst (λ i. IsDealt i each) (sym c.index-indexes-place.is) at.0, more.2) in
    record {
      can = tt;
      finite = tt;
      new = at.1;
      fresh = λ rest after.
          subst (AreFresh 0 c.args.value.now (caches_in c.args.dealt.items))
          (sym (append_assoc c.loop-each.players.items more.0 rest) ∙ ap (λ l. l ++ rest) (sym more.1))
          (was.fresh (more.0 ++ rest) (subst (λ l. AreFresh place c.args.value.now (caches_in l) (more.0 ++ rest)) (sym steps.0) (more.0, rest, these, after, refl)));
    }

pub returns : goal.returns
returns c =
    let was = c.loop-each.invariant in
    let rest = c.loop-each.each-iterator.rest in
    let none = nil_from_length rest.items (sym rest.ok.0 ∙ c.in-None.ensures.steps.0) in
    let all = was.fresh [] (subst (λ l. AreFresh c.loop-each.place c.args.value.now (caches_in l) []) (sym none) refl) in
    subst (AreFresh 0 c.args.value.now (caches_in c.args.dealt.items)) (append-nil c.loop-each.players.items) all
