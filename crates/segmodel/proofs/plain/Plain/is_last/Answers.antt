use Rattle.std.proofs.Common.{rules, ◌≡◌, ◌+◌, ◌-◌, ◌<◌, true, false, [], drop, length, take, List, ℕ, refl, sym, ap, ◌∙◌, arith, length-drop}
use Rattle.std.proofs.lemmas.List.{get_or_default, take_all}
use Rattle.segmodel.specs.Plain.{state_of}
use Rattle.segmodel.specs.Segments.{filling_of}
use Rattle.segmodel.specs.State.{is_among}
use Rattle.segmodel.proofs.Keeping.{last_from}
use Rattle.segmodel.proofs.SegmentLemmas.{there}
use Rattle.segmodel.proofs.plain.Plain.is_last.Goals as goal

pub returns-then-stands_in : goal.returns-then-stands_in
returns-then-stands_in c =
    let found = c.index.result.now in
    let was = there c.args.self.now.segments.items c.args.segment found (search rules) c.index.ensures in
    let within : c.args.row < length found.keys.items = rw (ap (λ o. (filling_of o).keys) was) at c.requires.used in
    let rest : take (length c.deref.result.now - (c.args.row + 1)) (drop (c.args.row + 1) c.deref.result.now) ≡ drop (c.args.row + 1) found.keys.items =
    take_all _ _ (omega (arith, length-drop {A = List ℕ})) ∙ ap (drop (c.args.row + 1)) c.deref.ensures.value in
    let one : c.index-then-stands_in.result.now ≡ c.index-2.result.now =
    c.index-then-stands_in.ensures ∙ (get_or_default found.keys.items c.args.row c.index-then-stands_in.result.now c.index-2.result.now within ∙ sym c.index-2.ensures) in
    sym (last_from (state_of c.args.self.now) c.args.segment c.args.row found.keys.items c.index-2.result.now true c.is_among.result
    (ap (λ o. (filling_of o).keys) was) (get_or_default found.keys.items c.args.row [] c.index-2.result.now within ∙ sym c.index-2.ensures)
    (sym c.stands_in.ensures ∙ c.if-stands_in.true) ((λ i. is_among (sym rest i) (sym one i)) ∙ sym c.is_among.ensures))

pub returns-else-stands_in : goal.returns-else-stands_in
returns-else-stands_in c =
    let found = c.index.result.now in
    let was = there c.args.self.now.segments.items c.args.segment found (search rules) c.index.ensures in
    let within : c.args.row < length found.keys.items = rw (ap (λ o. (filling_of o).keys) was) at c.requires.used in
    c.if-stands_in.false ∙ sym (last_from (state_of c.args.self.now) c.args.segment c.args.row found.keys.items
    c.index-2.result.now false (is_among (drop (c.args.row + 1) found.keys.items) c.index-2.result.now)
    (ap (λ o. (filling_of o).keys) was) (get_or_default found.keys.items c.args.row [] c.index-2.result.now within ∙ sym c.index-2.ensures)
    (sym c.stands_in.ensures ∙ c.if-stands_in.false) refl)
