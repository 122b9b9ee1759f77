use Rattle.std.proofs.Common.{rules, ◌≡◌, [], ◌∷◌, ◌++◌, map, sym, ap, ◌∙◌, subst, append_assoc, vec_len, arith}
use Rattle.std.specs.Int.{IsInRange}
use Rattle.std.specs.List.{AllZip}
use Rattle.std.specs.Vec.Iter.{into_iter_items}
use Rattle.std.proofs.lemmas.List.{map-append}
use Rattle.std.proofs.lemmas.List.Elements.{All-rest}
use Rattle.segclient.proofs.Places.{zip_push}
use Rattle.seghandles.specs.declared.kept.Kept.TheVariants as kept
use Rattle.seghandles.specs.Making.{IsClientOf}
use Rattle.seghandles.specs.Opening.{in_box}
use Rattle.seghandles.proofs.Dealt.{is_client_of}
use Rattle.seghandles.proofs.making.box_clients.Goals as goal

pub loop-row-preserved : goal.loop-row-preserved
loop-row-preserved c =
    let was = c.loop-row.invariant in
    let steps = c.in-Some.ensures.steps in
    let pushed = c.push_reserved.ensures in
    let row = c.in-Some.row in
    let yielded = c.loop-row.yielded in
    let before = c.loop-row.clients.items in
    let rest = into_iter_items c.next.new.self in
    let boxed = c.in-Ok.boxed in
    let room = was.room in
    let made = c.new-client.ensures in
    let is : boxed.value ≡ kept.Client c.new-client.result = search rules in
    let one : IsClientOf row boxed.value = is_client_of row boxed.value c.new-client.result is (record { guests = made.guests; holds = made.holds; wants = made.wants }) in
    let pushes : map in_box c.push_reserved.new.self.items ≡ map in_box before ++ boxed.value ∷ [] = ap (map in_box) pushed.items ∙ map-append in_box before (boxed ∷ []) in
    record {
      can = tt;
      finite = tt;
      room = omega (arith, steps.1, pushed.len, pushed.capacity, room);
      some = All-rest (λ r. IsInRange 1 16384 (vec_len r)) row _ _ steps.0 was.some;
      all = was.all ∙ ap (λ l. yielded ++ l) steps.0 ∙ sym (append_assoc yielded (row ∷ []) rest);
      made = subst (AllZip IsClientOf (yielded ++ row ∷ [])) (sym pushes) (zip_push IsClientOf yielded (map in_box before) row boxed.value was.made one);
    }
