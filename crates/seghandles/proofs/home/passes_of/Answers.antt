use Rattle.std.proofs.Common.{[], ◌∷◌, ◌++◌, map, Some, IsSome, ap, sym, ◌∙◌, append_assoc, arith}
use Rattle.std.specs.Vec.Iter.{into_iter_items}
use Rattle.std.proofs.lemmas.List.{map-append}
use Rattle.std.proofs.lemmas.List.Elements.{All-rest}
use Rattle.seghandles.proofs.home.passes_of.Goals as goal

pub loop-place-preserved-in-Some-place : goal.loop-place-preserved-in-Some-place
loop-place-preserved-in-Some-place c =
    let was = c.loop-place.invariant in
    let steps = c.in-Some.ensures.steps in
    let pushed = c.push_reserved.ensures in
    let pass = c.in-Some-place.pass in
    let before = c.loop-place.passes.items in
    let rest = into_iter_items c.next.new.self in
    record {
      can = tt;
      finite = tt;
      room = omega (arith, steps.1, pushed.len, pushed.capacity);
      some = All-rest IsSome c.in-Some.place _ _ steps.0 was.some;
      all = ap (λ l. map Some l ++ rest) pushed.items ∙ ap (λ l. l ++ rest) (map-append Some before (pass ∷ []))
          ∙ append_assoc (map Some before) (Some pass ∷ []) rest
          ∙ ap (λ place. map Some before ++ place ∷ rest) (sym c.in-Some-place.is)
          ∙ ap (λ l. map Some before ++ l) (sym steps.0) ∙ was.all;
    }
