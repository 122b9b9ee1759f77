use Rattle.std.proofs.Common.{◌+◌, ◌<◌, ℕ, List, Option, drop, length, sym, ap, ◌∙◌, subst, add-one, arith}
use Rattle.std.proofs.lemmas.List.{length-set}
use Rattle.seghandles.specs.declared.kept.Kept.{Kept}
use Rattle.seghandles.specs.Opening.{are_empty, values_of}
use Rattle.seghandles.proofs.Opened.{next_empty, next_used, none_left, still_there}
use Rattle.seghandles.proofs.opening.are_empty.Goals as goal

pub loop-at-preserved : goal.loop-at-preserved
loop-at-preserved c =
    let was = c.loop-at.invariant in
    let handles = c.loop-at.handles in
    let at = c.loop-at.at in
    let default = c.index-handles-at.result in
    let handle = c.is_empty.new.self in
    let still = still_there handles at handle default c.is_empty.ensures.same in
    let below : at < length handles = subst (λ (n : ℕ). at < n) (sym was.long) c.loop-at-test.true in
    let next = next_empty handles at default below (sym c.is_empty.ensures.empty ∙ c.if-not-is_empty.false) in
    record {
      long = length-set handles at handle ∙ was.long;
      same = still ∙ was.same;
      rest = was.rest ∙ next ∙ ap (λ (n : ℕ). are_empty (drop n (values_of handles))) (sym (add-one at))
          ∙ ap (λ (values : List (Option Kept)). are_empty (drop (at + 1) values)) (sym still);
    }

pub returns-then-not-is_empty : goal.returns-then-not-is_empty
returns-then-not-is_empty c =
    let was = c.loop-at.invariant in
    let handles = c.loop-at.handles in
    let at = c.loop-at.at in
    let default = c.index-handles-at.result in
    let below : at < length handles = subst (λ (n : ℕ). at < n) (sym was.long) c.loop-at-test.true in
    record {
      empty = sym (was.rest ∙ next_used handles at default below (sym c.is_empty.ensures.empty ∙ c.if-not-is_empty.true));
      same = still_there handles at c.is_empty.new.self default c.is_empty.ensures.same ∙ was.same;
    }

pub returns : goal.returns
returns c =
    let was = c.loop-at.invariant in
    let long = was.long in
    let above = c.loop-at-test.false in
    let within = c.loop-at.auto.at-end in
    record {
      empty = sym (was.rest ∙ none_left c.loop-at.handles c.loop-at.at (omega (arith, long, above, within)));
      same = was.same;
    }
