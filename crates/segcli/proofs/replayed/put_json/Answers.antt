use Rattle.std.proofs.Common.{◌++◌, ◌∙◌, List, ℕ, ap, codes, drop, get_or, length, sym}
use Rattle.std.specs.List.{flat_map}
use Rattle.std.proofs.lemmas.Bool.{eqb-false, eqb-true}
use Rattle.std.proofs.lemmas.List.{take_rest}
use Rattle.segcli.specs.Replayed.{cache_object, next_object}
use Rattle.segcli.proofs.ReplayText.{json_more, json_none, json_one, no_totals}
use Rattle.segcli.proofs.TotalsText.{put_bytes, if_ok}
use Rattle.segcli.proofs.replayed.put_json.Goals as goal

pub returns-then-is_empty : goal.returns-then-is_empty
returns-then-is_empty c =
    let none = eqb-true _ 0 (sym c.is_empty.ensures ∙ c.if-is_empty.true) in
    record { text = if_ok c.put.result (λ _ more. more ∙ ap (λ j. c.args.text.now.items ++ j) (sym (json_none c.args.totals.now none))) c.put.ensures.text }

pub returns-then-totals-eq1 : goal.returns-then-totals-eq1
returns-then-totals-eq1 c = record {
  text = if_ok c.put_object.result (λ _ more. more ∙ ap (λ j. c.args.text.now.items ++ j) (sym (json_one c.args.totals.now no_totals c.if-totals-eq1.true))) c.put_object.ensures.text;
}

pub returns : goal.returns
returns c =
    let totals = c.args.totals.now in
    let old : List ℕ = c.args.text.now.items in
    let first = cache_object (get_or totals 0 no_totals) in
    let rest = flat_map next_object (drop 1 totals) in
    let one = put_bytes old (codes "{\"caches\":[") first c.in_ok-put.ensures.text c.in_ok-put_object.ensures.text in
    let next = c.in_ok-put_next_objects.ensures.text ∙ ap (λ l. c.put_object-2.new.text.items ++ flat_map next_object l) (take_rest totals 1) in
    let two = put_bytes old _ rest one next in
    let whole = json_more totals no_totals (λ none. eqb-false (length totals) 0 (sym c.is_empty.ensures ∙ c.if-is_empty.false) none) c.if-totals-eq1.false in
    record { text = if_ok c.put-3.result (λ _ more. put_bytes old _ (codes "]}") two more ∙ ap (λ j. old ++ j) (sym whole)) c.put-3.ensures.text }
