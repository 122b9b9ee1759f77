use Rattle.std.proofs.Common.{◌≡◌, ◌+◌, ◌*◌, ◌≤◌, get_or, set, replicate, sym, ap, ◌∙◌, ⊎_elim, subst, arith, get_or-set_other}
use Rattle.std.proofs.lemmas.Bool.{cases_eq, cases_lt}
use Rattle.std.proofs.lemmas.List.{get_or-replicate}
use Rattle.std.specs.Prelude.{slice_index}
use Rattle.segword.specs.Words.{item_width, row_width, span_of_header}
use Rattle.segcore.specs.Words.{Row, row_after}
use Rattle.segcore.proofs.Spans.{header_some}
use Rattle.segbase.specs.Words.{trace}
use Rattle.segstore.proofs.ItemRows.{past_item}
use Rattle.segstore.proofs.Looks.{reads_then, same_readable, same_reads}
use Rattle.segstore.proofs.row.load_item.Goals as goal

pub load_place-header-requires-clause-readable : goal.load_place-header-requires-clause-readable
load_place-header-requires-clause-readable c =
    same_readable c.args.board.now c.args.pass.now c.row_at-at.result c.args.segment c.args.row c.row_at-at.ensures.row c.requires.readable

pub load_place-header-requires-clause-place : goal.load_place-header-requires-clause-place
load_place-header-requires-clause-place c = let at = c.row_at-at.result in
    let some = header_some ((row_after (trace c.args.pass.now) at.segment at.row).words 0) in omega (arith, some)

-- as many rows as the item has, or as many as the longest has
pub load_places-requires : goal.load_places-requires
load_places-requires c = let load = c.load_place-header in
    let few = c.min-rows.ensures in let rows = c.span_of_header.ensures.rows in let some = c.span_of_header.ensures.some in
    let places = subst (λ w. 0 + row_width * c.min-rows.result ≤ row_width * span_of_header w) load.ensures.word (omega (arith, few, rows)) in (
      omega arith,
      (load.ensures.reads.looked.did.moved.pass, (c.row_at-at.ensures.start, (load.ensures.reads.readable, (omega (arith, few, some), (omega (arith, few), (places, omega (arith, few))))))),
    )

pub returns-clause-reads : goal.returns-clause-reads
returns-clause-reads c = let at = c.row_at-at.result in let b = c.args.board.now in
    same_reads b c.args.pass.now c.load_places.new.pass at c.args.segment c.args.row c.row_at-at.ensures.row
    (reads_then b _ _ _ at.segment at.row c.load_place-header.ensures.reads c.load_places.ensures.reads)

pub returns-clause-words : goal.returns-clause-words
returns-clause-words c = λ place lt.
    let at = c.row_at-at.result in let e = c.row_at-at.ensures.row in let q = trace c.load_places.new.pass in
    let first = c.load_place-header in let load = c.load_places.ensures in let words = c.load_places.new.words in
    let few = c.min-rows.ensures in let rows = c.span_of_header.ensures.rows in
    let begun : first.result ≡ (row_after q at.segment at.row).words 0 = first.ensures.word ∙ ap (λ (x : Row). x.words 0) (sym load.reads.same) in
    let zero : 1 ≤ place → get_or (set (replicate item_width 0) 0 first.result) place 0 ≡ 0 = λ low.
    get_or-set_other (replicate item_width 0) 0 place first.result 0 (λ n. omega (arith, low, n)) ∙ get_or-replicate item_width place 0 0 lt in
    let here : slice_index words place ≡ (row_after q at.segment at.row).words place = ⊎_elim
    (λ same. ap (slice_index words) same ∙ load.before 0 (omega arith) ∙ begun ∙ ap (row_after q at.segment at.row).words (sym same))
    (λ other. ⊎_elim
    (λ inside. load.loaded place (omega (arith, other)) inside ∙ ap (row_after q at.segment at.row).words (let n : 0 + place ≡ place = omega arith in n))
    (λ past. load.behind place past ∙ zero (omega (arith, other))
    ∙ sym (past_item q at.segment at.row place (subst (λ w. row_width * span_of_header w ≤ place) begun (omega (arith, past, lt, few, rows)))))
    (cases_lt place (row_width * c.min-rows.result)))
    (cases_eq place 0) in
    here ∙ (λ t. (row_after q (e.0 t) (e.1 t)).words place)
