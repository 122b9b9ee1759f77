use Rattle.std.proofs.Common.{◌≡◌, ℕ, ◌+◌, List, refl, sym, ap, ◌∙◌, subst, arith}
use Rattle.segword.specs.Words.{IsKey, IsValue, row_of}
use Rattle.segmodel.specs.Words.{bucket_of, key_of, Request, tag_of, value_of}
use Rattle.segcore.specs.Words.{AreOwnRows, Holds, row_after}
use Rattle.segcore.proofs.Exact.{tagged}
use Rattle.segcore.proofs.Limits.{low_row, low_segment}
use Rattle.segcore.proofs.Spans.{own_first}
use Rattle.segbase.specs.Words.{AddsEvents, Board, number, Pass, trace}
use Rattle.segstore.specs.Words.{fills, KeepsSegments, TakesAtMost}
use Rattle.segwrite.specs.Steps.{most_steps_of_row, most_tries_to_exchange}
use Rattle.segwrite.specs.Storing.{HasWritten, StoresUnderBit}
use Rattle.segwrite.specs.Spans.{rows_of}
use Rattle.segwrite.specs.Writes.{UsesRows}
use Rattle.segwrite.proofs.Filling.{fills_nowhere}
use Rattle.segstore.proofs.Keeping.{next_are_own}
use Rattle.segwrite.proofs.Storing.{rows_asked, rows_end, some_rows}
use Rattle.segwrite.proofs.Storing.{target_later, clean_later, reply_later, may_store, has_written, stores_all, keeps_all, used_all, uses_all}
use Rattle.segwrite.proofs.writing.store.Goals as goal

pub fill_row-requires-clause-own : goal.fill_row-requires-clause-own
fill_row-requires-clause-own g c = let b = c.args.board.now in let r = c.requires in let p = c.args.pass.now in
    subst (AreOwnRows b.shape (trace p) (number p) c.args.row.segment c.args.row.row) (rows_asked b g.request _ _ p r.1.1.1.0)
    (next_are_own b p c.args.row.segment c.args.row.row (rows_of g.request) r.0 r.1.0 r.1.1.0.used r.1.1.0.fits)

pub invariant_of-item : goal.invariant_of-item
invariant_of-item g c = let b = c.args.board.now in let r = c.requires in
    let own = own_first b.shape (trace c.args.pass.now) (number c.args.pass.now) c.args.row.segment c.args.row.row (rows_of g.request) (some_rows g.request)
    (next_are_own b c.args.pass.now c.args.row.segment c.args.row.row (rows_of g.request) r.0 r.1.0 r.1.1.0.used r.1.1.0.fits) in
    let tag = tagged c.args.write.now.sought.key in let is = r.1.1.1.1.1.0 in record {
      tag_above_zero = omega (arith, tag.0, is);
      tag_in_range = omega (arith, tag.1, is);
      freq_in_range = omega arith;
      seg_in_range = low_segment b.shape c.args.row.segment r.0.valid own.0;
      row_in_range = low_row b.shape c.args.row.row r.0.valid own.1;
    }

-- what was written is the request's pair
pair_of : (b : Board) (request : Request) (key value places : List ℕ) (segment row : ℕ) (p q : Pass) → key_of request ≡ key → value_of request ≡ value
    → AddsEvents b (fills (number p) segment row (row_of key value) places) p q → Holds (row_after (trace q) segment row) key value → IsKey key → IsValue value
    → AddsEvents b (fills (number p) segment row (row_of (key_of request) (value_of request)) places) p q
    × Holds (row_after (trace q) segment row) (key_of request) (value_of request) × IsKey (key_of request)
    × IsValue (value_of request)
pair_of b request key value places segment row p q k v m holds is_key is_value =
    subst (λ x. AddsEvents b (fills (number p) segment row (row_of x (value_of request)) places) p q
    × Holds (row_after (trace q) segment row) x (value_of request) × IsKey x
    × IsValue (value_of request)) (sym k)
    (subst (λ y. AddsEvents b (fills (number p) segment row (row_of key y) places) p q × Holds (row_after (trace q) segment row) key y × IsKey key × IsValue y) (sym v) (m, holds, is_key, is_value))

pub link-requires : goal.link-requires
link-requires g c = let b = c.args.board.now in let r = c.requires in let w = c.fill_row.ensures in
    let s = c.args.row.segment in let row = c.args.row.row in
    let asks = r.1.1.1.0 in let clean = r.1.1.1.1.1.1.0 in let found = r.1.1.1.1.1.1.1.0 in
    let pair = pair_of b g.request c.args.write.now.sought.key c.args.write.now.value.now w.moved.0 s row _ _ asks.of.0 asks.of.1 w.moved.1 w.holds r.1.1.1.1.0 w.valid in
    let own = fills (number c.args.pass.now) s row (row_of (key_of g.request) (value_of g.request)) w.moved.0 in
    let none = fills_nowhere b.shape (bucket_of b.shape (key_of g.request)) (number c.args.pass.now) s row (row_of (key_of g.request) (value_of g.request)) w.moved.0 in
    let target = target_later b own _ _ (key_of g.request) pair.0 r.0 clean.bit none c.args.target found in
    let clean_now = clean_later b own _ _ (key_of g.request) pair.0 r.0 clean.bit none clean in
    let stored = reply_later b own _ _ (key_of g.request) pair.0 r.0 clean.bit none g.request refl asks.stored in
    let rows = subst (AreOwnRows b.shape (trace c.fill_row.new.pass) (number c.fill_row.new.pass) s row) (sym (rows_asked b g.request _ _ c.args.pass.now asks)) w.own in
    (pair.0.pass, ((r.1.1.1.1.1.0 ∙ ap tag_of (sym asks.of.0), refl), (target, (may_store b g.request c.args.target s row _ clean_now target stored rows pair.1 pair.2 pair.3, r.1.1.1.1.1.1.1.1))))

pub use_rows-requires-clause-fits : goal.use_rows-requires-clause-fits
use_rows-requires-clause-fits g c = let b = c.args.board.now in let r = c.requires in
    rows_end b.shape g.request c.args.row.row c.span.result r.0.valid r.1.1.0.fits
    (c.span.ensures.rows ∙ sym (rows_asked b g.request _ _ c.args.pass.now r.1.1.1.0))

pub returns-clause-stores : goal.returns-clause-stores
returns-clause-stores g c = let b = c.args.board.now in let r = c.requires in let w = c.fill_row.ensures in
    let counts = used_all g.request c.args.row.segment c.args.row.row c.span.result _ _ c.link.new.pass _
    c.use_rows.ensures c.span.ensures.rows r.1.1.1.0.of.0 r.1.1.1.0.of.1 in
    let asks = r.1.1.1.0 in let clean = r.1.1.1.1.1.1.0 in
    let pair = pair_of b g.request c.args.write.now.sought.key c.args.write.now.value.now w.moved.0 c.args.row.segment c.args.row.row _ _ asks.of.0 asks.of.1 w.moved.1 w.holds r.1.1.1.1.0 w.valid in
    let own = fills (number c.args.pass.now) c.args.row.segment c.args.row.row (row_of (key_of g.request) (value_of g.request)) w.moved.0 in
    let none = fills_nowhere b.shape (bucket_of b.shape (key_of g.request)) (number c.args.pass.now) c.args.row.segment c.args.row.row (row_of (key_of g.request) (value_of g.request)) w.moved.0 in
    subst (StoresUnderBit b g.request c.args.row.segment c.args.row.row c.args.pass.now) counts
    (stores_all b g.request c.args.target c.args.row.segment c.args.row.row _ _ _ r.1.1.0 w.moved.0 pair.0 c.link.ensures.did
    (clean_later b own _ _ (key_of g.request) pair.0 r.0 clean.bit none clean) (target_later b own _ _ (key_of g.request) pair.0 r.0 clean.bit none c.args.target r.1.1.1.1.1.1.1.0))

pub returns-clause-segments : goal.returns-clause-segments
returns-clause-segments g c = let b = c.args.board.now in let r = c.requires in let w = c.fill_row.ensures in
    let counts = used_all g.request c.args.row.segment c.args.row.row c.span.result _ _ c.link.new.pass _
    c.use_rows.ensures c.span.ensures.rows r.1.1.1.0.of.0 r.1.1.1.0.of.1 in
    let asks = r.1.1.1.0 in
    let pair = pair_of b g.request c.args.write.now.sought.key c.args.write.now.value.now w.moved.0 c.args.row.segment c.args.row.row _ _ asks.of.0 asks.of.1 w.moved.1 w.holds r.1.1.1.1.0 w.valid in
    subst (KeepsSegments b) counts
    (keeps_all b g.request c.args.target c.args.row.segment c.args.row.row _ _ _ r.1.1.0 w.moved.0 pair.0 c.link.ensures.did
    w.plain c.link.ensures.same.0 pair.1 pair.2 pair.3 r.1.0)

pub returns-clause-uses : goal.returns-clause-uses
returns-clause-uses g c = let b = c.args.board.now in let r = c.requires in let w = c.fill_row.ensures in
    let counts = used_all g.request c.args.row.segment c.args.row.row c.span.result _ _ c.link.new.pass _
    c.use_rows.ensures c.span.ensures.rows r.1.1.1.0.of.0 r.1.1.1.0.of.1 in
    let asks = r.1.1.1.0 in
    let pair = pair_of b g.request c.args.write.now.sought.key c.args.write.now.value.now w.moved.0 c.args.row.segment c.args.row.row _ _ asks.of.0 asks.of.1 w.moved.1 w.holds r.1.1.1.1.0 w.valid in
    subst (UsesRows c.args.row.segment (rows_of g.request) c.args.pass.now) counts
    (uses_all b g.request c.args.target c.args.row.segment c.args.row.row _ _ _ r.1.1.0 w.moved.0 pair.0 c.link.ensures.did w.plain c.link.ensures.same.0 w.memo c.link.ensures.same.1)

pub returns-clause-bit : goal.returns-clause-bit
returns-clause-bit g c = let b = c.args.board.now in let r = c.requires in let w = c.fill_row.ensures in
    let counts = used_all g.request c.args.row.segment c.args.row.row c.span.result _ _ c.link.new.pass _
    c.use_rows.ensures c.span.ensures.rows r.1.1.1.0.of.0 r.1.1.1.0.of.1 in
    let asks = r.1.1.1.0 in let clean = r.1.1.1.1.1.1.0 in
    let pair = pair_of b g.request c.args.write.now.sought.key c.args.write.now.value.now w.moved.0 c.args.row.segment c.args.row.row _ _ asks.of.0 asks.of.1 w.moved.1 w.holds r.1.1.1.1.0 w.valid in
    let own = fills (number c.args.pass.now) c.args.row.segment c.args.row.row (row_of (key_of g.request) (value_of g.request)) w.moved.0 in
    let none = fills_nowhere b.shape (bucket_of b.shape (key_of g.request)) (number c.args.pass.now) c.args.row.segment c.args.row.row (row_of (key_of g.request) (value_of g.request)) w.moved.0 in
    subst (λ s. HasWritten b s (bucket_of b.shape (key_of g.request))) counts
    (has_written b g.request c.args.target c.args.row.segment c.args.row.row _ _ c.link.ensures.did (clean_later b own _ _ (key_of g.request) pair.0 r.0 clean.bit none clean) _)

pub returns-clause-steps : goal.returns-clause-steps
returns-clause-steps g c =
    let fills = c.fill_row.ensures.steps in let links = c.link.ensures.steps in let counts = sym c.use_rows.ensures in
    subst (TakesAtMost (most_steps_of_row + most_tries_to_exchange) c.args.pass.now) counts (omega (arith, fills, links))
