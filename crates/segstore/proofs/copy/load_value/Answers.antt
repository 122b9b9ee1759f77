use Rattle.std.proofs.Common.{◌≡◌, ℕ, ◌+◌, ◌-◌, ◌*◌, ◌/◌, ◌%◌, ◌^◌, ◌≤◌, ◌∙◌, ap, sym, subst, arith, ◌++◌, drop, length, take}
use borrow.Rule.Slice.PartMut.{same_len_mid}
use Rattle.std.proofs.lemmas.List.{get_or_append_left, length-append, length-drop, length-take}
use Rattle.std.specs.Int.{div_ceil}
use Rattle.segword.specs.Words.{row_width, span_of_header}
use Rattle.segcore.specs.Words.{Row, row_after}
use Rattle.segbase.specs.Words.{trace}
use Rattle.segstore.proofs.Copying.{are_value, part_loaded}
use Rattle.segstore.proofs.ItemRows.{value_ends}
use Rattle.segstore.proofs.Looks.{reads_then, same_reads}
use Rattle.segstore.proofs.copy.load_value.Goals as goal

-- where the first row has all of it
pub returns-then-head-bytes-clause-value : goal.returns-then-head-bytes-clause-value
returns-then-head-bytes-clause-value c = λ key value is_key is_value holds.
    let at = c.row_at-at.result in let q = c.load_part.new.pass in let row = c.args.row in let e = c.row_at-at.ensures.row in
    let load = c.load_part.ensures in let head = c.min-head.result in let from = c.value_place-from.result in
    let part = c.load_part.new.bytes in let rest = drop head c.args.bytes.now in
    let reads = same_reads c.args.board.now c.args.pass.now q at row.segment row.row e load.reads in
    let least = c.min-head.ensures in let is_whole = c.if-head-bytes.true in
    let long : length part ≡ head = load.len ∙ (let cut = length-take head c.args.bytes.now in omega (arith, cut, least)) in
    let first : row_width * (from / 8) + from % 8 ≡ from = omega arith in
    let joined = length-append part rest in let left = length-drop head c.args.bytes.now in
    let same : row_after (trace q) at.segment at.row ≡ row_after (trace q) row.segment row.row = λ j. row_after (trace q) (e.0 j) (e.1 j) in
    are_value (row_after (trace q) row.segment row.row) key value c.args.header is_key is_value holds
    (c.requires.header ∙ ap (λ (x : Row). x.words 0) (sym reads.same))
    (part ++ rest) (let length = c.requires.length in omega (arith, joined, left, long, length, least))
    (λ k n few inside. get_or_append_left part rest 0 (8 * k + n) (omega (arith, inside, is_whole, long))
    ∙ load.found k n few (let len = load.len in omega (arith, inside, is_whole, long, len))
    ∙ (ap (λ (x : Row). x.words (row_width * (from / 8) + from % 8 + k) / 2 ^ (8 * n) % 256) same
    ∙ ap (λ (m : ℕ). (row_after (trace q) row.segment row.row).words (m + k) / 2 ^ (8 * n) % 256) (first ∙ c.value_place-from.ensures.place)))

-- a whole row
pub load_part-requires-in-loop-number-clause-places : goal.load_part-requires-in-loop-number-clause-places
load_part-requires-in-loop-number-clause-places c =
    let i = c.loop-number.invariant in let e = c.row_at-at.ensures.row in let p = trace c.args.pass.now in let number = c.loop-number.number in
    let from = c.value_place-from.result in let head = c.min-head.result in let start = head + 64 * number in let bytes = c.args.bytes.now in
    let place = c.value_place-from.ensures.place in let least = c.min-head.ensures in let more = c.if-head-bytes.false in let below = c.loop-number-test.true in
    let long = c.requires.length in let fits = c.requires.fits in
    let joined = length-append c.load_part.new.bytes (drop head bytes) in let left = length-drop head bytes in let len = c.load_part.ensures.len in let cut = length-take head bytes in
    let ends = value_ends c.args.header (div_ceil (length bytes) 8) (omega (arith, long, fits)) (omega (arith, long)) in
    let part = length-take (start + 64 - start) (drop start c.loop-number.bytes) in
    subst (λ w. 8 * (row_width * (from / 8 + 1 + number) + 0) + length (take (start + 64 - start) (drop start c.loop-number.bytes)) ≤ 8 * (row_width * span_of_header w))
    (c.requires.header ∙ (λ t. (row_after p (sym e.0 t) (sym e.1 t)).words 0) ∙ ap (λ (row : Row). row.words 0) (sym i.reads.same))
    (omega (arith, place, least, more, below, joined, left, len, cut, ends, part))

pub loop-number-preserved : goal.loop-number-preserved
loop-number-preserved c =
    let i = c.loop-number.invariant in let load = c.load_part-in-loop-number.ensures in let q = c.load_part-in-loop-number.new.pass in let new = c.load_part-in-loop-number.new.bytes in
    let at = c.row_at-at.result in let number = c.loop-number.number in let bytes = c.loop-number.bytes in let old = c.args.bytes.now in
    let from = c.value_place-from.result in let head = c.min-head.result in let start = head + 64 * number in let behind = 8 - from % 8 + 8 * number in
    let least = c.min-head.ensures in let more = c.if-head-bytes.false in let below = c.loop-number-test.true in let long = i.long in
    let joined = length-append c.load_part.new.bytes (drop head old) in let left = length-drop head old in let len = c.load_part.ensures.len in let cut = length-take head old in
    let inside : start + (start + 64 - start) ≤ length bytes = omega (arith, least, more, below, joined, left, len, cut, long) in
    let part = length-take (start + 64 - start) (drop start bytes) in let behind_it = length-drop start bytes in
    let whole : length (take (start + 64 - start) (drop start bytes)) ≡ start + 64 - start = omega (arith, part, behind_it, inside) in
    let same : length new ≡ start + 64 - start = load.len ∙ whole in
    let head_is : start ≡ 8 * behind = omega (arith, least, more, joined, left, len, cut) in
    let place : row_width * (from / 8 + 1 + number) + 0 ≡ from + behind = omega arith in
    let words = (row_after (trace q) at.segment at.row).words in
    record {
      long = same_len_mid start (start + 64 - start) bytes new load.len ∙ long;
      reads = reads_then c.args.board.now _ _ _ at.segment at.row i.reads load.reads;
      steps = (let before = i.steps in let steps = load.steps in omega (arith, before, steps, whole));
      found = λ k n few lt. part_loaded words from start behind (start + 64 - start) bytes new head_is same inside
          (λ m n few lt. i.found m n few lt ∙ ap (λ (u : Row). u.words (from + m) / 2 ^ (8 * n) % 256) (sym load.reads.same))
          (λ m n few lt. load.found m n few (omega (arith, lt, whole)) ∙ ap (λ (w : ℕ). words (w + m) / 2 ^ (8 * n) % 256) place)
          k n few (omega (arith, lt));
    }

-- what the last row has
pub load_part-requires-2-clause-places : goal.load_part-requires-2-clause-places
load_part-requires-2-clause-places c =
    let i = c.loop-number.invariant in let e = c.row_at-at.ensures.row in let p = trace c.args.pass.now in let bytes = c.loop-number.bytes in let old = c.args.bytes.now in
    let from = c.value_place-from.result in let head = c.min-head.result in
    let rows = (length (c.load_part.new.bytes ++ drop head old) - head) / 64 in let start = head + 64 * rows in
    let place = c.value_place-from.ensures.place in let least = c.min-head.ensures in let more = c.if-head-bytes.false in
    let length_is = c.requires.length in let fits = c.requires.fits in let long = i.long in
    let joined = length-append c.load_part.new.bytes (drop head old) in let left = length-drop head old in let len = c.load_part.ensures.len in let cut = length-take head old in
    let ends = value_ends c.args.header (div_ceil (length old) 8) (omega (arith, length_is, fits)) (omega (arith, length_is)) in
    let part = length-take (length bytes - start) (drop start bytes) in
    subst (λ w. 8 * (row_width * (from / 8 + 1 + rows) + 0) + length (take (length bytes - start) (drop start bytes)) ≤ 8 * (row_width * span_of_header w))
    (c.requires.header ∙ (λ t. (row_after p (sym e.0 t) (sym e.1 t)).words 0) ∙ ap (λ (row : Row). row.words 0) (sym i.reads.same))
    (omega (arith, place, least, more, joined, left, len, cut, long, ends, part))

pub returns-clause-reads : goal.returns-clause-reads
returns-clause-reads c = let at = c.row_at-at.result in let row = c.args.row in let b = c.args.board.now in
    same_reads b c.args.pass.now c.load_part-2.new.pass at row.segment row.row c.row_at-at.ensures.row
    (reads_then b _ _ _ at.segment at.row c.loop-number.invariant.reads c.load_part-2.ensures.reads)

pub returns-clause-value : goal.returns-clause-value
returns-clause-value c = λ key value is_key is_value holds.
    let i = c.loop-number.invariant in let load = c.load_part-2.ensures in let q = c.load_part-2.new.pass in let new = c.load_part-2.new.bytes in
    let b = c.args.board.now in let at = c.row_at-at.result in let row = c.args.row in let e = c.row_at-at.ensures.row in
    let bytes = c.loop-number.bytes in let old = c.args.bytes.now in
    let from = c.value_place-from.result in let head = c.min-head.result in
    let rows = (length (c.load_part.new.bytes ++ drop head old) - head) / 64 in let start = head + 64 * rows in let count = length bytes - start in let behind = 8 - from % 8 + 8 * rows in
    let least = c.min-head.ensures in let more = c.if-head-bytes.false in let long = i.long in let end = c.loop-number-test.false in
    let joined = length-append c.load_part.new.bytes (drop head old) in let left = length-drop head old in let len = c.load_part.ensures.len in let cut = length-take head old in
    let inside : start + count ≤ length bytes = omega (arith, least, more, joined, left, len, cut, long) in
    let part = length-take count (drop start bytes) in let behind_it = length-drop start bytes in
    let whole : length (take count (drop start bytes)) ≡ count = omega (arith, part, behind_it) in
    let same : length new ≡ count = load.len ∙ whole in
    let head_is : start ≡ 8 * behind = omega (arith, least, more, joined, left, len, cut) in
    let place : row_width * (from / 8 + 1 + rows) + 0 ≡ from + behind = omega arith in
    let words = (row_after (trace q) at.segment at.row).words in
    let reads = same_reads b c.args.pass.now q at row.segment row.row e (reads_then b _ _ _ at.segment at.row i.reads load.reads) in
    let here : row_after (trace q) at.segment at.row ≡ row_after (trace q) row.segment row.row = λ j. row_after (trace q) (e.0 j) (e.1 j) in
    let put = same_len_mid start count bytes new load.len in
    are_value (row_after (trace q) row.segment row.row) key value c.args.header is_key is_value holds
    (c.requires.header ∙ ap (λ (x : Row). x.words 0) (sym reads.same))
    _ (put ∙ long ∙ c.requires.length)
    (λ k n few lt. part_loaded words from start behind count bytes new head_is same inside
    (λ m n few lt. i.found m n few (omega (arith, lt, end)) ∙ ap (λ (u : Row). u.words (from + m) / 2 ^ (8 * n) % 256) (sym load.reads.same))
    (λ m n few lt. load.found m n few (omega (arith, lt, whole)) ∙ ap (λ (w : ℕ). words (w + m) / 2 ^ (8 * n) % 256) place)
    k n few (omega (arith, lt, put, inside))
    ∙ (ap (λ (x : Row). x.words (from + k) / 2 ^ (8 * n) % 256) here
    ∙ ap (λ (m : ℕ). (row_after (trace q) row.segment row.row).words (m + k) / 2 ^ (8 * n) % 256) c.value_place-from.ensures.place))
