use Rattle.std.proofs.Common.{◌≡◌, ◌++◌, ◌∙◌, ap, sym, drop, length, arith, refl, Err, Ok}
use Rattle.segcore.specs.Words.{Row, row_after}
use Rattle.segbase.specs.Words.{trace}
use Rattle.segstore.proofs.Copying.{value_long}
use Rattle.segstore.proofs.Looks.{reads_nothing}
use Rattle.segstore.proofs.copy.value_into.Goals as goal

pub returns-then-bytes-length-clause-reads : goal.returns-then-bytes-length-clause-reads
returns-then-bytes-length-clause-reads c =
    reads_nothing c.args.board.now c.args.pass.now c.args.row.segment c.args.row.row c.requires.pass c.requires.readable

pub returns-then-bytes-length-clause-copies : goal.returns-then-bytes-length-clause-copies
returns-then-bytes-length-clause-copies c = λ key value is_key is_value holds.
    let row = row_after (trace c.args.pass.now) c.args.row.segment c.args.row.row in
    let same : c.value_length-length.result ≡ length value =
    c.value_length-length.ensures ∙ value_long row key value c.args.header is_key is_value holds c.requires.header in
    let few = c.if-bytes-length.true in record {
      fits = λ fits. absurd (omega (arith, same, few, fits));
      short = λ _. (ap Err same, refl);
    }

pub returns-clause-copies : goal.returns-clause-copies
returns-clause-copies c = λ key value is_key is_value holds.
    let load = c.load_value.ensures in let row = c.args.row in
    let long = value_long (row_after (trace c.load_value.new.pass) row.segment row.row) key value c.args.header is_key is_value holds
    (c.requires.header ∙ ap (λ (x : Row). x.words 0) (sym load.reads.same)) in
    let same : c.value_length-length.result ≡ length value = c.value_length-length.ensures ∙ long in
    let whole = c.if-bytes-length.false in record {
      fits = λ fits. (ap Ok same, λ i. load.value key value is_key is_value holds i ++ drop (same i) c.args.bytes.now);
      short = λ short. absurd (short (omega (arith, same, whole)));
    }
