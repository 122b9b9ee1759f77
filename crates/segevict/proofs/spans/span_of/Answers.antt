use Rattle.std.proofs.Common.{refl, arith}
use Rattle.segcore.proofs.Spans.{header_some}
use Rattle.segcore.specs.Words.{row_after}
use Rattle.segbase.specs.Words.{trace}
use Rattle.segstore.proofs.Refills.{idles}
use Rattle.segevict.proofs.spans.span_of.Goals as goal

-- of a row that isn't used
pub returns-then-not-has_row : goal.returns-then-not-has_row
returns-then-not-has_row c = record {
  spans = (
    idles c.args.board.now c.args.pass.now c.requires.quiet.pass,
    omega arith,
    λ has. absurd (c.if-not-has_row.ensures.no refl has),
    omega arith,
    λ none. (refl, refl),
  );
}

-- and of one that is
pub returns : goal.returns
returns c =
    let r = c.rows_from in
    let some = header_some ((row_after (trace r.new.pass) c.args.segment c.args.row).words 0) in
    let rows = r.ensures.rows in
    record {
      spans = (
        r.ensures.idles,
        omega (arith, rows, some),
        λ has. rows,
        (let steps = r.ensures.steps in omega (arith, steps)),
        λ none. absurd (none (c.if-not-has_row.ensures.yes refl)),
      );
    }
