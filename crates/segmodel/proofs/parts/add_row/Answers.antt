use Rattle.std.proofs.Common.{◌≡◌, ℕ, ◌+◌, ◌-◌, refl, subst, sym, ap, ◌∙◌, arith}
use Rattle.segword.specs.Words.{span_of}
use Rattle.segmodel.specs.Cache.{with_at}
use Rattle.segmodel.specs.Segments.{fillings, HasRows}
use Rattle.segmodel.specs.Serving.{with_key}
use Rattle.segmodel.proofs.Spans.{many, none_more, one_more, row_of, rows_are, set_here, set_same, set_twice, space_of}
use Rattle.segmodel.proofs.parts.add_row.Goals as goal

pub loop-row-init : goal.loop-row-init
loop-row-init c = record {
  end = c.span_of-row-end.ensures.rows;
  long = refl;
  added = sym (set_same (fillings c.args.segments.now.items) c.args.segment _ (none_more c.args.key c.args.frequency (fillings c.args.segments.now.items c.args.segment)));
  deadlines = refl;
  room = λ rows has. has;
  left = λ rows all. space_of c.args.segments.now.items c.args.segment rows (has_rows rows all);
}
  where
    has_rows : (rows : ℕ) → 0 + rows ≡ c.span_of-row-end.result → HasRows c.args.segments.now.items c.args.segment rows
    has_rows rows all =
        let same : span_of c.args.key c.args.value.now ≡ rows = omega (arith, c.span_of-row-end.ensures.rows, all) in
        subst (λ n. HasRows c.args.segments.now.items c.args.segment n) same c.requires

pub push_row-requires : goal.push_row-requires
push_row-requires c =
    let left : ℕ = c.span_of-row-end.result - c.loop-row._row in
    row_of c.loop-row.segments.items c.args.segment left (omega (arith, c.loop-row-test.true)) (c.loop-row.invariant.left left (omega (arith, c.loop-row-test.true)))

pub loop-row-preserved : goal.loop-row-preserved
loop-row-preserved c =
    let start = fillings c.args.segments.now.items in
    let before = many c.loop-row._row c.args.key c.args.frequency (start c.args.segment) in
    let here : fillings c.loop-row.segments.items c.args.segment ≡ before = ap (λ f. f c.args.segment) c.loop-row.invariant.added ∙ set_here start c.args.segment before in
    record {
      end = c.loop-row.invariant.end;
      long = c.push_row.ensures.len ∙ c.loop-row.invariant.long;
      added = c.push_row.ensures.added
          ∙ (λ i. with_at (c.loop-row.invariant.added i) c.args.segment (with_key (c.copy.ensures.value i) c.args.frequency (here i)))
          ∙ set_twice start c.args.segment before (with_key c.args.key c.args.frequency before)
          ∙ ap (with_at start c.args.segment) (one_more c.loop-row._row c.args.key c.args.frequency (start c.args.segment));
      deadlines = c.push_row.ensures.deadlines ∙ c.loop-row.invariant.deadlines;
      room = λ rows has. c.push_row.ensures.room rows (c.loop-row.invariant.room rows has);
      left = λ rows all. c.push_row.ensures.left rows (c.loop-row.invariant.left (rows + 1) (omega (arith, all)));
    }

pub returns-clause-added : goal.returns-clause-added
returns-clause-added c =
    let start = fillings c.args.segments.now.items in
    let rows : c.loop-row._row ≡ span_of c.args.key c.args.value.now = omega (arith, c.loop-row-test.false, c.loop-row.invariant.end) in
    c.loop-row.invariant.added
    ∙ (λ i. with_at start c.args.segment (many (rows i) c.args.key c.args.frequency (start c.args.segment)))
    ∙ ap (with_at start c.args.segment) (sym (rows_are (span_of c.args.key c.args.value.now) c.args.key c.args.frequency (start c.args.segment)))
