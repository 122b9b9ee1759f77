use Rattle.std.proofs.Common.{◌+◌, ◌-◌, ◌*◌, slice_index, sym, ap, ◌∙◌, inl, inr, rules, arith}
use Rattle.std.proofs.lemmas.Bool.{cases_lt}
use Rattle.segword.specs.Row.{byte_at}
use Rattle.segword.proofs.RowLemmas.{byte_at-split}
use Rattle.segword.proofs.WordLemmas.{zero_above, none_above}
use Rattle.segword.proofs.words.is_zero_from.Goals as goal
use Rattle.segword.proofs.words.is_zero_from.Goals.{else-kept-lt8-via-then-kept-lt8+else-word-kept-ne0, else-kept-lt8-via-else-kept-lt8}

pub returns-then-word-kept-ne0 : goal.returns-then-word-kept-ne0
returns-then-word-kept-ne0 c =
    let words = c.args.words.now in
    let i = c.loop-i.i in
    let kept = c.saturating_sub-kept.result in (
      λ t. search rules,
      λ z. absurd (c.if-word-kept-ne0.true
          (none_above (slice_index words i) kept (search (rules, c.type_inv.words i)) c.if-kept-lt8.true
          (λ j l m. sym (byte_at-split words i j m) ∙ z (8 * i + j) (omega arith) (omega arith)))),
    )

pub loop-i-preserved : goal.loop-i-preserved
loop-i-preserved c = λ k l m.
    let words = c.args.words.now in
    let i = c.loop-i.i in
    let kept = c.saturating_sub-kept.result in
    elim (cases_lt k (8 * i)) [
      | inl p ↦ c.loop-i.invariant k l p
      | inr p ↦ elim c.else-kept-lt8.branch [
        | else-kept-lt8-via-then-kept-lt8+else-word-kept-ne0 w ↦
            ap (byte_at words) (omega arith) ∙ byte_at-split words i (k - 8 * i) (omega arith)
            ∙ zero_above (slice_index words i) kept (k - 8 * i) w.if-word-kept-ne0.false (omega arith)
        | else-kept-lt8-via-else-kept-lt8 w ↦ absurd (omega arith)
      ]
    ]
