use Rattle.std.proofs.Common.{◌≡◌, ℕ, ◌<◌, Option, None, Some, sym, ap, ◌∙◌, arith}
use Rattle.std.specs.Option.{unwrap_or}
use Rattle.std.proofs.lemmas.Option.{same_Some}
use Rattle.segstore.specs.Words.{TakesAtMost}
use Rattle.segevict.proofs.EvictedItems.{looking_first, looking_next}
use Rattle.segevict.proofs.Evictions.{looks_for_none, unnamed_few}
use Rattle.segevict.proofs.Naming.{quiet_still}
use Rattle.segevict.proofs.spans.first_from.Goals as goal

-- more rows than none are used, so it is known how many
known : (o : Option ℕ) (from used : ℕ) → used ≡ unwrap_or o 0 → from < used → o ≡ Some used
known None from used is lt = absurd (omega (arith, is, lt))
known (Some n) from used is lt = ap Some (sym is)

-- behind the rows that are used
pub returns-then-used-from-clause-looks : goal.returns-then-used-from-clause-looks
returns-then-used-from-clause-looks c = looks_for_none c.args.board.now c.args.segment c.args.from c.args.pass.now c.requires.quiet.pass

pub returns-then-used-from-clause-within : goal.returns-then-used-from-clause-within
returns-then-used-from-clause-within c used is = unnamed_few c.args.board.now.shape c.args.segment c.args.from used c.args.pass.now c.requires.unnamed is

pub loop-row-init : goal.loop-row-init
loop-row-init c = looking_first c.args.board.now c.args.segment c.args.from c.args.pass.now c.requires.quiet

pub rows_from-row-requires-clause-quiet : goal.rows_from-row-requires-clause-quiet
rows_from-row-requires-clause-quiet c = quiet_still c.args.board.now c.args.pass.now c.loop-row.pass c.requires.quiet c.loop-row.invariant.idles

pub loop-row-preserved : goal.loop-row-preserved
loop-row-preserved c = let l = c.loop-row in let r = c.rows_from-row in
    let few : TakesAtMost 1 l.pass r.new.pass = let steps = r.ensures.steps in omega (arith, steps) in
    looking_next c.args.board.now c.args.segment c.args.from l.row c.unwrap_or-used.result r.result c.args.pass.now l.pass r.new.pass c.requires.quiet
    (sym c.used.ensures ∙ known c.used.result c.args.from c.unwrap_or-used.result c.unwrap_or-used.ensures c.if-used-from.false) c.loop-row-test.true c.if-used-from.false
    l.invariant r.ensures.idles few r.ensures.rows

-- where a row from this one on is used
pub returns-clause-looks : goal.returns-clause-looks
returns-clause-looks c = let i = c.loop-row.invariant in (
  i.idles,
  (let most = i.most in omega (arith, most)),
  λ used is past.
      let there = sym c.used.ensures ∙ known c.used.result c.args.from c.unwrap_or-used.result c.unwrap_or-used.ensures c.if-used-from.false in
      let same : c.unwrap_or-used.result ≡ used = same_Some c.unwrap_or-used.result used (sym there ∙ is) in
      absurd (omega (arith, past, same, c.if-used-from.false)),
)
