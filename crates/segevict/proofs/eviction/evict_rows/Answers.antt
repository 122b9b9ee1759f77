use Rattle.std.proofs.Common.{◌≡◌, ◌+◌, Some, sym, ap, ◌∙◌, subst, arith}
use Rattle.segmodel.specs.declared.answer.EvictAnswer.TheVariants as evict
use Rattle.segbase.specs.Words.{used_of}
use Rattle.segstore.specs.Words.{GoesOn}
use Rattle.segstore.proofs.Keeping.{same_used}
use Rattle.segevict.specs.Evicting.{CostsOfEvict, IsEvictAnswer}
use Rattle.segevict.proofs.EvictedItems.{EvictingItems, items_evicted, items_first, items_left}
use Rattle.segevict.proofs.Evictions.{barred_on, barred_answer, barred_costs, emptied_on, emptied_answer, emptied_costs}
use Rattle.segevict.proofs.eviction.evict_rows.Goals as goal
use Rattle.segevict.proofs.eviction.evict_rows.Goals.{in-Evicted, in-Left}

pub loop-row-init : goal.loop-row-init
loop-row-init c = let r = c.requires in let f = c.first_from-row in let s = c.args.segment in
    let used : used_of c.args.pass.now s ≡ Some c.unwrap-used.result = sym c.used.ensures ∙ c.unwrap-used.ensures in
    items_first c.args.board.now s c.args.from f.result c.unwrap-used.result c.args.pass.now f.new.pass r.quiet r.in_use used r.unnamed
    f.ensures.looks f.ensures.later (f.ensures.within c.unwrap-used.result used) f.ensures.first f.ensures.behind

pub returns-in-Busy-clause-on : goal.returns-in-Busy-clause-on
returns-in-Busy-clause-on c = let l = c.loop-row in let r = c.requires in
    barred_on c.args.board.now c.args.segment c.args.from l.row l.evicted c.args.pass.now l.pass r.in_use r.ended l.invariant.evicting c.evict_used_row.new.pass c.in-Busy.ensures.evicts

pub returns-in-Busy-clause-answer : goal.returns-in-Busy-clause-answer
returns-in-Busy-clause-answer c = let l = c.loop-row in let r = c.requires in
    barred_answer c.args.board.now c.args.segment c.args.from l.row l.evicted c.args.pass.now l.pass r.in_use r.ended l.invariant.evicting c.evict_used_row.new.pass c.in-Busy.ensures.evicts

pub returns-in-Busy-clause-costs : goal.returns-in-Busy-clause-costs
returns-in-Busy-clause-costs c = let l = c.loop-row in let r = c.requires in
    barred_costs c.args.board.now c.args.segment c.args.from l.row l.evicted c.args.pass.now l.pass r.in_use r.ended l.invariant.evicting c.evict_used_row.new.pass c.in-Busy.ensures.evicts
    c.unwrap-used.result (sym c.used.ensures ∙ c.unwrap-used.ensures) c.loop-row-test.true (let few = c.in-Busy.ensures.steps in omega (arith, few))

pub rows_from-row-requires-clause-quiet : goal.rows_from-row-requires-clause-quiet
rows_from-row-requires-clause-quiet c = c.evict_used_row.ensures.evicts.on.quiet

pub rows_from-row-requires-clause-used : goal.rows_from-row-requires-clause-used
rows_from-row-requires-clause-used c = let l = c.loop-row in let s = c.args.segment in (
  c.unwrap-used.result,
  same_used l.pass c.evict_used_row.new.pass s c.evict_used_row.ensures.evicts.plain
      ∙ (same_used c.args.pass.now l.pass s l.invariant.evicting.plain ∙ (sym c.used.ensures ∙ c.unwrap-used.ensures)),
  c.loop-row-test.true,
)

pub loop-row-preserved : goal.loop-row-preserved
loop-row-preserved c = let b = c.args.board.now in let s = c.args.segment in let from = c.args.from in let p = c.args.pass.now in let l = c.loop-row in
    let used : used_of p s ≡ Some c.unwrap-used.result = sym c.used.ensures ∙ c.unwrap-used.ensures in
    let r = c.evict_used_row.new.pass in let t = c.rows_from-row in elim c.match-evict_used_row.branch [
      | in-Evicted w ↦ subst (λ n. EvictingItems b s from (l.row + t.result) n p t.new.pass) (sym w.evicted-is)
          (items_evicted b s from l.row l.evicted c.unwrap-used.result t.result p l.pass c.requires.in_use used c.loop-row-test.true l.invariant r t.new.pass
          t.ensures.idles t.ensures.steps t.ensures.rows w.in-Evicted.ensures.evicts w.in-Evicted.ensures.steps)
      | in-Left w ↦ subst (λ n. EvictingItems b s from (l.row + t.result) n p t.new.pass) (sym w.evicted-is)
          (items_left b s from l.row l.evicted c.unwrap-used.result t.result p l.pass c.requires.in_use used c.loop-row-test.true l.invariant r t.new.pass
          t.ensures.idles t.ensures.steps t.ensures.rows w.in-Left.ensures.evicts w.in-Left.ensures.steps)
    ]

pub returns-clause-on : goal.returns-clause-on
returns-clause-on c = let l = c.loop-row in let r = c.requires in let done = sym c.set_state.ensures in
    let over = c.loop-row-test.false in let is : used_of c.args.pass.now c.args.segment ≡ Some c.unwrap-used.result = sym c.used.ensures ∙ c.unwrap-used.ensures in
    let most = l.invariant.within c.unwrap-used.result is in
    let all : used_of c.args.pass.now c.args.segment ≡ Some l.row = is ∙ ap Some (let e : c.unwrap-used.result ≡ l.row = omega arith in e) in
    subst (GoesOn c.args.board.now c.args.pass.now) done (emptied_on c.args.board.now c.args.segment c.args.from l.row l.evicted c.args.pass.now l.pass r.in_use r.ended l.invariant.evicting all)

pub returns-clause-answer : goal.returns-clause-answer
returns-clause-answer c = let l = c.loop-row in let r = c.requires in let done = sym c.set_state.ensures in
    let over = c.loop-row-test.false in let is : used_of c.args.pass.now c.args.segment ≡ Some c.unwrap-used.result = sym c.used.ensures ∙ c.unwrap-used.ensures in
    let most = l.invariant.within c.unwrap-used.result is in
    let all : used_of c.args.pass.now c.args.segment ≡ Some l.row = is ∙ ap Some (let e : c.unwrap-used.result ≡ l.row = omega arith in e) in
    subst (IsEvictAnswer c.args.board.now.shape c.args.segment (evict.Evicted l.evicted) c.args.pass.now) done
    (emptied_answer c.args.board.now c.args.segment c.args.from l.row l.evicted c.args.pass.now l.pass r.in_use r.ended l.invariant.evicting all)

pub returns-clause-costs : goal.returns-clause-costs
returns-clause-costs c = let l = c.loop-row in let r = c.requires in let done = sym c.set_state.ensures in
    let over = c.loop-row-test.false in let is : used_of c.args.pass.now c.args.segment ≡ Some c.unwrap-used.result = sym c.used.ensures ∙ c.unwrap-used.ensures in
    let most = l.invariant.within c.unwrap-used.result is in
    let all : used_of c.args.pass.now c.args.segment ≡ Some l.row = is ∙ ap Some (let e : c.unwrap-used.result ≡ l.row = omega arith in e) in
    subst (CostsOfEvict c.args.board.now c.args.segment c.args.from (evict.Evicted l.evicted) c.args.pass.now) done
    (emptied_costs c.args.board.now c.args.segment c.args.from l.row l.evicted c.args.pass.now l.pass r.in_use r.ended l.invariant.evicting all)
