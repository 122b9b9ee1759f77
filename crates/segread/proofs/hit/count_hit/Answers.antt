use Rattle.std.proofs.Common.{refl, arith}
use Rattle.segstore.proofs.Looks.{one_step}
use Rattle.segstore.proofs.Readers.{stays}
use Rattle.segread.proofs.Answered.{hits}
use Rattle.segread.proofs.Raising.{glances_none, raised_by, raised_none, stays_out}
use Rattle.segread.proofs.hit.count_hit.Goals as goal

pub returns-then-hit-item-clause-reads : goal.returns-then-hit-item-clause-reads
returns-then-hit-item-clause-reads c = let e = c.bump.ensures in let st = e.step.1 in
    hits c.args.board.now c.args.pass.now c.bump.new.pass c.args.item.seg c.args.item.row c.next_frequency.result c.bump.result e.did st.plain st.memo

pub returns-then-hit-item-clause-steps : goal.returns-then-hit-item-clause-steps
returns-then-hit-item-clause-steps c = let one = one_step c.args.board.now c.args.pass.now c.bump.new.pass _ _ c.bump.ensures.step.1 in omega (arith, one)

pub returns-then-hit-item-clause-stays_out : goal.returns-then-hit-item-clause-stays_out
returns-then-hit-item-clause-stays_out c = stays_out c.args.board.now c.args.pass.now c.bump.new.pass c.args.item.seg c.args.item.row c.next_frequency.result c.bump.result c.bump.ensures.did.moved

pub returns-then-hit-item-clause-glances : goal.returns-then-hit-item-clause-glances
returns-then-hit-item-clause-glances c = glances_none c.args.board.now c.args.pass.now c.bump.new.pass c.args.item.seg c.args.item.row c.next_frequency.result c.bump.result c.bump.ensures.did.moved

pub returns-then-hit-item-clause-raises : goal.returns-then-hit-item-clause-raises
returns-then-hit-item-clause-raises c key value before there saw = let e = c.bump.ensures in
    raised_by c.args.board.now c.args.pass.now c.bump.new.pass c.args.place c.args.item c.next_frequency.result
    c.args.draw e.step.0 key value before c.bump.result c.requires.pass c.requires.place there saw e.step.1
    e.step.2 e.did e.raises c.next_frequency.ensures.value c.if-hit-item.true

pub returns-else-hit-item : goal.returns-else-hit-item
returns-else-hit-item c = record {
  reads = stays c.args.board.now c.args.pass.now c.requires.pass;
  steps = omega arith;
  stays_out = refl;
  glances = λ bucket. refl;
  raises = λ key value before there saw. raised_none c.args.board.now c.args.pass.now c.args.place c.args.item
      c.next_frequency.result c.args.draw key value before c.requires.pass saw c.next_frequency.ensures.value
      c.if-hit-item.false;
}
