use Rattle.std.proofs.Common.{◌≤◌, sym, subst, arith}
use Rattle.segcore.specs.Words.{drawn_in}
use Rattle.segbase.specs.Passes.{trace}
use Rattle.segbase.specs.Steps.{CounterMissed}
use Rattle.segbase.proofs.Exchanging.{drawn_few_enough, counter_missed}
use Rattle.segbase.proofs.board.Board.draw_overflow.Goals as goal

pub overflow_cast-result : goal.overflow_cast-result
overflow_cast-result c = let e : c.exchange_at-found.result ≤ 65536 = drawn_few_enough c.args.self.now c.args.pass.now _ _ _ _ _ c.requires.pass c.exchange_at-found.ensures in omega arith

pub returns-else-found-from-clause-missed : goal.returns-else-found-from-clause-missed
returns-else-found-from-clause-missed c =
    let same = c.from-from.ensures in
    subst (λ n. CounterMissed c.args.self.now n c.exchange_at-found.result c.args.pass.now c.exchange_at-found.new.pass) same
    (counter_missed c.args.self.now c.args.pass.now _ _ _ _ _ (subst (λ n. n ≤ drawn_in (trace c.args.pass.now)) (sym same) c.requires.may.5) c.if-found-from.false c.exchange_at-found.ensures)
