use Rattle.std.proofs.Common.{◌<◌, ap, sym, subst, ◌∙◌, arith}
use Rattle.segbase.specs.declared.law.Constants.{Constants}
use Rattle.segbase.proofs.Dealt.{deals}
use Rattle.segbase.proofs.Passes.{get_first, one_more}
use Rattle.segbase.proofs.board.Board.deal.Goals as goal

pub split_seat-seat-requires : goal.split_seat-seat-requires
split_seat-seat-requires c =
    let b = c.args.self.now in let x = c.index_mut.result.now in let inv = c.loop-number.invariant in
    let first = get_first c.loop-number.passes.items x (let l = inv.0.long in let a = c.loop-number.auto.number in omega arith) c.index_mut.ensures.value in
    let new = inv.0.each 0 x first in
    let some : 0 < b.table.shared.table_id.words = let l = b.long in omega arith in (
      new.pass.table,
      some,
      deals (Unit {0}) b.table.shared.key x.seat.id x.seat.me.0 new.pass.is_pass new.number
          (subst (λ (k : Constants). x.seat.me.0.view.dealt < k.shape.passes) (sym b.same) (let dealt = inv.1 x first in
          let below = c.loop-number-test.true in omega arith)),
    )

pub loop-number-preserved : goal.loop-number-preserved
loop-number-preserved c =
    let b = c.args.self.now in let x = c.index_mut.result.now in let inv = c.loop-number.invariant in let split = c.split_seat-seat.ensures in let made = c.in_ok-pass-2.ensures in
    let first = get_first c.loop-number.passes.items x (let l = inv.0.long in let a = c.loop-number.auto.number in omega arith) c.index_mut.ensures.value in
    rw c.in_ok-push-2.ensures.items
    (one_more b c.loop-number.number c.loop-number.passes.items x c.in_ok-pass-2.field-0 c.split_seat-seat.new.seat c.requires.valid inv.0 first (inv.1 x first) c.loop-number-test.true
    split.0 split.2 (ap (λ s. s.table_id) made.0 ∙ split.3) (ap (λ s. s.me) made.0 ∙ split.4) made.1)
