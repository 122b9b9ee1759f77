use Rattle.std.proofs.Common.{arith, ap, ◌∙◌, ◌≡◌, ◌++◌, length}
use Rattle.segcli.specs.Totals.{pass_line, total_line, texts_from}
use Rattle.segcli.proofs.TotalsText.{one_pass_more, all_passes}
use Rattle.segcli.proofs.totals.text_of.Goals as goal

pub loop-number-init : goal.loop-number-init
loop-number-init c = ap (λ l. l ++ texts_from pass_line 0 c.deref-pass-items.result.now) c.new-text.ensures.items

pub loop-number-preserved : goal.loop-number-preserved
loop-number-preserved c = let l = c.loop-number in
    one_pass_more pass_line l.text.items _ l.number c.deref-pass-items.result.now _ c.loop-number-test.true l.invariant c.in_ok-put_pass.ensures.text

pub returns : goal.returns
returns c = let l = c.loop-number in let passes = c.deref-pass-items.result.now in let keys = c.args.totals.now.keys in
    let last : l.number ≡ length passes = omega arith in
    record {
      text = c.in_ok-put_total.ensures.text
          ∙ ap (λ texts. texts ++ total_line c.commands.result keys) (all_passes pass_line l.text.items _ l.number passes last l.invariant)
          ∙ ap (λ items. texts_from pass_line 0 items ++ total_line c.commands.result keys) c.deref-pass-items.ensures.value
          ∙ ap (λ commands. texts_from pass_line 0 c.args.totals.now.passes.items ++ total_line commands keys) c.commands.ensures;
    }
