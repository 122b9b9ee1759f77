use Rattle.segcli.specs.Replayed.{cache_line}
use Rattle.segcli.proofs.ReplayText.{flat_more, no_totals}
use Rattle.segcli.proofs.replayed.put_lines.Goals as goal

pub loop-each-preserved : goal.loop-each-preserved
loop-each-preserved c =
    flat_more cache_line c.args.text.now.items c.args.totals.now c.loop-each.each-index no_totals c.loop-each-test.true c.loop-each.invariant c.in_ok-put_line.ensures.text
