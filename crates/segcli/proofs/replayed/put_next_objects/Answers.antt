use Rattle.segcli.specs.Replayed.{next_object}
use Rattle.segcli.proofs.ReplayText.{flat_more, no_totals}
use Rattle.segcli.proofs.replayed.put_next_objects.Goals as goal

pub loop-each-preserved : goal.loop-each-preserved
loop-each-preserved c =
    flat_more next_object c.args.text.now.items c.args.totals.now c.loop-each.each-index no_totals c.loop-each-test.true c.loop-each.invariant c.in_ok-put_next_object.ensures.text
