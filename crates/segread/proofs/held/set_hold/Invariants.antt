use Rattle.segstore.specs.Words.{memo}
use Rattle.segread.proofs.held.set_hold.Given as goal

abbrev pub ghost-remember : goal.ghost-remember
ghost-remember g a = record (memo a.pass.now) { holding = g.held }
