use Rattle.std.proofs.Common.{◌≡◌, ◌-◌, ◌^◌}
use Rattle.segstore.specs.Words.{memo}
use Rattle.segwrite.proofs.Linking.{Retrying, unlink_event}
use Rattle.segwrite.proofs.Steps.{TriedAgain}
use Rattle.segwrite.proofs.removal.clear.Given as goal

abbrev pub ghost-clear : goal.ghost-clear
ghost-clear g a = g.left

abbrev pub invariant-loop-found : goal.invariant-loop-found
invariant-loop-found g l = record {
  clearing : Retrying l.board g.left.0 (unlink_event g.left.0 g.left.1) l.target.place l.old l.fn.pass l.pass;
  tried : TriedAgain l.target.word l.old l.fn.pass l.pass;
  plain : l.pass.plain ≡ l.fn.pass.plain;
  memo : memo l.pass ≡ memo l.fn.pass;
}

abbrev pub decreases-loop-found : goal.decreases-loop-found
decreases-loop-found g l = 2 ^ 64 - l.old
