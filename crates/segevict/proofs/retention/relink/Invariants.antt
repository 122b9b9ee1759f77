use Rattle.std.proofs.Common.{◌≡◌, ◌-◌, ◌^◌}
use Rattle.segstore.specs.Words.{memo}
use Rattle.segwrite.proofs.Linking.{Retrying}
use Rattle.segwrite.proofs.Steps.{TriedAgain}
use Rattle.segevict.proofs.Relinking.{relink_event}
use Rattle.segevict.proofs.retention.relink.Given as goal

abbrev pub ghost-try_to_relink : goal.ghost-try_to_relink
ghost-try_to_relink g a = g.named

abbrev pub invariant-loop-found : goal.invariant-loop-found
invariant-loop-found g l = record {
  relinking : Retrying l.board g.named.key (relink_event g.named l.to.segment l.to.row) l.target.place l.old l.fn.pass l.pass;
  tried : TriedAgain l.target.word l.old l.fn.pass l.pass;
  plain : l.pass.plain ≡ l.fn.pass.plain;
  memo : memo l.pass ≡ memo l.fn.pass;
}

abbrev pub decreases-loop-found : goal.decreases-loop-found
decreases-loop-found g l = 2 ^ 64 - l.old
