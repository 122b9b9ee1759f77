use Rattle.std.proofs.Common.{◌≡◌, ◌-◌, ◌^◌}
use Rattle.segmodel.specs.Words.{key_of}
use Rattle.segstore.specs.Words.{memo}
use Rattle.segwrite.proofs.Linking.{Retrying, link_event}
use Rattle.segwrite.proofs.Steps.{TriedAgain}
use Rattle.segwrite.proofs.writing.link.Given as goal

abbrev pub ghost-link : goal.ghost-link
ghost-link g a = g.request

abbrev pub ghost-replace : goal.ghost-replace
ghost-replace g a = g.request

abbrev pub invariant-loop-found : goal.invariant-loop-found
invariant-loop-found g l = record {
  linking : Retrying l.board (key_of g.request) (link_event g.request l.item.seg l.item.row) l.target.place l.old l.fn.pass l.pass;
  tried : TriedAgain l.target.word l.old l.fn.pass l.pass;
  plain : l.pass.plain ≡ l.fn.pass.plain;
  memo : memo l.pass ≡ memo l.fn.pass;
}

abbrev pub decreases-loop-found : goal.decreases-loop-found
decreases-loop-found g l = 2 ^ 64 - l.old
