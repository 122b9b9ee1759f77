use Rattle.std.proofs.Common.{arith}
use Rattle.segstore.proofs.Looks.{one_step}
use Rattle.segwrite.proofs.Deleting.{may_look, may_tell, tells, may_clear, may_free, leaves}
use Rattle.segwrite.proofs.removal.remove.Goals as goal

pub present_word-requires : goal.present_word-requires
present_word-requires g c = let r = c.requires in
    may_look c.args.board.now g.request c.args.sought.now.key c.args.now c.args.sought.now.bucket r.1.1.1.1
    r.1.1.0.bucket c.args.pass.now _ c.find-found.result r.1.0 c.find-found.ensures.idles r.1.1.1.0
    c.find-found.ensures.finds

pub refuse-requires : goal.refuse-requires
refuse-requires g c = let r = c.requires in let f = c.find-found in let w = c.present_word in
    may_tell c.args.board.now g.request c.args.sought.now.key c.args.now c.args.sought.now.bucket r.1.1.1.1
    r.1.1.0.bucket c.args.pass.now _ _ f.result w.result r.1.0 f.ensures.idles f.ensures.finds w.ensures.peeks
    w.ensures.presents c.in_default.is

pub returns-in_default : goal.returns-in_default
returns-in_default g c = let r = c.requires in let f = c.find-found in let w = c.present_word in record {
  removes = tells c.args.board.now g.request c.args.sought.now.key c.args.now c.args.sought.now.bucket r.1.1.1.1
      r.1.1.0.bucket c.args.pass.now _ _ f.result w.result r.1.0 f.ensures.idles f.ensures.finds w.ensures.peeks
      w.ensures.presents _ c.in_default.is c.refuse.ensures.refuses;
  steps = (let searched = f.ensures.steps in let looked = w.ensures.steps in let gives = c.refuse.ensures.steps in omega (arith, searched, looked, gives));
}

pub clear-requires : goal.clear-requires
clear-requires g c = let r = c.requires in let f = c.find-found in let w = c.present_word in
    may_clear c.args.board.now g.request c.args.sought.now.key c.args.now c.args.sought.now.bucket r.1.1.1.1
    r.1.1.0.bucket c.args.pass.now _ _ f.result w.result r.1.0 f.ensures.idles f.ensures.finds w.ensures.peeks
    w.ensures.presents c.in-Some.target c.in-Some.is

pub release-requires : goal.release-requires
release-requires g c = let r = c.requires in let f = c.find-found in let w = c.present_word in
    may_free c.args.board.now g.request c.args.sought.now.key c.args.now c.args.sought.now.bucket r.1.1.1.1
    r.1.1.0.bucket c.args.pass.now _ _ f.result w.result r.1.0 f.ensures.idles f.ensures.finds w.ensures.peeks
    w.ensures.presents c.in-Some.target c.in-Some.is _ c.clear.ensures.did

pub returns : goal.returns
returns g c = let r = c.requires in let f = c.find-found in let w = c.present_word in let step = c.release.ensures.step.1 in let u = c.clear.ensures in record {
  removes = leaves c.args.board.now g.request c.args.sought.now.key c.args.now c.args.sought.now.bucket r.1.1.1.1
      r.1.1.0.bucket c.args.pass.now _ _ f.result w.result r.1.0 f.ensures.idles f.ensures.finds w.ensures.peeks
      w.ensures.presents c.in-Some.target c.in-Some.is _ u.did
      _ u.same.0 u.same.1 c.release.ensures.did c.release.ensures.free step.plain step.memo;
  steps = (let searched = f.ensures.steps in let looked = w.ensures.steps in let cleared = u.steps in
      let gives = one_step c.args.board.now c.clear.new.pass c.release.new.pass _ _ step in omega (arith, searched, looked, cleared, gives));
}
