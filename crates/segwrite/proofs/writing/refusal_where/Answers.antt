use Rattle.std.proofs.Common.{sym, ap, ◌∙◌, subst, arith}
use Rattle.segmodel.specs.Words.{key_of, value_of}
use Rattle.segstore.proofs.Looks.{one_step}
use Rattle.segstore.proofs.Refills.{idles}
use Rattle.segstore.specs.Words.{Idles, TakesAtMost}
use Rattle.segwrite.specs.Steps.{most_looks_at_version}
use Rattle.segwrite.specs.Refusing.{request_of, IsToldBy, reply_now}
use Rattle.segwrite.proofs.Refused.{told_by_look}
use Rattle.segwrite.proofs.writing.refusal_where.Goals as goal

pub returns-in-Always-clause-idles : goal.returns-in-Always-clause-idles
returns-in-Always-clause-idles g c = idles _ _ c.requires.0

pub returns-in-IfAbsent-clause-idles : goal.returns-in-IfAbsent-clause-idles
returns-in-IfAbsent-clause-idles g c = idles _ _ c.requires.0

pub returns-in-IfPresent-clause-idles : goal.returns-in-IfPresent-clause-idles
returns-in-IfPresent-clause-idles g c = idles _ _ c.requires.0

pub returns-in-IfVersion-clause-idles : goal.returns-in-IfVersion-clause-idles
returns-in-IfVersion-clause-idles g c = idles _ _ c.requires.0

pub returns-in-IfVersion-2-clause-told : goal.returns-in-IfVersion-2-clause-told
returns-in-IfVersion-2-clause-told g c = let b = c.args.board.now in let r = c.requires in let look = c.info_look-info in let step = look.ensures.step in
    let idles : Idles b c.args.pass.now look.new.pass = record { moved = look.ensures.did.moved; plain = step.plain; memo = step.memo } in
    subst (IsToldBy (reply_now b look.new.pass g.request)) (sym c.then_some-in-IfVersion-2.ensures)
    (told_by_look b g.request c.in-IfVersion-2.version c.args.write.now.clock look.result.version
    c.args.write.now.sought.bucket c.args.pass.now look.new.pass r.1.0 r.0 r.1.1.0 r.1.1.1.0 (sym r.1.1.1.1.0
    ∙ c.if-not-is_present.false) (r.1.1.1.1.1
    ∙ ap (λ w. request_of w (key_of g.request) (value_of g.request) c.args.write.now.clock) c.in-IfVersion-2.is)
    idles look.ensures.version)

pub returns-in-IfVersion-2-clause-steps : goal.returns-in-IfVersion-2-clause-steps
returns-in-IfVersion-2-clause-steps g c = let one = one_step c.args.board.now c.args.pass.now c.info_look-info.new.pass _ _ c.info_look-info.ensures.step in
    let asks = c.requires.1.1.1.1.1 ∙ ap (λ w. request_of w (key_of g.request) (value_of g.request) c.args.write.now.clock) c.in-IfVersion-2.is in
    subst (λ request. TakesAtMost (most_looks_at_version request) c.args.pass.now c.info_look-info.new.pass) (sym asks) (omega (arith, one))
