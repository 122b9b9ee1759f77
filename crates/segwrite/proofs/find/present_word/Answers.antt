use Rattle.std.proofs.Common.{◌≡◌, ◌∙◌, Some, None, sym, subst, arith}
use Rattle.std.specs.Prelude.{IfSome}
use Rattle.segword.specs.Words.{item_word}
use Rattle.segbase.proofs.Moves.{is_inside}
use Rattle.segstore.proofs.Readers.{enters}
use Rattle.segwrite.specs.Presence.{IsPresentWord}
use Rattle.segwrite.proofs.Refused.{own_target, own_none}
use Rattle.segwrite.proofs.Presence.{may_look, none_present, peeks, peeks_none, tells_word}
use Rattle.segwrite.proofs.find.present_word.Goals as goal

pub returns-in_err-target : goal.returns-in_err-target
returns-in_err-target g c = let b = c.args.board.now in let p = c.args.pass.now in
    let absent : c.own_word.result ≡ None = c.in_err-target.was in record {
      peeks = peeks_none b g.key p c.requires.0;
      presents = subst (λ o. IsPresentWord b g.key c.args.now c.args.found o p) (sym c.from_residual.ensures)
          (none_present b g.key c.args.now p (own_none b g.key c.args.found p c.requires.1.1.1
          (sym c.own_word.ensures ∙ absent)));
      steps = omega arith;
    }

pub enter_segment-deadline-requires-clause-may : goal.enter_segment-deadline-requires-clause-may
enter_segment-deadline-requires-clause-may g c = let b = c.args.board.now in let p = c.args.pass.now in let r = c.requires in let target = c.in_ok-target.target in
    let was : c.own_word.result ≡ Some target = c.in_ok-target.was in
    let own = own_target b g.key c.args.found target p r.1.1.1 (sym c.own_word.ensures ∙ was) in
    let word : item_word c.unwrap-item.result ≡ target.word = subst (λ o. IfSome o (λ item. item_word item ≡ target.word)) c.unwrap-item.ensures c.unpack.ensures.some in
    may_look b g.key target p r.0 own.0 own.1 c.unwrap-item.result word r.1.0

pub leave_segment-requires-clause-segment : goal.leave_segment-requires-clause-segment
leave_segment-requires-clause-segment g c = let b = c.args.board.now in let p = c.args.pass.now in let r = c.requires in let target = c.in_ok-target.target in
    let was : c.own_word.result ≡ Some target = c.in_ok-target.was in
    let own = own_target b g.key c.args.found target p r.1.1.1 (sym c.own_word.ensures ∙ was) in
    let word : item_word c.unwrap-item.result ≡ target.word = subst (λ o. IfSome o (λ item. item_word item ≡ target.word)) c.unwrap-item.ensures c.unpack.ensures.some in
    (may_look b g.key target p r.0 own.0 own.1 c.unwrap-item.result word r.1.0).suits.1

pub leave_segment-requires-clause-inside : goal.leave_segment-requires-clause-inside
leave_segment-requires-clause-inside g c = let b = c.args.board.now in let p = c.args.pass.now in let e = c.enter_segment-deadline in
    is_inside b p e.new.pass c.unwrap-item.result.seg (enters b p e.new.pass c.unwrap-item.result.seg e.ensures.enters).reads

pub returns-clause-peeks : goal.returns-clause-peeks
returns-clause-peeks g c = let b = c.args.board.now in let p = c.args.pass.now in let r = c.requires in let target = c.in_ok-target.target in let e = c.enter_segment-deadline in
    let was : c.own_word.result ≡ Some target = c.in_ok-target.was in
    let own = own_target b g.key c.args.found target p r.1.1.1 (sym c.own_word.ensures ∙ was) in
    let word : item_word c.unwrap-item.result ≡ target.word = subst (λ o. IfSome o (λ item. item_word item ≡ target.word)) c.unwrap-item.ensures c.unpack.ensures.some in
    peeks b g.key target p r.0 own.0 own.1 c.unwrap-item.result word e.new.pass c.leave_segment.new.pass r.1.1.0 e.ensures.enters e.result e.ensures.deadline c.leave_segment.ensures

pub returns-clause-presents : goal.returns-clause-presents
returns-clause-presents g c = let b = c.args.board.now in let p = c.args.pass.now in let r = c.requires in let target = c.in_ok-target.target in let e = c.enter_segment-deadline in
    let was : c.own_word.result ≡ Some target = c.in_ok-target.was in
    let of = sym c.own_word.ensures ∙ was in
    let own = own_target b g.key c.args.found target p r.1.1.1 of in
    let word : item_word c.unwrap-item.result ≡ target.word = subst (λ o. IfSome o (λ item. item_word item ≡ target.word)) c.unwrap-item.ensures c.unpack.ensures.some in
    subst (λ o. IsPresentWord b g.key c.args.now c.args.found o c.leave_segment.new.pass) (sym c.then_some.ensures)
    (tells_word b g.key target p r.0 own.0 own.1 c.unwrap-item.result word e.new.pass c.leave_segment.new.pass
    r.1.1.0 e.ensures.enters e.result e.ensures.deadline c.leave_segment.ensures c.args.now c.args.found of)

pub returns-clause-steps : goal.returns-clause-steps
returns-clause-steps g c = let came = c.enter_segment-deadline.ensures.enters.steps in let left = c.leave_segment.ensures.steps in omega (arith, came, left)
