use Rattle.std.proofs.Common.{◌∙◌, arith}
use Rattle.segmodel.specs.Words.{key_of, value_of}
use Rattle.segbase.specs.Words.{number}
use Rattle.segstore.specs.Words.{peek}
use Rattle.segwrite.proofs.Presence.{clean_still, depends, peek_nowhere, peeks_for_none, peeks_then, word_tells}
use Rattle.segwrite.proofs.Steps.{sees_key}
use Rattle.segwrite.proofs.writing.refusal.Goals as goal

pub returns-in-Always-clause-peeks : goal.returns-in-Always-clause-peeks
returns-in-Always-clause-peeks g c = peeks_for_none c.args.board.now g.request c.args.pass.now c.requires.0

pub refusal_where-requires : goal.refusal_where-requires
refusal_where-requires g c = let b = c.args.board.now in let p = c.args.pass.now in let q = c.present_word.new.pass in let r = c.requires in let x = c.present_word.ensures.peeks in (
  x.moved.pass,
  (
    r.1.0,
    (
      clean_still b (peek (number p) x.into) c.args.write.now.sought.bucket p q r.1.1.0 x.moved (peek_nowhere b.shape c.args.write.now.sought.bucket (number p) x.into),
      (r.1.1.1.0, (c.is_some-is_present.ensures ∙ word_tells b (key_of g.request) c.args.write.now.clock c.args.found c.present_word.result q c.present_word.ensures.presents, r.1.1.1.1.1.1)),
    ),
  ),
)

pub returns : goal.returns
returns g c = let b = c.args.board.now in let p = c.args.pass.now in let q = c.present_word.new.pass in let r = c.refusal_where.new.pass in record {
  peeks = record {
    peeks = peeks_then b (key_of g.request) p q r c.present_word.ensures.peeks c.refusal_where.ensures.idles;
    none = λ set. absurd (depends c.args.write.now.condition g.request (key_of g.request) (value_of g.request) c.args.write.now.clock c.in_default.not-Always c.requires.1.1.1.1.1.1 set);
  };
  steps = (let looked = c.present_word.ensures.steps in let asked = c.refusal_where.ensures.steps in
      let sees = sees_key g.request (depends c.args.write.now.condition g.request (key_of g.request) (value_of g.request)
      c.args.write.now.clock c.in_default.not-Always c.requires.1.1.1.1.1.1) in
      omega (arith, looked, asked, sees));
  told = c.refusal_where.ensures.told;
}
