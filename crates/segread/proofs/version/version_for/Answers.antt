use Rattle.std.proofs.Common.{eqb, Some, refl, sym, ap, ◌∙◌, subst}
use Rattle.std.proofs.lemmas.Bool.{eq-eqb, false≢true}
use Rattle.std.specs.Option.{option_eq}
use Rattle.segmodel.specs.Words.{bucket_of}
use Rattle.segbase.specs.Words.{Pass}
use Rattle.segread.specs.Looking.{AfterLook}
use Rattle.segread.specs.Gets.{FindsVersion}
use Rattle.segread.proofs.version.version_for.Goals as goal

pub returns-then-eq : goal.returns-then-eq
returns-then-eq c = let f = c.find_locked in record {
  steps = f.ensures.steps;
  answer = f.ensures.answer;
  unlocked = λ hit version told. absurd (f.ensures.none hit version told);
}

pub returns : goal.returns
returns c = let b = c.args.board.now in let key = c.args.key.now in let p = c.args.pass.now in let v = c.find_version in let q = v.new.pass in record {
  steps = v.ensures.steps;
  answer = subst (λ k. AfterLook b p (λ (first : Pass). FindsVersion b k c.args.now v.result first q)) c.of-sought.ensures.key v.ensures.answer;
  unlocked = λ hit version told at.
      let sought = c.of-sought in
      let home = sought.ensures.sought.bucket ∙ ap (bucket_of b.shape) sought.ensures.key in
      let same = c.locked.ensures ∙ (at ∙ ap Some (sym home)) in
      false≢true (c.if-eq.ensures ∙ (ap (λ o. option_eq eqb o (Some sought.result.bucket)) same ∙ eq-eqb sought.result.bucket sought.result.bucket refl));
}
