use Rattle.std.proofs.Common.{◌≢◌, Some, not, eqb, refl, sym, ap, ◌∙◌}
use Rattle.std.specs.Option.{option_eq}
use Rattle.std.proofs.lemmas.Bool.{eq-eqb, false≢true}
use Rattle.segbase.specs.Words.{locked_of}
use Rattle.segstore.proofs.UnderWrite.{takes_to_write}
use Rattle.segstore.proofs.bucket.take_to_write.Goals as goal

pub returns-then-ne-clause-takes : goal.returns-then-ne-clause-takes
returns-then-ne-clause-takes c =
    let apart : locked_of c.args.pass.now ≢ Some c.args.bucket =
    λ same. false≢true (sym (c.ne.ensures ∙ (ap (λ o. not (option_eq eqb o (Some c.args.bucket)))
    (c.locked.ensures ∙ same) ∙ ap not (eq-eqb c.args.bucket c.args.bucket refl))) ∙ c.if-ne.true) in
    takes_to_write c.args.board.now c.args.bucket c.take_bucket.result c.args.pass.now c.take_bucket.new.pass
    c.requires.pass c.requires.bucket apart c.take_bucket.ensures.takes c.take_bucket.ensures.same.0
    c.take_bucket.ensures.same.1
