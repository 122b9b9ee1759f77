use Rattle.std.proofs.Common.{ap, ◌∙◌}
use Rattle.segsolo.specs.Alone.{state_at}
use Rattle.segsolo.proofs.AloneStarts.{starts_last}
use Rattle.segsolo.proofs.solo.Solo.new.Goals as goal

pub invariant_of-result : goal.invariant_of-result
invariant_of-result c = record {
  alone = (starts_last c.args.shape c.in_ok-index.index c.in_ok-index.passes.items c.pop.new.self.items c.in-Some.pass c.in_ok-index.ensures.made c.requires.one_pass c.in-Some.ensures.items).0;
}

pub returns-clause-start : goal.returns-clause-start
returns-clause-start c =
    ap (λ shape. state_at shape c.in-Some.pass) c.in_ok-index.ensures.made.made.of
    ∙ (starts_last c.args.shape c.in_ok-index.index c.in_ok-index.passes.items c.pop.new.self.items c.in-Some.pass c.in_ok-index.ensures.made c.requires.one_pass c.in-Some.ensures.items).1
