use Rattle.std.proofs.Common.{subst, rules}
use Rattle.segreplay.specs.Playing.{CountsItems}
use Rattle.segreplay.proofs.run.count_all.Goals as goal

pub returns : goal.returns
returns g c = record {
  long = search rules;
  each = λ n p below.
      let one = (c.for_each_mut.ensures n p below).1 in
      subst (CountsItems _) one.left (subst (λ x. CountsItems x one.after_call.now) one.argument_is one.call);
}
