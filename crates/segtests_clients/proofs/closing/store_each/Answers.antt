use Rattle.std.proofs.Common.{subst, rules}
use Rattle.segclient.specs.Client.{IsSame}
use Rattle.segclient.proofs.Together.{still_all}
use Rattle.segtests_clients.proofs.closing.store_each.Goals as goal

pub returns : goal.returns
returns g c =
    still_all c.args.index.now _ _ (search rules) (λ n client below.
    let one = (c.for_each_mut.ensures n client below).1 in
    subst (IsSame _) one.left (subst (λ x. IsSame x one.after_call.now) one.argument_is one.call)) c.requires
