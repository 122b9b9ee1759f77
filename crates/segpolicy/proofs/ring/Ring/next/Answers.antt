use Rattle.std.proofs.Common.{◌+◌, ◌<◌, refl, arith}
use Rattle.std.proofs.Math.Nat.{mod-eq_of_lt}
use Rattle.segpolicy.proofs.ring.Ring.next.Goals as goal

pub returns-else-self-clause-turned : goal.returns-else-self-clause-turned
returns-else-self-clause-turned c =
    let inside : c.self.inside.given + 1 < c.self.inside.count = omega arith in
    rw (← c.self.view_is, mod-eq_of_lt inside) refl
