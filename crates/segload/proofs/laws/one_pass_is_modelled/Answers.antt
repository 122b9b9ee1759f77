use Rattle.segload.proofs.Modelled.{one_pass_is_modelled}
use Rattle.segload.proofs.laws.one_pass_is_modelled.Goals as goal

pub returns : goal.returns
returns c = one_pass_is_modelled c.one_pass_is_served.ensures.any_draw
