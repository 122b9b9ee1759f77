use Rattle.segindex.proofs.Effects.{of_delete, of_get, of_gets, of_hold, of_write}
use Rattle.segindex.proofs.laws.calls_have_an_effect.Goals as goal

pub returns : goal.returns
returns c = record { get = of_get; gets = of_gets; hold = of_hold; write = of_write; delete = of_delete }
