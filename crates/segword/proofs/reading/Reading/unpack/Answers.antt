use Rattle.std.proofs.Common.{Some, ap, sym, ◌∙◌}
use Rattle.segword.proofs.ReadingLemmas.{item_reading}
use Rattle.segword.proofs.reading.Reading.unpack.Goals as goal

pub returns-in-Some-clause-packed : goal.returns-in-Some-clause-packed
returns-in-Some-clause-packed c = λ reading h e. ap Some (item_reading c.in-Some.item reading h (e ∙ sym c.in-Some.ensures.some))
