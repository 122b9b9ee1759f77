use Rattle.std.proofs.Common.{refl}
use Rattle.seghandles.specs.declared.kept.Kept.{Kept}
use Rattle.seghandles.specs.declared.status.Status.{Status}
use Rattle.std.proofs.Common.{Option}
use Rattle.seghandles.specs.Reading.{Got}
use Rattle.seghandles.proofs.Answering.{unanswered}
use Rattle.seghandles.proofs.reading.raw_get.Goals as goal

pub returns-in_default : goal.returns-in_default
returns-in_default c =
    unanswered (λ (b a : Option Kept) (returned : Status). Got c.args.key.now c.args.now b a (c.args.value.now, c.args.value_len.now) (c.args.value.now, c.args.value_len.now) returned) _ _ _
    c.in_default.ensures.kept c.in_default.ensures.kept c.number.ensures ((refl, refl), refl)
