use Rattle.std.proofs.Common.{Option, refl}
use Rattle.seghandles.specs.declared.kept.Kept.{Kept}
use Rattle.seghandles.specs.declared.status.Status.{Status}
use Rattle.seghandles.specs.Many.{LooksAhead}
use Rattle.seghandles.proofs.Answering.{unanswered}
use Rattle.seghandles.proofs.many.raw_look_ahead.Goals as goal

pub returns-in_default : goal.returns-in_default
returns-in_default c =
    unanswered (λ (b a : Option Kept) (returned : Status). LooksAhead b a returned) _ _ _
    c.in_default.ensures.kept c.in_default.ensures.kept c.number.ensures (refl, refl)
