use Rattle.std.proofs.Common.{Option, refl}
use Rattle.seghandles.specs.declared.kept.Kept.{Kept}
use Rattle.seghandles.specs.declared.status.Status.{Status}
use Rattle.seghandles.specs.Returning.{GivenBack}
use Rattle.seghandles.proofs.Answering.{unanswered}
use Rattle.seghandles.proofs.closing.raw_give_back.Goals as goal

pub returns-in_default : goal.returns-in_default
returns-in_default c =
    unanswered (λ (b a : Option Kept) (returned : Status). GivenBack b a c.args.client.now.value c.args.client.now.value returned) _ _ _
    c.in_default.ensures.taken c.take.ensures.none c.number.ensures (refl, refl, refl)
