use Rattle.std.proofs.Common.{refl}
use Rattle.seghandles.specs.declared.kept.Kept.{Kept}
use Rattle.seghandles.specs.declared.status.Status.{Status}
use Rattle.std.proofs.Common.{Option}
use Rattle.seghandles.specs.Noting.{Learned}
use Rattle.seghandles.proofs.Answering.{unanswered}
use Rattle.seghandles.proofs.notes.raw_learn.Goals as goal

pub returns-in_default : goal.returns-in_default
returns-in_default c =
    unanswered (λ (b a : Option Kept) (returned : Status). Learned b a c.args.note.now.value c.args.note.now.value returned) _ _ _
    c.in_default.ensures.taken c.take.ensures.none c.number.ensures ((refl, refl), refl)
