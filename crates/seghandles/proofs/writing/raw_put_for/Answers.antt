use Rattle.std.proofs.Common.{refl}
use Rattle.seghandles.specs.declared.kept.Kept.{Kept}
use Rattle.seghandles.specs.declared.status.Status.{Status}
use Rattle.std.proofs.Common.{Option}
use Rattle.seghandles.specs.Writing.{PutFor}
use Rattle.seghandles.proofs.Answering.{unanswered}
use Rattle.seghandles.proofs.writing.raw_put_for.Goals as goal

pub returns-in_default : goal.returns-in_default
returns-in_default c =
    let Does = λ (b a : Option Kept) (returned : Status).
    PutFor c.args.seconds c.args.key.now c.args.value.now c.args.now b a returned in
    unanswered Does _ _ _ c.in_default.ensures.kept c.in_default.ensures.kept c.number.ensures (refl, refl)
