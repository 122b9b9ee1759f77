use Rattle.std.proofs.Common.{refl}
use Rattle.seghandles.specs.declared.kept.Kept.{Kept}
use Rattle.seghandles.specs.declared.status.Status.{Status}
use Rattle.std.proofs.Common.{Option}
use Rattle.seghandles.specs.Setting.{SetTimeToLive}
use Rattle.seghandles.proofs.Answering.{unanswered}
use Rattle.seghandles.proofs.settings.raw_set_time_to_live.Goals as goal

pub returns-in_default : goal.returns-in_default
returns-in_default c =
    unanswered (λ (b a : Option Kept) (returned : Status). SetTimeToLive c.args.seconds b a returned) _ _ _
    c.in_default.ensures.kept c.in_default.ensures.kept c.number.ensures (refl, refl)
