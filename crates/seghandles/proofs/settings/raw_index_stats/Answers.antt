use Rattle.std.proofs.Common.{refl}
use Rattle.seghandles.specs.declared.kept.Kept.{Kept}
use Rattle.seghandles.specs.declared.status.Status.{Status}
use Rattle.std.proofs.Common.{Option}
use Rattle.seghandles.specs.Setting.{CountedTable}
use Rattle.seghandles.proofs.Answering.{unanswered}
use Rattle.seghandles.proofs.settings.raw_index_stats.Goals as goal

pub returns-in_default : goal.returns-in_default
returns-in_default c =
    unanswered (λ (b a : Option Kept) (returned : Status). CountedTable b a c.args.counts.now c.args.counts.now returned) _ _ _
    c.in_default.ensures.kept c.in_default.ensures.kept c.number.ensures ((refl, refl), refl)
