use Rattle.std.proofs.Common.{◌∙◌, ap}
use Rattle.segclient.specs.Counting.{with_more}
use Rattle.segreplay.proofs.reading.TracePosition.end_line.Goals as goal

pub returns : goal.returns
returns c =
    let took = c.in_default.ensures in
    (took.0, took.1, took.2, took.3, took.4, c.clear.ensures, c.saturating_add-self.ensures ∙ ap (λ n. with_more n 1) took.5, took.6)
