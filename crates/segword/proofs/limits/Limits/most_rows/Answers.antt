use Rattle.segword.proofs.Longest.{spans_few}
use Rattle.segword.proofs.limits.Limits.most_rows.Goals as goal

pub returns-clause-few : goal.returns-clause-few
returns-clause-few c = spans_few
