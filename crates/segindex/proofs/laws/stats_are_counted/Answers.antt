use Rattle.segindex.proofs.StatsLaws.{counts_drawn, counts_named, counts_no_more, counts_used, only_look}
use Rattle.segindex.proofs.laws.stats_are_counted.Goals as goal

pub returns : goal.returns
returns c = record { looks = only_look; drawn = counts_drawn; used = counts_used; named = counts_named; no_more = counts_no_more }
