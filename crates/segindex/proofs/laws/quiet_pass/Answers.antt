use Rattle.segbase.specs.Words.{trace}
use Rattle.segcore.proofs.Marked.{entries_marked}
use Rattle.segcore.proofs.Standing.{legal}
use Rattle.segstore.proofs.Keeping.{in_table}
use Rattle.segindex.proofs.FirstRows.{items_within, linked_if_used}
use Rattle.segindex.proofs.QuietPass.{owned, rows, none_since, keys_few, chained_few}
use Rattle.segindex.proofs.laws.quiet_pass.Goals as goal

pub returns : goal.returns
returns c = record {
  legal = λ b p quiet. legal b.shape (trace p) quiet.pass.lawful;
  unmarked = λ b p quiet. entries_marked (trace p);
  owned = λ b p quiet segment. owned b p segment quiet;
  in_table = λ b p quiet segment is. in_table b p segment quiet.pass ((owned b p segment quiet).0 is);
  rows = λ b p quiet segment used row. rows b p segment used row quiet;
  within = λ b p quiet segment row. items_within b p segment row quiet;
  short = λ b p quiet one segment used row. linked_if_used b p segment used quiet one row;
  current = λ b p quiet. quiet.segments.in_use;
  deadlines = λ b p quiet. quiet.segments.deadlines;
  unused = λ b p quiet. quiet.segments.unused;
  locked = λ b p quiet lock. none_since b p lock quiet;
  few_keys = λ b p quiet bucket. keys_few b.shape bucket (trace p) quiet.pass.lawful;
  few_chained = λ b p quiet bucket. chained_few b.shape bucket (trace p) quiet.pass.lawful;
}
