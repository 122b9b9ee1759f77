use Rattle.segindex.proofs.Answered.{effect, entries, kind, leaves, on, refused}
use Rattle.segindex.proofs.laws.commands_are_answered.Goals as goal

pub returns : goal.returns
returns c = record {
  kind = kind;
  on = on;
  effect = effect;
  entries = entries;
  leaves = leaves;
  refused = refused;
}
