use Rattle.std.proofs.Common.{◌≡◌, ◌+◌, ◌-◌, ◌*◌, length}
use Rattle.segword.specs.Words.{row_width}
use Rattle.segcore.specs.Words.{row_after}
use Rattle.segbase.specs.Words.{trace}
use Rattle.segstore.specs.Calls.{TakesAtMost}
use Rattle.segstore.specs.Copying.{AreBytesOf}
use Rattle.segstore.specs.Reading.{ReadsRow}
use Rattle.segstore.proofs.copy.load_value.Given as goal

abbrev pub invariant-loop-number : goal.invariant-loop-number
invariant-loop-number l = record {
  long : length l.bytes ≡ length l.fn.bytes;
  reads : ReadsRow l.board l.fn.pass l.pass l.at.segment l.at.row;
  steps : TakesAtMost (row_width - l.word + row_width * l.number) l.fn.pass l.pass;
  found : AreBytesOf (row_after (trace l.pass) l.at.segment l.at.row).words l.from l.bytes (l.head + 8 * row_width * l.number);
}
