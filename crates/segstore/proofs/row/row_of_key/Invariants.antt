use Rattle.std.proofs.Common.{◌≡◌, ℕ, suc, ◌<◌}
use Rattle.std.specs.Prelude.{slice_index}
use Rattle.segword.specs.KeyWords.{key_words}
use Rattle.segcore.specs.Words.{row_after}
use Rattle.segbase.specs.Words.{trace}
use Rattle.segstore.specs.Calls.{TakesAtMost}
use Rattle.segstore.specs.Reading.{ReadsRow}
use Rattle.segstore.proofs.row.row_of_key.Given as goal

abbrev pub invariant-loop-place : goal.invariant-loop-place
invariant-loop-place l = record {
  reads : ReadsRow l.board l.fn.pass l.pass l.at.segment l.at.row;
  steps : TakesAtMost l.place l.fn.pass l.pass;
  same : (k : ℕ) → suc k < l.place → slice_index (key_words l.key) (suc k) ≡ (row_after (trace l.pass) l.at.segment l.at.row).words (suc k);
}
