use Rattle.std.proofs.Common.{◌≡◌, ℕ, ◌+◌, ◌*◌, ◌/◌, ◌%◌, ◌^◌, ◌<◌, length, get_or}
use Rattle.segword.specs.Words.{row_width}
use Rattle.segcore.specs.Words.{row_after}
use Rattle.segbase.specs.Words.{trace}
use Rattle.segstore.specs.Calls.{TakesAtMost}
use Rattle.segstore.specs.Reading.{ReadsRow}
use Rattle.segstore.proofs.copy.load_part.Given as goal

abbrev pub invariant-loop-place : goal.invariant-loop-place
invariant-loop-place l = record {
  long : length l.bytes ≡ length l.fn.bytes;
  reads : ReadsRow l.board l.fn.pass l.pass l.fn.at.segment l.fn.at.row;
  steps : TakesAtMost l.place l.fn.pass l.pass;
  found : (k : ℕ) → k < l.place → (i : ℕ) → i < 8 → 8 * k + i < length l.bytes
      → get_or l.bytes (8 * k + i) 0 ≡ (row_after (trace l.pass) l.fn.at.segment l.fn.at.row).words (row_width * l.fn.from.behind + l.fn.from.word + k) / 2 ^ (8 * i) % 256;
}
