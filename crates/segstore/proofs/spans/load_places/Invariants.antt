use Rattle.std.proofs.Common.{◌≡◌, ℕ, ◌+◌, ◌-◌, ◌<◌, ◌≤◌, length, get_or}
use Rattle.segcore.specs.Words.{row_after}
use Rattle.segbase.specs.Words.{trace}
use Rattle.segstore.specs.Calls.{TakesAtMost}
use Rattle.segstore.specs.Reading.{ReadsRow}
use Rattle.segstore.proofs.spans.load_places.Given as goal

abbrev pub invariant-loop-place : goal.invariant-loop-place
invariant-loop-place g l = record {
  long : length l.words ≡ g.row.N;
  reads : ReadsRow l.board l.fn.pass l.pass l.at.segment l.at.row;
  steps : TakesAtMost (l.place - l.first) l.fn.pass l.pass;
  loaded : (k : ℕ) → l.first ≤ k → k < l.place → get_or l.words k 0 ≡ (row_after (trace l.pass) l.at.segment l.at.row).words (l.from + k);
  before : (k : ℕ) → k < l.first → get_or l.words k 0 ≡ get_or l.fn.words k 0;
  behind : (k : ℕ) → l.place ≤ k → get_or l.words k 0 ≡ get_or l.fn.words k 0;
}
