use Rattle.std.proofs.Common.{◌≡◌, ◌+◌, ◌-◌, ◌*◌, ◌/◌, ◌≤◌}
use Rattle.segword.specs.Words.{head_width}
use Rattle.segbase.specs.Words.{position, trace}
use Rattle.segstore.specs.Words.{step_count}
use Rattle.segwrite.proofs.Searching.{Searching}
use Rattle.segwrite.proofs.find.search.Given as goal

abbrev pub invariant-loop-word-2 : goal.invariant-loop-word-2
invariant-loop-word-2 l = record {
  searching : Searching l.board l.sought.key l.fn.pass l.pass (record { bucket = l.bucket; word = l.word }) l.empty;
  deep : l.buckets ≡ position l.board.shape (trace l.pass) (record { bucket = l.bucket; word = l.word }) / 8 + 1;
  steps : step_count l.pass + 8 * (1 + head_width) ≤ step_count l.fn.pass + 7 * (1 + head_width) * l.buckets
      + (1 + head_width) * l.word;
}

abbrev pub invariant-loop-word : goal.invariant-loop-word
invariant-loop-word l = record {
  searching : Searching l.board l.sought.key l.fn.pass l.pass (record { bucket = l.bucket; word = 1 }) l.empty;
  deep : l.buckets ≡ position l.board.shape (trace l.pass) (record { bucket = l.bucket; word = 1 }) / 8 + 1;
  steps : step_count l.pass + 7 * (1 + head_width) ≤ step_count l.fn.pass + 7 * (1 + head_width) * l.buckets;
}

abbrev pub decreases-loop-word : goal.decreases-loop-word
decreases-loop-word l = 5 - l.buckets
