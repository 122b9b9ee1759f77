use Rattle.std.proofs.Common.{◌≡◌, ℕ, ◌<◌, length, get_or, slice_index}
use Rattle.segword.specs.declared.spans.TheConstants.{ITEM_WORDS}
use Rattle.segword.specs.Row.{row_of}
use Rattle.segword.proofs.row.row_words.Given as goal

abbrev pub invariant-loop-place : goal.invariant-loop-place
invariant-loop-place l = record {
  len : length l.word-items ≡ ITEM_WORDS;
  made : (k : ℕ) → k < l.place → get_or l.word-items k 0 ≡ slice_index (row_of l.key l.value) k;
}
