use Rattle.std.proofs.Common.{◌≡◌, ℕ, ◌*◌, ◌<◌, ◌≤◌, length, get_or, min}
use Rattle.segword.specs.Words.{item_width, place_behind, row_behind, row_width}
use Rattle.segcore.specs.declared.cell.Cell.TheVariants.{OfRow}
use Rattle.segbase.specs.Closing.{rows_there, word_of_cell}
use Rattle.segbase.proofs.closing.Words.row.Given as goal

-- so many words of an item of several rows, and 0 behind them
abbrev pub invariant-loop-at : goal.invariant-loop-at
invariant-loop-at l = record {
  end : l.at-end ≡ min item_width (row_width * rows_there l.self l.segment l.row);
  long : length l.words ≡ item_width;
  found : (k : ℕ) → k < l.at → get_or l.words k 0 ≡ word_of_cell l.self (OfRow l.segment (row_behind l.row k) (place_behind k));
  behind : (k : ℕ) → l.at ≤ k → get_or l.words k 0 ≡ 0;
}
