use Rattle.std.proofs.Common.{◌≡◌, ℕ, ◌*◌, ◌<◌}
use Rattle.std.specs.Prelude.{slice_index}
use Rattle.segword.specs.Words.{place_behind, row_behind, row_of}
use Rattle.segcore.specs.Words.{row_alone}
use Rattle.segbase.specs.Words.{sight, trace}
use Rattle.segstore.specs.Calls.{TakesAtMost}
use Rattle.segstore.specs.Rows.{FillsRow}
use Rattle.segstore.proofs.write.store_item.Given as goal

abbrev pub invariant-loop-place : goal.invariant-loop-place
invariant-loop-place l = record {
  moved : FillsRow l.board l.at.segment l.at.row l.key l.value l.fn.pass l.pass;
  steps : TakesAtMost (2 * l.place) l.fn.pass l.pass;
  holds : (j : ℕ) → j < l.place → (row_alone (trace l.pass) l.at.segment (row_behind l.at.row j)).words (place_behind j) ≡ slice_index (row_of l.key l.value) j;
  plain : l.pass.plain ≡ l.fn.pass.plain;
  memo : (sight l.pass).memo ≡ (sight l.fn.pass).memo;
}

abbrev pub invariant-loop-place-2 : goal.invariant-loop-place-2
invariant-loop-place-2 l = record {
  moved : FillsRow l.board l.at.segment l.at.row l.key l.value l.fn.pass l.pass;
  steps : TakesAtMost (2 * l.place) l.fn.pass l.pass;
  holds : (j : ℕ) → j < l.place → (row_alone (trace l.pass) l.at.segment (row_behind l.at.row j)).words (place_behind j) ≡ slice_index (row_of l.key l.value) j;
  plain : l.pass.plain ≡ l.fn.pass.plain;
  memo : (sight l.pass).memo ≡ (sight l.fn.pass).memo;
}
