use Rattle.std.proofs.Common.{◌≡◌, ℕ, zero, suc, ◌+◌, ◌-◌, ◌*◌, ◌/◌, ◌%◌, ◌<◌, ◌≤◌, Bool, true, false, cond, get_or, min, nat_lt, replicate, refl, ap, ◌∙◌, arith, below_more, length-set, get_or-set_other, get_or-set_same}
use Rattle.std.proofs.lemmas.Bool.{ltb-false, ltb-true}
use Rattle.std.proofs.lemmas.List.{length-replicate}
use Rattle.segword.specs.Words.{item_width, place_behind, row_behind, row_width, span_of_header}
use Rattle.segcore.specs.declared.cell.Cell.TheVariants.{OfRow}
use Rattle.segbase.specs.declared.closing.Words.{Words}
use Rattle.segbase.specs.Closing.{rows_there, word_of_cell, word_on}
use Rattle.segbase.proofs.closing.Words.row.Goals as goal

zeros : (count place : ℕ) → ◌≡◌ {A = ℕ} (get_or (replicate {A = ℕ} count 0) place 0) 0
zeros zero zero = refl
zeros zero (suc place) = refl
zeros (suc count) zero = refl
zeros (suc count) (suc place) = zeros count place

-- a place of an item is in the row that lies as many rows behind as it has rows before
at_place : (words : Words) (segment row place : ℕ) → place < item_width
    → word_of_cell words (OfRow segment (row + place / row_width) (place % row_width)) ≡ word_of_cell words (OfRow segment (row_behind row place) (place_behind place))
at_place words segment row place inside =
    let at : row + place / row_width ≡ row_behind row place = omega (arith, inside) in
    let within : place % row_width ≡ place_behind place = omega (arith, inside) in
    λ i. word_of_cell words (OfRow segment (at i) (within i))

-- the word that was loaded is the one that is there
module _ (words : Words) (segment row at place found : ℕ) (end : at ≡ min item_width (row_width * rows_there words segment row))
    (inside : place < item_width) (before : place < at → found ≡ word_of_cell words (OfRow segment (row_behind row place) (place_behind place))) (behind : at ≤ place → found ≡ 0) where
  abbrev row_word : ℕ
  row_word = word_of_cell words (OfRow segment (row_behind row place) (place_behind place))

  is_word : found ≡ word_on words segment row place
  is_word = of (nat_lt place (row_width * rows_there words segment row)) refl
    where
      of : (here : Bool) → nat_lt place (row_width * rows_there words segment row) ≡ here → found ≡ cond here row_word 0
      of true is = let low = ltb-true place (row_width * rows_there words segment row) is in before (omega (arith, low, inside, end))
      of false is = let high = ltb-false place (row_width * rows_there words segment row) is in behind (omega (arith, high, end))

pub loop-at-init : goal.loop-at-init
loop-at-init c = record {
  end =
      let header = c.span_of_header.ensures.rows ∙ ap span_of_header c.word-header.ensures in
      let rows : c.min-rows.result ≡ rows_there c.args.self.now c.args.segment c.args.row = c.min-rows.ensures ∙ (λ i. min (header i) (c.args.self.now.shape.rows - c.args.row)) in
      c.min-at-end.ensures ∙ (λ i. min item_width (row_width * rows i));
  long = length-replicate {A = ℕ} item_width 0;
  found = λ k lt. absurd (omega (arith, lt));
  behind = λ k le. zeros item_width k;
}

pub loop-at-preserved : goal.loop-at-preserved
loop-at-preserved c =
    let words = c.loop-at.words in let i = c.loop-at.at in let inv = c.loop-at.invariant in
    let long = inv.long in let below = c.loop-at-test.true in let end = inv.end in let inside : i < item_width = omega (arith, below, end) in
    record {
      end = inv.end;
      long = length-set words i c.word.result ∙ inv.long;
      found = below_more _ _
          (λ k lt. get_or-set_other words i k c.word.result 0 (λ e. omega arith) ∙ inv.found k lt)
          (get_or-set_same words i c.word.result 0 (omega arith) ∙ c.word.ensures ∙ at_place c.args.self.now c.args.segment c.args.row i inside);
      behind = λ k le. get_or-set_other words i k c.word.result 0 (λ e. omega (arith, le, e)) ∙ inv.behind k (omega (arith, le));
    }

pub returns : goal.returns
returns c = λ place inside.
    let inv = c.loop-at.invariant in let over = c.loop-at-test.false in let end = inv.end in
    is_word c.args.self.now c.args.segment c.args.row c.loop-at.at place (get_or c.loop-at.words place 0) (omega (arith, over, end)) inside
    (inv.found place) (inv.behind place)
