use Rattle.std.proofs.Common.{ℕ, List, sym, subst, arith}
use Rattle.std.proofs.lemmas.Grind.{common_steps}
use Rattle.std.proofs.lemmas.Nat.{and_mask}
use Rattle.std.specs.Prelude.{slice_index, ◌/◌}
use Rattle.segword.specs.RowLayout.{IsZeroFrom, key_length, value_length}
use Rattle.segword.proofs.row.is_row.Goals.{then-has_lengths, else-has_lengths}
use Rattle.segword.proofs.row.is_row.Goals as goal

pub returns-then-is_zero_from : goal.returns-then-is_zero_from
returns-then-is_zero_from c =
    let header : ℕ = slice_index c.args.words.now 0 in
    let key = and_mask header 8 in
    let value = and_mask (header / 256) 16 in
    let rest = c.is_zero_from-then-is_zero_from.ensures in
    elim c.if-has_lengths.branch [
      | then-has_lengths w ↦
          let lengths = c.has_lengths.ensures.0 (grind (arith, common_steps)) in
          let first = w.is_zero_from.ensures.0 (grind (arith, common_steps)) in (
            λ t. record {
              key_not_empty = lengths.0.0;
              key_fits = lengths.0.1;
              value_fits = lengths.1;
              no_other_header_bit = lengths.2;
              nothing_past_key = subst (λ (ws : List ℕ). IsZeroFrom ws (key_length header)) w.key_part.ensures
                  (subst (IsZeroFrom w.key_part.result.now) key first);
              nothing_past_value = subst (λ (ws : List ℕ). IsZeroFrom ws (value_length header)) c.value_part.ensures
                  (subst (IsZeroFrom c.value_part.result.now) value (rest.0 t));
            },
            λ row. rest.1 (subst (IsZeroFrom c.value_part.result.now) (sym value)
                (subst (λ (ws : List ℕ). IsZeroFrom ws (value_length header)) (sym c.value_part.ensures)
                row.nothing_past_value)),
          )
      | else-has_lengths w ↦ absurd (grind (arith, common_steps))
    ]

pub returns-else-is_zero_from : goal.returns-else-is_zero_from
returns-else-is_zero_from c =
    let header = slice_index c.args.words.now 0 in
    let key = and_mask header 8 in
    let value = and_mask (header / 256) 16 in
    grind (arith, common_steps)
