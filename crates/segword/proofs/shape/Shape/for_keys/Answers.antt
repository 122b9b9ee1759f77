use Rattle.std.proofs.Common.{◌+◌, ◌*◌, ◌≤◌, refl, arith, rules}
use Rattle.std.specs.Int.{IsInRange}
use Rattle.segword.specs.declared.row.TheConstants.{ROW_WORDS}
use Rattle.segword.proofs.SizeLemmas.{has_room, is_valid}
use Rattle.segword.proofs.shape.Shape.for_keys.Goals as goal

pub returns-clause-ok : goal.returns-clause-ok
returns-clause-ok c =
    let in_range : IsInRange 1 64 c.args.passes = search rules in
    let few : c.args.keys ≤ 425984 = omega (arith, c.if-keys-gt-MOST_KEYS.false) in
    let fit : ROW_WORDS * (2 * c.args.keys + 13440) ≤ 64000000 = omega (arith, c.if-keys-gt-MOST_KEYS.false) in
    rw (c.min-buckets.ensures) (
      is_valid c.args.keys c.args.passes c.next_power_of_two.result c.max-rows_each.result c.max-segments_each.result c.div_ceil-4.result few fit in_range
          c.next_power_of_two.ensures.power (rw c.div_ceil.ensures at c.next_power_of_two.ensures.lower_bound) (rw c.div_ceil.ensures at c.next_power_of_two.ensures.upper_bound)
          (rw c.div_ceil-2.ensures at c.max-rows_each.ensures) (rw c.div_ceil-3.ensures at c.max-segments_each.ensures) c.div_ceil-4.ensures,
      refl,
      has_room c.args.keys c.args.passes c.next_power_of_two.result c.max-rows_each.result c.max-segments_each.result c.div_ceil-4.result few fit in_range
          c.next_power_of_two.ensures.power (rw c.div_ceil.ensures at c.next_power_of_two.ensures.lower_bound) (rw c.div_ceil.ensures at c.next_power_of_two.ensures.upper_bound)
          (rw c.div_ceil-2.ensures at c.max-rows_each.ensures) (rw c.div_ceil-3.ensures at c.max-segments_each.ensures) c.div_ceil-4.ensures,
    )
