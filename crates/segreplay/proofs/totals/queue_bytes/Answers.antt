use Rattle.std.proofs.Common.{◌≡◌, ◌+◌, ◌*◌, ◌≤◌, arith, refl}
use Rattle.std.specs.Int.{div_ceil}
use Rattle.std.proofs.Math.Nat.{mul-le-mul_left}
use Rattle.std.proofs.lemmas.Grind.{div_ceil_times}
use Rattle.segword.specs.declared.row.TheConstants.{ROW_WORDS}
use Rattle.segreplay.proofs.totals.queue_bytes.Goals as goal

pub returns-in-Default-clause-few : goal.returns-in-Default-clause-few
returns-in-Default-clause-few c =
    let shape = c.args.cache.shape in
    let words = c.requires.1 in
    let some = c.requires.0.1 in
    let segments = shape.passes * shape.segments_each in
    let times = div_ceil_times shape.rows 8 (omega arith) in
    let less : div_ceil shape.rows 8 ≤ shape.rows = omega (arith, times.1, some.0) in
    let bits : segments * div_ceil shape.rows 8 ≤ segments * shape.rows = mul-le-mul_left segments less in
    let one : segments * 1 ≤ segments * shape.rows = mul-le-mul_left segments some.0 in
    let spread : segments * (1 + ROW_WORDS * shape.rows) ≡ segments + ROW_WORDS * (segments * shape.rows) =
    omega arith in
    let whole : c.from.result * c.from-in-Default.result
    ≡ segments * (44 + 3 * shape.rows + div_ceil shape.rows 8) =
    rw c.from.ensures (rw c.from-in-Default.ensures (rw c.div_ceil.ensures refl)) in
    let parts : segments * (44 + 3 * shape.rows + div_ceil shape.rows 8)
    ≡ 44 * segments + 3 * (segments * shape.rows) + segments * div_ceil shape.rows 8 = omega arith in
    omega (arith, words, one, bits, spread, whole, parts)
