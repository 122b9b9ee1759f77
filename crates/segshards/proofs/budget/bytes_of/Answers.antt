use Rattle.std.proofs.Common.{◌≡◌, ◌+◌, ◌*◌, ◌≤◌, arith, refl}
use Rattle.std.proofs.Math.Nat.{mul-le-mul_left}
use Rattle.segshards.specs.Budget.{clients_bytes}
use Rattle.segshards.proofs.Budgeted.{clients_fit}
use Rattle.segshards.proofs.budget.bytes_of.Goals as goal

pub overflow_mul-result-2 : goal.overflow_mul-result-2
overflow_mul-result-2 c =
    let shape = c.args.shape.now in
    let few = c.requires.few in
    let same : c.from-3.result * (c.from-2.result * (3 * c.from.result + c.from-bits.result + 64) + 4096)
    ≡ clients_bytes shape =
    rw c.from-3.ensures (rw c.from-2.ensures (rw c.from.ensures (rw c.from-bits.ensures (rw c.div_ceil.ensures refl)))) in
    let count = c.from-count.ensures in
    let kept : c.from-count.result * clients_bytes shape ≤ c.from-count.result * 2147483647 =
    mul-le-mul_left c.from-count.result (clients_fit shape c.requires.valid) in
    rw same (omega (arith, few, count, kept))

pub overflow_add-result-2 : goal.overflow_add-result-2
overflow_add-result-2 c =
    let shape = c.args.shape.now in
    let few = c.requires.few in
    let words = c.requires.valid.1 in
    let same : c.from-3.result * (c.from-2.result * (3 * c.from.result + c.from-bits.result + 64) + 4096)
    ≡ clients_bytes shape =
    rw c.from-3.ensures (rw c.from-2.ensures (rw c.from.ensures (rw c.from-bits.ensures (rw c.div_ceil.ensures refl)))) in
    let count = c.from-count.ensures in
    let bytes = c.bytes.ensures in
    let kept : c.from-count.result * clients_bytes shape ≤ c.from-count.result * 2147483647 =
    mul-le-mul_left c.from-count.result (clients_fit shape c.requires.valid) in
    let tables : (c.from-count.result + 1) * c.bytes.result ≤ (c.from-count.result + 1) * 536870912 =
    mul-le-mul_left (c.from-count.result + 1) (omega (arith, bytes, words)) in
    rw same (omega (arith, few, count, kept, tables))
