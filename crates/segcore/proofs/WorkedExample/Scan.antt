-- The example's scan: its key moves on before the word that has it is looked at, and is gone before the words after that are. So do the words that name its row.
use Rattle.std.proofs.Common.{◌≡◌, ◌≢◌, ℕ, ◌<◌, [], ◌∷◌, Option, Some, take, replicate, refl, sym, ◌∙◌, arith}
use Rattle.std.proofs.lemmas.Option.{same_Some}
use Rattle.segcore.specs.Mark.{marked, same_key, place}
use Rattle.segcore.specs.Scan.{IsNotAt, IsScan, IsScanOf}
use Rattle.segcore.specs.Example.{shape, a, stored, moved, evicted, looks}
use Rattle.segcore.proofs.Standing.{legal}
use Rattle.segcore.proofs.Marked.{placed}
use Rattle.segcore.proofs.Scans.{lost}
use Rattle.segcore.proofs.WorkedExample.Trace.{evicted_next}

-- ---- where a is

first_place : place shape (marked stored) a ≡ Some 7
unfolding same_key
first_place = refl

next_place : place shape (marked moved) a ≡ Some 9
unfolding same_key
next_place = refl

other : (o : Option ℕ) (n m : ℕ) → o ≡ Some n → n ≢ m → o ≢ Some m
other o n m is ne there = ne (same_Some n m (sym is ∙ there))

early : (n : ℕ) → n < 7 → place shape (marked stored) a ≢ Some n
early n lt = other _ 7 n first_place (λ is. absurd (omega (arith, is)))

moved_on : place shape (marked moved) a ≢ Some 7
moved_on = other _ 9 7 next_place (λ is. absurd (omega (arith, is)))

-- ---- a scan for it, or for a row that its item names

module _ (row : Option (ℕ × ℕ)) where
  gone : (n : ℕ) → IsNotAt shape a row (marked evicted) n
  gone n here is = absurd (here (lost shape a row (marked evicted) refl))

  -- the looks at the overflow bucket
  rest : IsScan shape a row 9 (marked moved) (replicate 7 (marked evicted)) (marked evicted)
  rest = (
    (take 12 (marked evicted), refl),
    gone 9,
    (
      ([], refl),
      gone 10,
      (
        ([], refl),
        gone 11,
        (
          ([], refl),
          gone 12,
          (([], refl), gone 13, (([], refl), gone 14, (([], refl), gone 15, refl, refl))),
        ),
      ),
    ),
  )

  scan : IsScan shape a row 1 (marked stored) (marked stored ∷ looks) (marked evicted)
  scan = (
    ([], refl),
    (λ here. early 1 (omega arith)),
    (
      ([], refl),
      (λ here. early 2 (omega arith)),
      (
        ([], refl),
        (λ here. early 3 (omega arith)),
        (
          ([], refl),
          (λ here. early 4 (omega arith)),
          (
            ([], refl),
            (λ here. early 5 (omega arith)),
            (
              ([], refl),
              (λ here. early 6 (omega arith)),
              ((take 5 (marked moved), refl), (λ here. moved_on), rest),
            ),
          ),
        ),
      ),
    ),
  )

  pub scanned : IsScanOf shape a row (marked stored) looks (marked evicted)
  scanned = record { scan = scan; legal = legal shape evicted evicted_next; placed = placed shape evicted evicted_next }
