use Rattle.std.proofs.Common.{◌≡◌, ℕ, zero, suc, [], ◌∷◌, Some, slice_get, refl, sym, ap, subst, arith}
use Rattle.std.proofs.lemmas.Option.{same_Some, none-some}
use Rattle.segword.specs.Words.{Shape}
use Rattle.segbase.specs.Words.{Board, HasEach, number, Pass}
use Rattle.segstore.specs.Words.{IsQuiet}
use Rattle.segindex.specs.Words.{AreAllQuiet}
use Rattle.segtests_index.proofs.calls.lists_all.Goals as goal

-- two passes with the numbers 0 and 1 are all of an index that has two
are_all : (b : Board) (first second : Pass) → IsQuiet b first → IsQuiet b second → b.shape.passes ≡ 2 → number first ≡ 0 → number second ≡ 1 → AreAllQuiet b (second ∷ first ∷ [])
are_all b first second one other count f s = record { quiet = at; all = of }
  where
    at : (place : ℕ) (p : Pass) → slice_get (second ∷ first ∷ []) place ≡ Some p → IsQuiet b p
    at zero p is = subst (IsQuiet b) (same_Some second p is) other
    at (suc zero) p is = subst (IsQuiet b) (same_Some first p is) one
    at (suc (suc n)) p is = absurd (none-some p is)

    of : HasEach b.shape.passes (second ∷ first ∷ [])
    of zero below = (1, first, refl, f)
    of (suc zero) below = (0, second, refl, s)
    of (suc (suc n)) below = absurd (omega (arith, count, below))

pub close_all-requires : goal.close_all-requires
close_all-requires c =
    let b = c.args.index.board in let first = c.args.first in let second = c.args.second in
    let numbered = c.requires.0.pass.numbered in let numbered' = c.requires.1.pass.numbered in
    subst (AreAllQuiet b) (sym c.in-Ok.ensures)
    (are_all b first second c.requires.0 c.requires.1
    (omega (arith, ap (λ (z : Shape). z.passes) c.shape.ensures, c.if-shape-ne2.false))
    (omega (arith, numbered, c.number.ensures, c.if-number-ne0.false))
    (omega (arith, numbered', c.number-else-number-ne0.ensures, c.if-number-ne1.false)))
