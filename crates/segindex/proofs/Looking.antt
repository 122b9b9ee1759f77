-- Looks ahead, one key after another.
use Rattle.std.proofs.Common.{◌+◌, ◌≤◌, ℕ, arith}
use Rattle.segbase.specs.Ahead.{LooksOnce}
use Rattle.segbase.specs.Words.{Board, IsPassOf, Pass}
use Rattle.segstore.specs.Words.{Idles, IsQuiet, TakesAtMost}
use Rattle.segstore.proofs.Looks.{one_step}
use Rattle.segstore.proofs.Refills.{idles}
use Rattle.segwrite.proofs.Places.{idles_then, step_idles}
use Rattle.segindex.specs.Ahead.{LooksAhead}
use Rattle.segindex.proofs.Meeting.{only_learns}

-- it was looked ahead for so many keys
pub record Looked (b : Board) (count : ℕ) (p q : Pass) : Type 0 where
  pub idles : Idles b p q
  pub steps : TakesAtMost count p q

pub looked_none : (b : Board) (p : Pass) → IsPassOf b p → Looked b 0 p p
looked_none b p is = record { idles = idles b p is; steps = omega arith }

pub looked_more : (b : Board) (count : ℕ) (p q r : Pass) → Looked b count p q → LooksOnce b q r → Looked b (count + 1) p r
looked_more b count p q r l one = record {
  idles = idles_then b p q r l.idles (step_idles b _ one.step.0 q r one.step.1 one.did);
  steps = (let before = l.steps in let step = one_step b q r _ one.step.0 one.step.1 in omega (arith, before, step));
}

pub looks_ahead : (b : Board) (most count : ℕ) (p q : Pass) → IsQuiet b p → count ≤ most → Looked b count p q → LooksAhead most b p q
looks_ahead b most count p q quiet few l = record {
  only = only_learns b p q quiet l.idles.moved l.idles.plain l.idles.memo;
  steps = (let steps = l.steps in omega (arith, few, steps));
}
