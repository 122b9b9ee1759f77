-- What is told of a copy of a value.
use Rattle.std.proofs.Common.{◌≡◌, ℕ, List, length, Result, Ok, Err, ap, ◌∙◌}
use Rattle.segmodel.specs.declared.answer.GetAnswer.TheVariants as get
use Rattle.segmodel.specs.declared.answer.GetsAnswer.TheVariants as gets
use Rattle.segstore.specs.Words.{CopiesValue}
use Rattle.segread.specs.Into.{CopiesGet, CopiesGets, told_of, told_with}
use Rattle.segread.specs.Words.{GetsIntoAnswer, IntoAnswer}

pub copies_told : (value old new : List ℕ) (copied : Result ℕ ℕ) (told : IntoAnswer) → told ≡ told_of copied
    → CopiesValue value (copied ≡ Ok (length value)) (copied ≡ Err (length value)) old new → CopiesGet (get.Found value) told old new
copies_told value old new copied told is x = record {
  fits = λ fits. (is ∙ ap told_of (x.fits fits).0, (x.fits fits).1);
  short = λ short. (is ∙ ap told_of (x.short short).0, (x.short short).1);
}

pub copies_told_with : (value old new : List ℕ) (version : ℕ) (copied : Result ℕ ℕ) (told : GetsIntoAnswer) → told ≡ told_with version copied
    → CopiesValue value (copied ≡ Ok (length value)) (copied ≡ Err (length value)) old new → CopiesGets (gets.Found value version) told old new
copies_told_with value old new version copied told is x = record {
  fits = λ fits. (is ∙ ap (told_with version) (x.fits fits).0, (x.fits fits).1);
  short = λ short. (is ∙ ap (told_with version) (x.short short).0, (x.short short).1);
}
