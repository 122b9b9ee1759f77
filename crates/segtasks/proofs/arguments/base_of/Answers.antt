use Rattle.std.proofs.Common.{◌≡◌, ◌∙◌, ℕ, Option, Some, None, refl, sym, subst}
use Rattle.segword.specs.Words.{Shape}
use Rattle.clap.specs.Words.{found_of}
use Rattle.segtasks.specs.CommandLine.{default_shape, for_keys_option}
use Rattle.segtasks.specs.Asked.{IsBase, IsSized}
use Rattle.segtasks.proofs.Options.{option_found}
use Rattle.segtasks.proofs.arguments.base_of.Goals as goal

sized_base : (number : Option ℕ) (keys passes : ℕ) (shape : Shape) → number ≡ Some keys → IsSized keys passes shape → IsBase number passes shape
sized_base number keys passes shape is sized = subst (λ o. IsBase o passes shape) (sym is) sized

default_base : (number : Option ℕ) (given : ℕ) → number ≡ None → IsBase number given default_shape
default_base number given is = subst (λ o. IsBase o given default_shape) (sym is) refl

pub returns-in-Some : goal.returns-in-Some
returns-in-Some c =
    let read = option_found for_keys_option (found_of c.args.matches.now) c.get_one.ensures.none c.get_one.ensures.value in
    sized_base _ c.in-Some.keys c.args.passes c.sized.result (sym read ∙ c.in-Some.is) c.sized.ensures

pub returns-in-None : goal.returns-in-None
returns-in-None c =
    let read = option_found for_keys_option (found_of c.args.matches.now) c.get_one.ensures.none c.get_one.ensures.value in
    default_base _ _ (sym read ∙ c.in-None.is)
