use Rattle.std.proofs.Common.{◌≡◌, ◌∙◌, ℕ, Option, Some, None, max, refl, sym, ap, arith}
use Rattle.std.specs.Prelude.{MatchOption}
use Rattle.std.specs.Option.{unwrap_or}
use Rattle.std.specs.Int.NonZero.{non_zero_u32_get}
use Rattle.std.specs.declared.num.NonZeroU32.{NonZeroU32}
use Rattle.clap.specs.Words.{found_of}
use Rattle.segtasks.specs.CommandLine.{keys_option}
use Rattle.segtasks.proofs.Options.{option_read}
use Rattle.segtasks.proofs.arguments.keys_of.Goals as goal

-- a number that was made one that isn't 0, by putting 1 for 0
at_least_one : (n : ℕ) (r : Option NonZeroU32) (one : NonZeroU32) {x : NonZeroU32}
    → MatchOption r (n ≡ 0) (λ y. non_zero_u32_get y ≡ n) → non_zero_u32_get one ≡ 1 → x ≡ unwrap_or r one
    → non_zero_u32_get x ≡ max 1 n
at_least_one n None one zero is e = ap non_zero_u32_get e ∙ (is ∙ ap (max 1) (sym zero))
at_least_one n (Some y) one same is e = let some = y.ok in omega (arith, ap non_zero_u32_get e, same, some)

pub returns : goal.returns
returns c =
    let read = option_read keys_option (found_of c.args.matches.now) c.get_one.ensures.none c.get_one.ensures.value c.unwrap_or.ensures in
    at_least_one c.unwrap_or.result c.new.result _ c.new.ensures refl c.unwrap_or-2.ensures ∙ ap (max 1) read
