-- A word in hexadecimal digits, read by std's `from_str_radix`.
use Rattle.std.proofs.Common.{◌≡◌, ◌≢◌, ℕ, ◌<◌, ◌^◌, List, slice_index, Result, Some, arith, ap}
use Rattle.std.specs.Str.Parse.{ParsesUnsigned, digits_value, without_leading_plus}
use Rattle.std.specs.Result.{result_ok}
use Rattle.std.proofs.lemmas.Result.{Ok-from_Ok_iff}
use Rattle.std.proofs.lemmas.Int.Digits.{digits_value-lt}
use Rattle.segcli.specs.Explained.{IsHexWord}

-- a text with no plus in front is read whole
plain-whole : (bs : List ℕ) → slice_index bs 0 ≢ 43 → without_leading_plus bs ≡ bs
plain-whole bs plain = grind arith

-- 16 digits write a word, so they are read as it
pub read_hex : {E : Type 0} (bs : List ℕ) (r : Result ℕ E) → slice_index bs 0 ≢ 43 → ParsesUnsigned 64 16 bs r → IsHexWord bs → result_ok r ≡ Some (digits_value 16 bs)
read_hex bs r plain h word =
    let small : digits_value 16 bs < 16 ^ 16 = rw word.0 at (digits_value-lt 16 bs word.1) in
    let read = Ok-from_Ok_iff r _ _ (rw (plain-whole bs plain) at h) ((omega (arith, word.0), word.1), small) in
    ap result_ok read
