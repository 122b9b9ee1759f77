-- The number of an option, as a getter of matches reads it.
use Rattle.std.proofs.Common.{◌≡◌, ◌∙◌, ◌^◌, ◌&&◌, ℕ, Bool, true, false, List, [], ◌∷◌, length, Option, Some, None, Result, ap, refl, sym, nat_lt, lt-ltb, ltb-true}
use Rattle.std.specs.List.{list_all}
use Rattle.std.specs.Option.{unwrap_or, option_map, option_map_or}
use Rattle.std.specs.declared.num.ParseIntError.{ParseIntError}
use Rattle.std.specs.declared.str.ParseBoolError.{ParseBoolError}
use Rattle.std.specs.Borrow.{Bor}
use Rattle.std.specs.Char.{digit_value}
use Rattle.std.specs.Str.{bytes_eq}
use Rattle.std.specs.Str.Parse.{AllDigits, ExplainsUnsignedError, HasUnsignedDigitsIfOk, ParsesBool, ParsesUnsigned, digits_value, true_text, without_leading_plus}
use Rattle.std.proofs.lemmas.Slice.Eq.{bytes_eq-Decides}
use Rattle.clap.specs.Matches.{ReadsOne, first_value, one_text}
use Rattle.clap.specs.Walk.{first_of, rows_of}
use Rattle.clap.specs.declared.parser.matches.Found.{Found}
use Rattle.clap.specs.ValueTests.{is_numeral}
use Rattle.clap.proofs.WalkLemmas.{both, first_value-rows, one_text-rows}
use Rattle.segtasks.specs.CommandLine.{NumberOption}
use Rattle.segtasks.specs.Asked.{number_in, number_found, number_over, number_given, is_given}

digits_pass : (ds : List ℕ) → AllDigits 10 ds → list_all (λ d. nat_lt (digit_value d) 10) ds ≡ true
digits_pass [] h = refl
digits_pass (d ∷ ds) h = rw (lt-ltb (digit_value d) 10 h.0) (digits_pass ds h.1)

digits_from : (ds : List ℕ) → list_all (λ d. nat_lt (digit_value d) 10) ds ≡ true → AllDigits 10 ds
digits_from [] e = tt
digits_from (d ∷ ds) e =
    let parts = both _ _ e in
    (ltb-true _ _ parts.0, digits_from ds parts.1)

abbrev fits : ℕ → List ℕ → Bool
fits bits digits = is_numeral digits && nat_lt (digits_value 10 digits) (2 ^ bits)

-- what `parse` gives at a type of so many bits
abbrev pub Gives : ℕ → List ℕ → Result ℕ ParseIntError → Type 0
Gives bits text r = ParsesUnsigned bits 10 text r × ExplainsUnsignedError 10 text r × HasUnsignedDigitsIfOk text r

-- a text that is no such number
other_number : (bits : ℕ) (text : List ℕ) (b : Bool) → fits bits (without_leading_plus text) ≡ b → (b ≡ true → ⊥) → None ≡ number_in bits text
other_number bits text false is unfit = rw is refl
other_number bits text true is unfit = absurd (unfit refl)

read_number : (bits : ℕ) (text : List ℕ) (r : Option ℕ) → ReadsOne (Gives bits) text r → r ≡ number_in bits text
read_number bits text (Some n) read =
    let ds : List ℕ = without_leading_plus text in
    rw (lt-ltb 0 (length ds) read.0.0.0.0, digits_pass ds read.0.0.0.1, lt-ltb (digits_value 10 ds) (2 ^ bits) read.0.0.1) (ap Some read.0.1)
read_number bits text None read =
    let ds : List ℕ = without_leading_plus text in
    other_number bits text (fits bits ds) refl (λ all.
    let outer = both _ _ all in
    let inner = both _ _ outer.0 in
    read.1.0 ((ltb-true _ _ inner.0, digits_from ds inner.1), ltb-true _ _ outer.1))

text_number : (bits : ℕ) (text : Option (List ℕ)) (r : Option ℕ) → (text ≡ None → r ≡ None) → ((t : List ℕ) → text ≡ Some t → ReadsOne (Gives bits) t r) → r ≡ option_map_or (number_in bits) text None
text_number bits None r none some = none refl
text_number bits (Some text) r none some = read_number bits text r (some text refl)

-- the number of an option, if it has one
pub option_found : (option : NumberOption) (found : Found) {r : Option ℕ}
    → (one_text found option.name ≡ None → r ≡ None)
    → ((t : List ℕ) → one_text found option.name ≡ Some t → ReadsOne (Gives option.bits) t r)
    → r ≡ number_found option (rows_of found)
option_found option found {r} none some =
    rw (← one_text-rows found option.name) (text_number option.bits (one_text found option.name) r none some)

-- the same, or another number
pub option_over : (other : ℕ) (option : NumberOption) (found : Found) {r : Option ℕ} {n : ℕ}
    → (one_text found option.name ≡ None → r ≡ None)
    → ((t : List ℕ) → one_text found option.name ≡ Some t → ReadsOne (Gives option.bits) t r)
    → n ≡ unwrap_or r other → n ≡ number_over other option (rows_of found)
option_over other option found {r} none some is = is ∙ ap (λ o. unwrap_or o other) (option_found option found none some)

pub option_read : (option : NumberOption) (found : Found) {r : Option ℕ} {n : ℕ}
    → (one_text found option.name ≡ None → r ≡ None)
    → ((t : List ℕ) → one_text found option.name ≡ Some t → ReadsOne (Gives option.bits) t r)
    → n ≡ unwrap_or r option.default → n ≡ number_given option (rows_of found)
option_read option found none some is = option_over option.default option found none some is

-- a text that isn't `true`
other_text : (text : List ℕ) (b : Bool) → bytes_eq text true_text ≡ b → (text ≡ true_text → ⊥) → false ≡ bytes_eq text true_text
other_text text false is other = sym is
other_text text true is other = absurd (other ((bytes_eq-Decides text true_text).0 is))

read_flag : (text : List ℕ) (r : Option Bool) → ReadsOne (ParsesBool {E = ParseBoolError}) text r → unwrap_or r false ≡ bytes_eq text true_text
read_flag text (Some true) read = sym ((bytes_eq-Decides text true_text).1 read)
read_flag text (Some false) read = rw read refl
read_flag text None read = other_text text (bytes_eq text true_text) refl read.1.0

found_flag : (text : Option (List ℕ)) (r : Option Bool) → (text ≡ None → r ≡ None)
    → ((t : List ℕ) → text ≡ Some t → ReadsOne (ParsesBool {E = ParseBoolError}) t r)
    → unwrap_or r false ≡ option_map_or (λ t. bytes_eq t true_text) text false
found_flag None r none some = rw (none refl) refl
found_flag (Some text) r none some = read_flag text r (some text refl)

pub flag_read : (flag : List ℕ) (found : Found) {r : Option Bool} {b : Bool}
    → (one_text found flag ≡ None → r ≡ None)
    → ((t : List ℕ) → one_text found flag ≡ Some t → ReadsOne (ParsesBool {E = ParseBoolError}) t r)
    → b ≡ unwrap_or r false → b ≡ is_given flag (rows_of found)
flag_read flag found {r} none some is =
    is ∙ rw (← one_text-rows found flag) (found_flag (one_text found flag) r none some)

unwrapped : (r : Option (Bor (List ℕ))) (other : Bor (List ℕ)) → (unwrap_or r other).now ≡ unwrap_or (option_map (λ s. s.now) r) other.now
unwrapped None other = refl
unwrapped (Some s) other = refl

-- the text of an argument, or the other one
pub text_read : (id : List ℕ) (found : Found) (r : Option (Bor (List ℕ))) (other : Bor (List ℕ))
    {text : Bor (List ℕ)} → option_map (λ s. s.now) r ≡ first_value found id → text ≡ unwrap_or r other
    → text.now ≡ unwrap_or (first_of id (rows_of found)) other.now
text_read id found r other read is =
    ap (λ s. s.now) is ∙ unwrapped r other ∙ ap (λ o. unwrap_or o other.now) (read ∙ first_value-rows found id)
