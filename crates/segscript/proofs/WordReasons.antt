-- A word has a fault exactly if it is not what its place in a line asks for.
use Rattle.std.proofs.Common.{◌≡◌, ◌≢◌, ℕ, ◌+◌, ◌<◌, ◌≤◌, ◌^◌, Bool, true, false, List, [], ◌∷◌, length, drop, codes, refl, sym, ◌∙◌, ap, subst, arith, Option, Some, None, true≢false, get_or, map}
use Rattle.std.specs.Prelude.{◌==◌, ◌&&◌, not, nat_lt, if◌then◌else◌, slice_index, decimal}
use Rattle.std.specs.List.{list_all, AllByRecursion}
use Rattle.std.specs.Char.{is_ascii_digit}
use Rattle.std.specs.Str.{all_ascii_digits, bytes_eq}
use Rattle.std.specs.Str.Parse.{digits_value}
use Rattle.std.proofs.lemmas.Bool.{eqb-true, eqb-false, ne_eqb, ltb-true, ltb-false, lt-ltb, le-ltb, and_parts, and_from, or_parts, or_from, not_from_true}
use Rattle.std.proofs.lemmas.Bool.Decides.{not_from_Decides}
use Rattle.std.proofs.lemmas.Slice.Eq.{bytes_eq-Decides}
use Rattle.std.proofs.lemmas.Str.Parse.{IsNumeralModel, numerals_by_value, tells_all_ascii_digits}
use Rattle.std.proofs.lemmas.Fmt.{decimal-digits_value, decimal_is_IsNumeral}
use Rattle.segword.specs.declared.key.TheConstants.{KEY_BYTES}
use Rattle.segword.specs.declared.value.TheConstants.{VALUE_BYTES}
use Rattle.segscript.specs.Spelling.{commands, IsNumber, IsValueWord, IsVerb, IsWordByte, line_parts, moment_word, named_among, parts_behind, pass_word, value_word, verb_word}
use Rattle.std.specs.Borrow.{Bor}
use Rattle.std.proofs.lemmas.List.{drop_more}
use Rattle.std.proofs.lemmas.Option.{none-some}
use Rattle.segscript.specs.Reading.{has_leading_zero, ReadsAs}
use Rattle.segscript.specs.Reasons.{is_word_byte, are_no_digits, or_else, number_fault, below_fault, bytes_fault, command_fault, part_fault, word_fault, at_place, words_fault}
use Rattle.segscript.specs.declared.reason.LineFault.{LineFault}
use Rattle.segscript.specs.declared.reason.Part.{Part}
use Rattle.segscript.specs.declared.reason.Part.TheVariants as part
use Rattle.segscript.specs.declared.reason.WordFault.{WordFault}
use Rattle.segscript.specs.declared.reason.WordFault.TheVariants as why
use Rattle.segscript.specs.declared.line.Verb.{Verb}
use Rattle.segscript.proofs.Commands.{named_self}
use Rattle.segscript.proofs.Numbers.{decimal_plain, zero_alone}
use Rattle.segscript.proofs.Parts.{Says}

-- ---- tests that find no fault

module _ {F : Type 0} (f : F) where
  if_none : (b : Bool) (x : Option F) → (if b then x else Some f) ≡ None → (b ≡ true) × (x ≡ None)
  if_none true x e = (refl, e)
  if_none false x e = absurd (cc)

  else_none : (b : Bool) (x : Option F) → (if b then Some f else x) ≡ None → (b ≡ false) × (x ≡ None)
  else_none true x e = absurd (cc)
  else_none false x e = (refl, e)

  none_else : (b : Bool) (x : Option F) → b ≡ false → x ≡ None → (if b then Some f else x) ≡ None
  none_else true x e n = absurd (true≢false e)
  none_else false x e n = n

  none_if : (b : Bool) (x : Option F) → b ≡ true → x ≡ None → (if b then x else Some f) ≡ None
  none_if true x e n = n
  none_if false x e n = absurd (true≢false (sym e))

or_none : (a b : Option WordFault) → or_else a b ≡ None → (a ≡ None) × (b ≡ None)
or_none (Some f) b e = absurd (cc)
or_none None b e = (refl, e)

none_or : (a b : Option WordFault) → a ≡ None → b ≡ None → or_else a b ≡ None
none_or (Some f) b e n = absurd (cc)
none_or None b e n = n

pub at_none : (place : ℕ) (a : Option WordFault) (b : Option LineFault) → at_place place a b ≡ None → (a ≡ None) × (b ≡ None)
at_none place (Some f) b e = absurd (cc)
at_none place None b e = (refl, e)

pub none_at : (place : ℕ) (a : Option WordFault) (b : Option LineFault) → a ≡ None → b ≡ None → at_place place a b ≡ None
none_at place (Some f) b e n = absurd (cc)
none_at place None b e n = n

-- ---- numbers

own : IsNumeralModel (λ ds. all_ascii_digits ds ≡ true) (digits_value 10)
own = numerals_by_value _ tells_all_ascii_digits

all_digits : (ds : List ℕ) → list_all is_ascii_digit ds ≡ all_ascii_digits ds
all_digits [] = refl
all_digits (d ∷ ds) = ap (λ b. is_ascii_digit d && b) (all_digits ds)

pub number_read : (ds : List ℕ) → number_fault ds ≡ None → IsNumber (digits_value 10 ds) × (ds ≡ decimal (digits_value 10 ds))
number_read ds e =
    let one = else_none _ _ _ e in
    let two = else_none _ _ _ one.1 in
    let three = if_none _ _ _ two.1 in
    let parts = or_parts _ _ one.0 in
    let digits : all_ascii_digits ds ≡ true = sym (all_digits ds) ∙ all_so (list_all is_ascii_digit ds) parts.1 in
    let some : 0 < length ds = not_empty ds parts.0 in
    let small : digits_value 10 ds < 2 ^ 32 = ltb-true _ _ three.0 in
    (small, sym (decimal-digits_value own ds digits some (zero_alone ds two.0) (omega (arith, small))))
  where
    all_so : (b : Bool) → not b ≡ false → b ≡ true
    all_so true n = refl
    all_so false n = absurd (true≢false n)

    not_empty : (xs : List ℕ) → (length xs == 0) ≡ false → 0 < length xs
    not_empty xs n = let other = eqb-false (length xs) 0 n in omega arith

pub number_fits : (n : ℕ) → IsNumber n → number_fault (decimal n) ≡ None
number_fits n small =
    let small_enough : n < 2 ^ 64 = omega (arith, small) in
    let is = decimal_is_IsNumeral n small_enough in
    let first : are_no_digits (decimal n) ≡ false = or_from _ _ (no_length (decimal n) is.0.0) (not_from_true _ (all_digits (decimal n) ∙ own.from (decimal n) is.0.1)) in
    let second : has_leading_zero (decimal n) ≡ false = decimal_plain n small in
    let below : digits_value 10 (decimal n) < 2 ^ 32 = rw is.1 small in
    let third : nat_lt (digits_value 10 (decimal n)) (2 ^ 32) ≡ true = lt-ltb _ _ below in
    none_else _ _ _ first (none_else _ _ _ second (none_if why.LargeNumber _ _ third refl))
  where
    no_length : (xs : List ℕ) → 0 < length xs → (length xs == 0) ≡ false
    no_length xs some = ne_eqb (length xs) 0 (λ z. omega arith)

number_value : (n : ℕ) → IsNumber n → digits_value 10 (decimal n) ≡ n
number_value n small = (decimal_is_IsNumeral n (omega (arith, small))).1

-- what a reader of numbers gave
pub read_some : (ds : List ℕ) (n : ℕ) → IsNumber n × (ds ≡ decimal n) → (number_fault ds ≡ None) × (digits_value 10 ds ≡ n)
read_some ds n read = (rw read.1 (number_fits n read.0), ap (digits_value 10) read.1 ∙ number_value n read.0)

pub read_none : (ds : List ℕ) (a b : Bool) → a ≡ are_no_digits ds → a ≡ false → b ≡ has_leading_zero ds → b ≡ false
    → ((n : ℕ) → IsNumber n → ds ≡ decimal n → ⊥) → number_fault ds ≡ Some why.LargeNumber
read_none ds a b is off is' off' none = by (nat_lt (digits_value 10 ds) (2 ^ 32)) refl
  where
    large : (x y z : Bool) → x ≡ false → y ≡ false → z ≡ false
        → (if x then Some why.NoNumber else (if y then Some why.LeadingZero else
        (if z then None else Some why.LargeNumber))) ≡ Some why.LargeNumber
    large true y z p q r = absurd (true≢false p)
    large false true z p q r = absurd (true≢false q)
    large false false true p q r = absurd (true≢false r)
    large false false false p q r = refl

    by : (c : Bool) → nat_lt (digits_value 10 ds) (2 ^ 32) ≡ c → number_fault ds ≡ Some why.LargeNumber
    by true e =
        let read = number_read ds (none_else _ _ _ (sym is ∙ off) (none_else _ _ _ (sym is' ∙ off') (none_if why.LargeNumber _ _ e refl))) in
        absurd (none (digits_value 10 ds) read.0 read.1)
    by false e = large _ _ _ (sym is ∙ off) (sym is' ∙ off') e

-- a number below a limit
below_read : (limit : ℕ) (f : WordFault) (ds : List ℕ) → or_else (number_fault ds) (below_fault limit f ds) ≡ None → (n : ℕ) × (n < limit) × IsNumber n × (ds ≡ decimal n)
below_read limit f ds e =
    let both = or_none _ _ e in
    let read = number_read ds both.0 in
    (digits_value 10 ds, ltb-true _ _ (if_none f _ _ both.1).0, read.0, read.1)

below_fits : (limit : ℕ) (f : WordFault) (n : ℕ) → n < limit → IsNumber n → or_else (number_fault (decimal n)) (below_fault limit f (decimal n)) ≡ None
below_fits limit f n low small = none_or _ _ (number_fits n small) (none_if f _ _ (lt-ltb _ _ (rw (number_value n small) low)) refl)

-- ---- bytes

printable : (w : List ℕ) → list_all is_word_byte w ≡ true → AllByRecursion IsWordByte w
printable [] e = tt
printable (b ∷ bs) e =
    let parts = and_parts _ _ e in
    let ends = and_parts _ _ parts.0 in
    let low = ltb-true 32 b ends.0 in
    let high = ltb-true b 127 ends.1 in
    ((omega arith, omega arith), printable bs parts.1)

all_printable : (w : List ℕ) → AllByRecursion IsWordByte w → list_all is_word_byte w ≡ true
all_printable [] h = refl
all_printable (b ∷ bs) h = and_from _ _ (and_from _ _ (lt-ltb 32 b (omega (arith, h.0))) (lt-ltb b 127 (omega (arith, h.0)))) (all_printable bs h.1)

bytes_read : (most : ℕ) (long : WordFault) (w : List ℕ) → bytes_fault most long w ≡ None → (length w ≤ most) × AllByRecursion IsWordByte w
bytes_read most long w e =
    let one = else_none _ _ _ e in
    let two = if_none _ _ _ one.1 in
    let short = ltb-false most (length w) one.0 in
    (omega arith, printable w two.0)

bytes_fit : (most : ℕ) (long : WordFault) (w : List ℕ) → length w ≤ most → AllByRecursion IsWordByte w → bytes_fault most long w ≡ None
bytes_fit most long w short plain = none_else _ _ _ (le-ltb _ _ short) (none_if _ _ _ (all_printable w plain) refl)

-- ---- words

begins : (c : ℕ) (w : List ℕ) → 0 < c → slice_index w 0 ≡ c → w ≡ c ∷ drop 1 w
begins c [] some e = absurd (omega arith)
begins c (x ∷ xs) some e = ap (λ y. y ∷ xs) e

named_word : (vs : List Verb) (w : List ℕ) → command_fault (named_among vs w) ≡ None → (v : Verb) × (w ≡ verb_word v)
named_word [] w e = absurd (cc)
named_word (v ∷ vs) w e = by (bytes_eq w (verb_word v)) refl (named_word vs w) e
  where
    by : (b : Bool) → bytes_eq w (verb_word v) ≡ b
        → (command_fault (named_among vs w) ≡ None → (x : Verb) × (w ≡ verb_word x))
        → command_fault (if b then Some v else named_among vs w) ≡ None → (x : Verb) × (w ≡ verb_word x)
    by true is later _ = (v, (bytes_eq-Decides w (verb_word v)).0 is)
    by false _ later rest = later rest

pub named_other : (vs : List Verb) (w : List ℕ) → ((v : Verb) → w ≡ verb_word v → ⊥) → named_among vs w ≡ None
named_other [] w other = refl
named_other (v ∷ vs) w other = by (bytes_eq w (verb_word v)) refl (named_other vs w other)
  where
    by : (b : Bool) → bytes_eq w (verb_word v) ≡ b → named_among vs w ≡ None → (if b then Some v else named_among vs w) ≡ None
    by true is later = absurd (other v ((bytes_eq-Decides w (verb_word v)).0 is))
    by false is later = later

pub named_verb : (w : List ℕ) (v : Verb) → w ≡ verb_word v → named_among commands w ≡ Some v
named_verb w v is = ap (named_among commands) is ∙ named_self v

-- what a reader of commands gave
pub verb_named : (w : List ℕ) (r : Option Verb) → ReadsAs IsVerb verb_word w r → r ≡ named_among commands w
verb_named w (Some v) read = sym (named_verb w v read.1)
verb_named w None read = sym (named_other commands w (λ v is. read v tt is))

pub no_command : (w : List ℕ) → ((v : Verb) → IsVerb v → w ≡ verb_word v → ⊥) → Some why.NoCommand ≡ command_fault (named_among commands w)
no_command w none = sym (ap command_fault (named_other commands w (λ v is. none v tt is)))

-- the parts of a line, by its second word
pub parts_of_words : (ws : List (Bor (List ℕ))) (d : Bor (List ℕ)) (r : Option Verb) → 2 ≤ length ws
    → ReadsAs IsVerb verb_word (get_or ws 1 d).now r
    → part.Pass ∷ part.Command ∷ parts_behind r ≡ line_parts (map (λ w. w.now) ws)
parts_of_words [] d r two read = absurd (omega arith)
parts_of_words (p ∷ []) d r two read = absurd (omega arith)
parts_of_words (p ∷ c ∷ ws) d r two read = ap (λ v. part.Pass ∷ part.Command ∷ parts_behind v) (verb_named c.now r read)

-- one word more was looked at
pub word_more : (passes i : ℕ) (ps : List Part) (ws : List (Bor (List ℕ))) (p : Part) (d : Bor (List ℕ))
    (r : Option LineFault) → i < length ps → i < length ws
    → word_fault passes (get_or ps i p) (get_or ws i d).now ≡ None
    → r ≡ words_fault passes (i + 1) (drop i ps) (map (λ w. w.now) (drop i ws)) → r ≡ words_fault passes (i + 1 + 1) (drop (i + 1) ps) (map (λ w. w.now) (drop (i + 1) ws))
word_more passes i ps ws p d r a b none is =
    is ∙ rw (drop_more ps i p a, drop_more ws i d b, none) refl

value_read : (w : List ℕ) → 0 < length w → (length w ≤ VALUE_BYTES) × AllByRecursion IsWordByte w → (v : List ℕ) × IsValueWord v × (w ≡ value_word v)
value_read [] some fits = absurd (omega arith)
value_read (b ∷ bs) some fits = by (bytes_eq (b ∷ bs) (codes "-")) refl
  where
    by : (t : Bool) → bytes_eq (b ∷ bs) (codes "-") ≡ t → (v : List ℕ) × IsValueWord v × (b ∷ bs ≡ value_word v)
    by true is = ([], (omega arith, tt, λ e. cc), (bytes_eq-Decides (b ∷ bs) (codes "-")).0 is)
    by false is = (b ∷ bs, (fits.0, fits.1, not_from_Decides _ (bytes_eq-Decides (b ∷ bs) (codes "-")) is), refl)

part_read : (passes : ℕ) (p : Part) (w : List ℕ) → 0 < length w → part_fault passes p w ≡ None → Says passes p w
part_read passes part.Pass w some e =
    let one = if_none _ _ _ e in
    let read = below_read passes why.NoPass (drop 1 w) one.1 in
    (read.0, (read.1, read.2), begins 112 w (omega arith) (eqb-true _ _ one.0) ∙ ap (λ ds. 112 ∷ ds) read.3)
part_read passes part.Command w some e = named_word commands w e
part_read passes part.Cutoff w some e = let read = below_read 256 why.LargeCutoff w e in (read.0, read.1, read.3)
part_read passes part.Key w some e = let read = bytes_read KEY_BYTES _ w e in (some, read.0, read.1)
part_read passes part.Value w some e = value_read w some (bytes_read VALUE_BYTES _ w e)
part_read passes part.Moment w some e =
    let one = if_none _ _ _ e in
    let read = number_read (drop 1 w) one.1 in
    (digits_value 10 (drop 1 w), read.0, begins 64 w (omega arith) (eqb-true _ _ one.0) ∙ ap (λ ds. 64 ∷ ds) read.1)
part_read passes part.Segment w some e = let read = number_read w e in (digits_value 10 w, read.0, read.1)
part_read passes part.Deadline w some e = let read = number_read w e in (digits_value 10 w, read.0, read.1)
part_read passes part.Version w some e = let read = number_read w e in (digits_value 10 w, read.0, read.1)

pub word_read : (passes : ℕ) (p : Part) (w : List ℕ) → word_fault passes p w ≡ None → Says passes p w
word_read passes p w e =
    let one = else_none _ _ _ e in
    let other = eqb-false (length w) 0 one.0 in
    part_read passes p w (omega arith) one.1

-- a word that has bytes, and is what the part is to be
whole : (passes : ℕ) (p : Part) (w v : List ℕ) → w ≡ v → 0 < length v → part_fault passes p v ≡ None → word_fault passes p w ≡ None
whole passes p w v is some none = subst (λ x. word_fault passes p x ≡ None) (sym is) (none_else _ _ _ (ne_eqb (length v) 0 (λ z. omega arith)) none)

some_digits : (n : ℕ) → IsNumber n → 0 < length (decimal n)
some_digits n small = (decimal_is_IsNumeral n (omega (arith, small))).0.0

command_fits : (passes : ℕ) (v : Verb) → word_fault passes part.Command (verb_word v) ≡ None
command_fits passes v = by (verb_word v) (named_self v)
  where
    by : (w : List ℕ) → named_among commands w ≡ Some v → word_fault passes part.Command w ≡ None
    by [] named = absurd (none-some v named)
    by (b ∷ bs) named = whole passes part.Command (b ∷ bs) (b ∷ bs) refl (omega arith) (ap command_fault named)

value_fits : (passes : ℕ) (v : List ℕ) → IsValueWord v → word_fault passes part.Value (value_word v) ≡ None
value_fits passes [] fits = refl
value_fits passes (b ∷ bs) fits = whole passes part.Value (b ∷ bs) (b ∷ bs) refl (omega arith) (bytes_fit VALUE_BYTES _ (b ∷ bs) fits.0 fits.1)

pub word_fits : (passes : ℕ) (p : Part) (w : List ℕ) → Says passes p w → word_fault passes p w ≡ None
word_fits passes part.Pass w says = whole passes part.Pass w (pass_word says.0) says.2 (omega arith) (below_fits passes why.NoPass says.0 says.1.0 says.1.1)
word_fits passes part.Command w says = rw says.1 (command_fits passes says.0)
word_fits passes part.Cutoff w says =
    let small : says.0 < 2 ^ 32 = omega (arith, says.1) in
    whole passes part.Cutoff w (decimal says.0) says.2 (some_digits says.0 small) (below_fits 256 why.LargeCutoff says.0 says.1 small)
word_fits passes part.Key w says = whole passes part.Key w w refl says.0 (bytes_fit KEY_BYTES _ w says.1 says.2)
word_fits passes part.Value w says = rw says.2 (value_fits passes says.0 says.1)
word_fits passes part.Moment w says = whole passes part.Moment w (moment_word says.0) says.2 (omega arith) (number_fits says.0 says.1)
word_fits passes part.Segment w says = whole passes part.Segment w (decimal says.0) says.2 (some_digits says.0 says.1) (number_fits says.0 says.1)
word_fits passes part.Deadline w says = whole passes part.Deadline w (decimal says.0) says.2 (some_digits says.0 says.1) (number_fits says.0 says.1)
word_fits passes part.Version w says = whole passes part.Version w (decimal says.0) says.2 (some_digits says.0 says.1) (number_fits says.0 says.1)
