-- The words of a line: the line is cut into them again, it is short enough, and it spells one turn.
use Rattle.std.proofs.Common.{◌≡◌, ℕ, ◌+◌, ◌<◌, ◌≤◌, ◌^◌, List, [], ◌∷◌, length, arith, decimal, length-append, refl, sym, ◌∙◌, ap, subst, Option, Some, None}
use Rattle.std.specs.List.{AllByRecursion, join_with_byte}
use Rattle.std.proofs.lemmas.Fmt.{length-decimal-le}
use Rattle.std.proofs.lemmas.List.Splits.{join_with_byte-slice_split}
use Rattle.std.proofs.lemmas.Option.{same_Some}
use Rattle.segscript.specs.Laws.{LinesFit}
use Rattle.segscript.specs.Reading.{ReadsAs}
use Rattle.segscript.specs.Spelling.{argument_parts, arguments_of, commands, IsNumber, IsSayable, IsValueWord, line_words, named_among, pass_word, PassTurn, spelling, turn_words, value_word, verb, verb_word}
use Rattle.segword.specs.declared.key.TheConstants.{KEY_BYTES}
use Rattle.segword.specs.declared.value.TheConstants.{VALUE_BYTES}
use Rattle.segscript.specs.declared.line.Verb.{Verb}
use Rattle.segscript.specs.declared.reason.Part.{Part}
use Rattle.segscript.specs.declared.reason.Part.TheVariants as part
use Rattle.segscript.proofs.Commands.{arguments-one, named_self, number-one, small, turn_says, verb_words}
use Rattle.segscript.proofs.Parts.{both, most, most_of, Says, SaysAll}
use Rattle.segscript.proofs.WordLemmas.{decimal_word, IsSpaceless, moment_plain, pass_plain, plain_word, spaces, spaces-join, value_words}

-- ---- a word

says_spaceless : (passes : ℕ) (p : Part) (w : List ℕ) → Says passes p w → IsSpaceless w
says_spaceless passes part.Pass w says = subst IsSpaceless (sym says.2) (pass_plain says.0 says.1.1)
says_spaceless passes part.Command w says = subst IsSpaceless (sym says.1) (verb_words says.0)
says_spaceless passes part.Cutoff w says = subst IsSpaceless (sym says.2) (decimal_word says.0 (omega (arith, says.1)))
says_spaceless passes part.Key w says = plain_word w says.2
says_spaceless passes part.Value w says = subst IsSpaceless (sym says.2) (value_words says.0 says.1.1)
says_spaceless passes part.Moment w says = subst IsSpaceless (sym says.2) (moment_plain says.0 says.1)
says_spaceless passes part.Segment w says = subst IsSpaceless (sym says.2) (decimal_word says.0 says.1)
says_spaceless passes part.Deadline w says = subst IsSpaceless (sym says.2) (decimal_word says.0 says.1)
says_spaceless passes part.Version w says = subst IsSpaceless (sym says.2) (decimal_word says.0 says.1)

digits_short : (n : ℕ) → IsNumber n → length (decimal n) ≤ 10
digits_short n is = length-decimal-le 10 n (omega arith) (let small : n < 10 ^ 10 = omega arith in small) (let small : n < 2 ^ 64 = omega arith in small)

-- a byte before a number
byte_short : (c n : ℕ) → IsNumber n → length (c ∷ decimal n) ≤ 11
byte_short c n is = let digits = digits_short n is in omega arith

value_short : (value : List ℕ) → IsValueWord value → length (value_word value) ≤ VALUE_BYTES
value_short [] is = omega arith
value_short (byte ∷ bytes) is = is.0

says_short : (passes : ℕ) (p : Part) (w : List ℕ) → Says passes p w → length w ≤ most p
says_short passes part.Pass w says = subst (λ x. length x ≤ 11) (sym says.2) (byte_short 112 says.0 says.1.1)
says_short passes part.Command w says = subst (λ x. length x ≤ 7) (sym says.1) (small says.0).0
says_short passes part.Cutoff w says = subst (λ x. length x ≤ 10) (sym says.2) (digits_short says.0 (omega (arith, says.1)))
says_short passes part.Key w says = says.1
says_short passes part.Value w says = subst (λ x. length x ≤ VALUE_BYTES) (sym says.2) (value_short says.0 says.1)
says_short passes part.Moment w says = subst (λ x. length x ≤ 11) (sym says.2) (byte_short 64 says.0 says.1)
says_short passes part.Segment w says = subst (λ x. length x ≤ 10) (sym says.2) (digits_short says.0 says.1)
says_short passes part.Deadline w says = subst (λ x. length x ≤ 10) (sym says.2) (digits_short says.0 says.1)
says_short passes part.Version w says = subst (λ x. length x ≤ 10) (sym says.2) (digits_short says.0 says.1)

-- ---- all words

all_spaceless : (passes : ℕ) (ps : List Part) (ws : List (List ℕ)) → SaysAll passes ps ws → AllByRecursion IsSpaceless ws
all_spaceless passes [] [] says = tt
all_spaceless passes [] (w ∷ ws) says = absurd says
all_spaceless passes (p ∷ ps) [] says = absurd says
all_spaceless passes (p ∷ ps) (w ∷ ws) says = (says_spaceless passes p w says.first, all_spaceless passes ps ws says.rest)

as_many : (passes : ℕ) (ps : List Part) (ws : List (List ℕ)) → SaysAll passes ps ws → length ws ≡ length ps
as_many passes [] [] says = refl
as_many passes [] (w ∷ ws) says = absurd says
as_many passes (p ∷ ps) [] says = absurd says
as_many passes (p ∷ ps) (w ∷ ws) says = let rest = as_many passes ps ws says.rest in omega arith

-- the bytes of these words, with one more after each
abbrev bytes_of : List (List ℕ) → ℕ
bytes_of [] = 0
bytes_of (word ∷ words) = length word + (1 + bytes_of words)

joined_fits : (c : ℕ) (words : List (List ℕ)) → length (join_with_byte c words) ≤ bytes_of words
joined_fits c [] = omega arith
joined_fits c (x ∷ []) = omega arith
joined_fits c (x ∷ y ∷ xs) = let rest = joined_fits c (y ∷ xs) in rw (length-append x (c ∷ join_with_byte c (y ∷ xs))) (omega arith)

bytes_fit : (passes : ℕ) (ps : List Part) (ws : List (List ℕ)) → SaysAll passes ps ws → bytes_of ws ≤ most_of ps
bytes_fit passes [] [] says = omega arith
bytes_fit passes [] (w ∷ ws) says = absurd says
bytes_fit passes (p ∷ ps) [] says = absurd says
bytes_fit passes (p ∷ ps) (w ∷ ws) says =
    let one : length w ≤ most p = says_short passes p w says.first in
    let rest : bytes_of ws ≤ most_of ps = bytes_fit passes ps ws says.rest in
    sums (length w) (most p) (bytes_of ws) (most_of ps) one rest
  where
    sums : (a b c d : ℕ) → a ≤ b → c ≤ d → a + (1 + c) ≤ b + (1 + d)
    sums a b c d one rest = omega arith

line_short : (passes : ℕ) (ps : List Part) (ws : List (List ℕ)) → SaysAll passes ps ws → length (join_with_byte 32 ws) ≤ most_of ps
line_short passes ps ws says =
    let joined = joined_fits 32 ws in
    let bytes = bytes_fit passes ps ws says in
    omega arith

line_cut : (passes : ℕ) (p : Part) (ps : List Part) (w : List ℕ) (ws : List (List ℕ)) → SaysAll passes (p ∷ ps) (w ∷ ws) → spaces (join_with_byte 32 (w ∷ ws)) ≡ w ∷ ws
line_cut passes p ps w ws says = spaces-join w ws (says_spaceless passes p w says.first) (all_spaceless passes ps ws says.rest)

-- ---- the line of a turn

-- the parts of its words
abbrev pub parts_of : PassTurn → List Part
parts_of said = part.Pass ∷ part.Command ∷ argument_parts (verb said.1)

pub line_says : (passes : ℕ) (said : PassTurn) → IsSayable passes said → SaysAll passes (parts_of said) (line_words said)
line_says passes said may =
    both passes part.Pass (part.Command ∷ argument_parts (verb said.1)) (pass_word said.0) (turn_words said.1) (said.0, (may.0, may.1), refl)
    (both passes part.Command (argument_parts (verb said.1)) (verb_word (verb said.1)) (arguments_of said.1) (verb said.1, refl) (turn_says passes said.1 may.2))

pub few_words : (passes : ℕ) (said : PassTurn) → IsSayable passes said → length (line_words said) ≤ 6
few_words passes said may =
    let many : length (line_words said) ≡ length (parts_of said) = as_many passes (parts_of said) (line_words said) (line_says passes said may) in
    let few : length (argument_parts (verb said.1)) ≤ 4 = (small (verb said.1)).1 in
    omega arith

pub lines_fit : LinesFit
lines_fit passes said may =
    let short : length (spelling said) ≤ most_of (parts_of said) = line_short passes (parts_of said) (line_words said) (line_says passes said may) in
    let few : most_of (argument_parts (verb said.1)) ≤ KEY_BYTES + VALUE_BYTES + 25 = (small (verb said.1)).2 in
    omega arith

pub spaces-spelling : (passes : ℕ) (said : PassTurn) → IsSayable passes said → spaces (spelling said) ≡ line_words said
spaces-spelling passes said may =
    line_cut passes part.Pass (part.Command ∷ argument_parts (verb said.1)) (pass_word said.0) (turn_words said.1) (line_says passes said may)

-- the words tell the turn, and so does the line
pub ReadsAs-line : (passes : ℕ) (line : List ℕ) (r : Option PassTurn) → ReadsAs (IsSayable passes) line_words (spaces line) r → ReadsAs (IsSayable passes) spelling line r
ReadsAs-line passes line (Some t) h = (h.0, sym (join_with_byte-slice_split 32 line) ∙ ap (join_with_byte 32) h.1)
ReadsAs-line passes line None h = λ t fits same. h t fits (ap spaces same ∙ spaces-spelling passes t fits)

pub none-many_words : (passes : ℕ) (line : List ℕ) → 7 < length (spaces line) → (t : PassTurn) → IsSayable passes t → line ≡ spelling t → ⊥
none-many_words passes line many t fits same =
    let few = few_words passes t fits in
    let most : length (spaces line) ≡ length (line_words t) = ap length (ap spaces same ∙ spaces-spelling passes t fits) in
    omega arith

-- ---- a line spells one turn of one pass

first : (a b : List ℕ) (x y : List (List ℕ)) → a ∷ x ≡ b ∷ y → a ≡ b
first a b x y same = cc

rest : (a b : List ℕ) (x y : List (List ℕ)) → a ∷ x ≡ b ∷ y → x ≡ y
rest a b x y same = cc

verb-one : (v w : Verb) → verb_word v ≡ verb_word w → v ≡ w
verb-one v w same = same_Some v w (sym (named_self v) ∙ ap (named_among commands) same ∙ named_self w)

pass-one : (p q : ℕ) → p < 2 ^ 32 → q < 2 ^ 32 → pass_word p ≡ pass_word q → p ≡ q
pass-one p q small small' same = let d : decimal p ≡ decimal q = cc in number-one p q small small' d

pub one_spelling : (passes : ℕ) (l m : PassTurn) → IsSayable passes l → IsSayable passes m → spelling l ≡ spelling m → l ≡ m
one_spelling passes l m fl fm same =
    let ws : line_words l ≡ line_words m = sym (spaces-spelling passes l fl) ∙ ap spaces same ∙ spaces-spelling passes m fm in
    let pass = pass-one l.0 m.0 fl.1 fm.1 (first _ _ _ _ ws) in
    let more = rest _ _ _ _ ws in
    let turn = arguments-one l.1 m.1 fl.2 fm.2 (verb-one (verb l.1) (verb m.1) (first _ _ _ _ more)) (rest _ _ _ _ more) in
    ap (λ p. (p, l.1)) pass ∙ ap (λ t. (m.0, t)) turn
