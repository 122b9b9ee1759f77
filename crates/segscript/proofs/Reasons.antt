-- A line has a fault exactly if it is bad.
use Rattle.std.proofs.Common.{◌≡◌, ℕ, ◌+◌, ◌<◌, ◌≤◌, Bool, true, false, inl, inr, ◌⊎◌, List, [], ◌∷◌, length, refl, sym, ◌∙◌, ap, subst, arith, Option, Some, None, true≢false}
use Rattle.std.specs.Prelude.{◌==◌, nat_lt, if◌then◌else◌, is_some, IsSome}
use Rattle.std.proofs.lemmas.Bool.{eqb-true, eq-eqb, ltb-false, le-ltb, cases_lt}
use Rattle.segscript.specs.Spelling.{IsSayable, line_parts, line_words, parts_behind, PassTurn, spelling, verb, verb_word}
use Rattle.segscript.specs.Laws.{BadLinesHaveAFault}
use Rattle.segscript.specs.Reasons.{line_fault, words_fault}
use Rattle.segscript.specs.Script.{IsBad}
use Rattle.segscript.specs.declared.reason.LineFault.{LineFault}
use Rattle.segscript.specs.declared.reason.LineFault.TheVariants as fault
use Rattle.segscript.specs.declared.reason.Part.{Part}
use Rattle.segscript.specs.declared.reason.Part.TheVariants as part
use Rattle.segscript.proofs.Commands.{named_self, turn_read}
use Rattle.segscript.proofs.Lines.{few_words, line_says, lines_fit, ReadsAs-line, spaces-spelling}
use Rattle.segscript.proofs.Parts.{SaysAll}
use Rattle.segscript.proofs.WordLemmas.{spaces}
use Rattle.segscript.proofs.WordReasons.{at_none, named_verb, none_at, word_fits, word_read}
use Rattle.segscript.specs.declared.limits.TheConstants.{LINE_BYTES}

-- ---- lists of words

words_read : (passes place : ℕ) (ps : List Part) (ws : List (List ℕ)) → words_fault passes place ps ws ≡ None → SaysAll passes ps ws
words_read passes place [] [] e = tt
words_read passes place [] (w ∷ ws) e = absurd (cc)
words_read passes place (p ∷ ps) [] e = absurd (cc)
words_read passes place (p ∷ ps) (w ∷ ws) e =
    let none = at_none place _ _ e in
    record { first = word_read passes p w none.0; rest = words_read passes (place + 1) ps ws none.1 }

words_fit : (passes place : ℕ) (ps : List Part) (ws : List (List ℕ)) → SaysAll passes ps ws → words_fault passes place ps ws ≡ None
words_fit passes place [] [] says = refl
words_fit passes place [] (w ∷ ws) says = absurd says
words_fit passes place (p ∷ ps) [] says = absurd says
words_fit passes place (p ∷ ps) (w ∷ ws) says = none_at place _ _ (word_fits passes p w says.first) (words_fit passes (place + 1) ps ws says.rest)

-- ---- lines

all_words : {p c x y : List ℕ} {ws us : List (List ℕ)} → p ≡ x → c ≡ y → ws ≡ us → p ∷ c ∷ ws ≡ x ∷ y ∷ us
all_words p q r = cc

line_read : (passes : ℕ) (ws : List (List ℕ)) → SaysAll passes (line_parts ws) ws → (said : PassTurn) × IsSayable passes said × (ws ≡ line_words said)
line_read passes [] says = absurd says
line_read passes (p ∷ []) says = absurd (says.rest)
line_read passes (p ∷ c ∷ ws) says =
    let x = says.first in
    let y = says.rest.first in
    let named = named_verb c y.0 y.1 in
    let t = turn_read passes y.0 ws (subst (λ v. SaysAll passes (parts_behind v) ws) named says.rest.rest) in
    ((x.0, t.0), (x.1.0, x.1.1, t.1.0), all_words x.2 (y.1 ∙ ap verb_word (sym t.1.1)) t.2)

line_fits : (passes : ℕ) (said : PassTurn) → IsSayable passes said → SaysAll passes (line_parts (line_words said)) (line_words said)
line_fits passes said may =
    subst (λ v. SaysAll passes (part.Pass ∷ part.Command ∷ parts_behind v) (line_words said)) (sym (named_self (verb said.1))) (line_says passes said may)

-- the three tests of a line before its words
no_fault : (long empty many : Bool) (rest : Option LineFault)
    → (if long then Some fault.TooLong else (if empty then None else (if many then Some (fault.Extra 8) else rest)))
    ≡ None → (long ≡ false) × ((empty ≡ true) ⊎ (rest ≡ None))
no_fault true empty many rest e = absurd (cc)
no_fault false true many rest e = (refl, inl refl)
no_fault false false true rest e = absurd (cc)
no_fault false false false rest e = (refl, inr e)

none_of : (long empty many : Bool) (rest : Option LineFault) → long ≡ false → many ≡ false → rest ≡ None
    → (if long then Some fault.TooLong else (if empty then None else (if many then Some (fault.Extra 8) else rest)))
    ≡ None
none_of true empty many rest short few none = absurd (true≢false short)
none_of false true many rest short few none = refl
none_of false false true rest short few none = absurd (true≢false few)
none_of false false false rest short few none = none

empty_none : (long empty many : Bool) (rest : Option LineFault) → long ≡ false → empty ≡ true
    → (if long then Some fault.TooLong else (if empty then None else (if many then Some (fault.Extra 8) else rest)))
    ≡ None
empty_none true empty many rest short is = absurd (true≢false short)
empty_none false true many rest short is = refl
empty_none false false many rest short is = absurd (true≢false (sym is))

pub spelled_none : (passes : ℕ) (said : PassTurn) → IsSayable passes said → line_fault passes (spelling said) ≡ None
spelled_none passes said may =
    let line : List ℕ = spelling said in
    let words : spaces line ≡ line_words said = spaces-spelling passes said may in
    let few = few_words passes said may in
    let many : length (spaces line) ≤ 7 = rw words (omega arith) in
    let none : words_fault passes 1 (line_parts (spaces line)) (spaces line) ≡ None = rw words (words_fit passes 1 (line_parts (line_words said)) (line_words said) (line_fits passes said may)) in
    none_of (nat_lt LINE_BYTES (length line)) (length line == 0) (nat_lt 7 (length (spaces line))) _ (le-ltb _ _ (lines_fit passes said may)) (le-ltb _ _ many) none

pub is_bad : (passes : ℕ) (line : List ℕ) → IsSome (line_fault passes line) → IsBad passes line
is_bad passes line some = elim (cases_lt LINE_BYTES (length line)) [
  | inl long ↦ inl long
  | inr short ↦ inr (
    nonempty (cases_lt 0 (length line)) short,
    λ said may same. true≢false (sym some ∙ ap is_some (ap (line_fault passes) same ∙ spelled_none passes said may)),
  )
]
  where
    nonempty : (0 < length line) ⊎ (length line ≤ 0) → length line ≤ LINE_BYTES → 0 < length line
    nonempty (inl has) short = has
    nonempty (inr none) short = absurd (true≢false (sym some
        ∙ ap is_some (empty_none (nat_lt LINE_BYTES (length line)) (length line == 0) (nat_lt 7 (length (spaces line)))
        (words_fault passes 1 (line_parts (spaces line)) (spaces line)) (le-ltb _ _ short)
        (eq-eqb (length line) 0 (omega arith)))))

pub has_fault : (passes : ℕ) (line : List ℕ) → IsBad passes line → IsSome (line_fault passes line)
has_fault passes line bad = by (line_fault passes line) refl
  where
    good : (0 < length line) × ((said : PassTurn) → IsSayable passes said → line ≡ spelling said → ⊥) → words_fault passes 1 (line_parts (spaces line)) (spaces line) ≡ None → ⊥
    good bad none =
        let read = line_read passes (spaces line) (words_read passes 1 _ _ none) in
        bad.1 read.0 read.1 (ReadsAs-line passes line (Some read.0) (read.1, read.2)).1

    by : (r : Option LineFault) → line_fault passes line ≡ r → is_some r ≡ true
    by (Some f) e = refl
    by None e =
        let told = no_fault (nat_lt LINE_BYTES (length line)) (length line == 0) (nat_lt 7 (length (spaces line))) (words_fault passes 1 (line_parts (spaces line)) (spaces line)) e in
        let short = ltb-false LINE_BYTES (length line) told.0 in
        elim bad [
          | inl long ↦ absurd (omega arith)
          | inr other ↦ elim told.1 [
            | inl empty ↦ let none = eqb-true (length line) 0 empty in let some = other.0 in absurd (omega arith)
            | inr none ↦ absurd (good other none)
          ]
        ]

pub exactly : BadLinesHaveAFault
exactly passes line = (is_bad passes line, has_fault passes line)
