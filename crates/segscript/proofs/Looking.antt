-- What a reader that looks for the first bad line keeps, as it goes on.
use Rattle.std.proofs.Common.{false, ◌≡◌, ◌≢◌, ℕ, ◌+◌, ◌<◌, ◌≤◌, ◌%◌, ◌^◌, ◌⊎◌, inl, inr, List, [], ◌∷◌, ◌++◌, length, take, Option, Some, None, refl, sym, ◌∙◌, ap, subst, arith, append_assoc, append-nil, length-append}
use Rattle.std.specs.Prelude.{◌==◌, nat_lt, if◌then◌else◌, IsSome, is_some, MatchOption}
use Rattle.std.specs.List.{flat_map, slice_split}
use Rattle.std.proofs.lemmas.Bool.{cases_lt, false≢true, lt-ltb, true≢false}
use Rattle.std.proofs.lemmas.List.{length-take-le, take_all, take-append-le}
use Rattle.segscript.specs.Script.{ended}
use Rattle.segscript.specs.Reasons.{line_fault, words_fault}
use Rattle.segscript.specs.Spelling.{line_parts}
use Rattle.segscript.specs.Explaining.{AreFine, FindsBad, HasFound, HasLooked, HasLookedFor, Look, look_at, LooksAt, LooksOn}
use Rattle.segscript.specs.declared.explain.BadLine.{BadLine}
use Rattle.segscript.specs.declared.reason.LineFault.{LineFault}
use Rattle.segscript.specs.declared.reason.LineFault.TheVariants as fault
use Rattle.segscript.proofs.LineLemmas.{Splits-byte, Splits-end}
use Rattle.segscript.specs.declared.limits.TheConstants.{KEPT_BYTES, LINE_BYTES}

-- ---- the first KEPT_BYTES bytes of a line have the fault of the line

-- the fault of a line that isn't too long
abbrev short_fault : ℕ → List ℕ → Option LineFault
short_fault passes line =
    let words = slice_split (λ byte. byte == 32) line in
    if length line == 0 then None else (if nat_lt 7 (length words) then Some (fault.Extra 8) else words_fault passes 1 (line_parts words) words)

long_fault : (passes : ℕ) (line : List ℕ) → LINE_BYTES < length line → line_fault passes line ≡ Some fault.TooLong
long_fault passes line long = ap (λ b. if b then Some fault.TooLong else short_fault passes line) (lt-ltb LINE_BYTES (length line) long)

same_fault : (passes : ℕ) (line : List ℕ) → line_fault passes (take KEPT_BYTES line) ≡ line_fault passes line
same_fault passes line = by (cases_lt KEPT_BYTES (length line))
  where
    by : (KEPT_BYTES < length line) ⊎ (length line ≤ KEPT_BYTES) → line_fault passes (take KEPT_BYTES line) ≡ line_fault passes line
    by (inl long) =
        let short = length-take-le KEPT_BYTES line (omega (arith, long)) in
        long_fault passes (take KEPT_BYTES line) (omega (arith, short)) ∙ sym (long_fault passes line (omega (arith, long)))
    by (inr short) = ap (line_fault passes) (take_all KEPT_BYTES line short)

-- with one byte more
kept_byte : (line rest : List ℕ) (b : ℕ) → line ≡ take KEPT_BYTES rest → length line < KEPT_BYTES → line ++ b ∷ [] ≡ take KEPT_BYTES (rest ++ b ∷ [])
kept_byte line rest b kept room = by (cases_lt LINE_BYTES (length rest))
  where
    by : (LINE_BYTES < length rest) ⊎ (length rest ≤ LINE_BYTES) → line ++ b ∷ [] ≡ take KEPT_BYTES (rest ++ b ∷ [])
    by (inl long) =
        let whole = length-take-le KEPT_BYTES rest (omega (arith, long)) in
        let same = ap length kept in
        absurd (omega (arith, whole, same, room))
    by (inr short) =
        let longer = length-append rest (b ∷ []) in
        ap (λ l. l ++ b ∷ []) (kept ∙ take_all KEPT_BYTES rest (omega (arith, short))) ∙ sym (take_all KEPT_BYTES (rest ++ b ∷ []) (omega (arith, short, longer)))

kept_full : (line rest : List ℕ) (b : ℕ) → line ≡ take KEPT_BYTES rest → length line ≡ KEPT_BYTES → line ≡ take KEPT_BYTES (rest ++ b ∷ [])
kept_full line rest b kept full = by (cases_lt (length rest) KEPT_BYTES)
  where
    by : (length rest < KEPT_BYTES) ⊎ (KEPT_BYTES ≤ length rest) → line ≡ take KEPT_BYTES (rest ++ b ∷ [])
    by (inl few) =
        let same = ap length (kept ∙ take_all KEPT_BYTES rest (omega (arith, few))) in
        absurd (omega (arith, same, few, full))
    by (inr many) = kept ∙ sym (take-append-le KEPT_BYTES rest (b ∷ []) many)

-- ---- one byte more

-- a byte of a line is kept if it is one of the first KEPT_BYTES
abbrev pub KeepsByte : ℕ → List ℕ → List ℕ → Type 0
KeepsByte byte old new =
    ((length old < KEPT_BYTES) × (new ≡ old ++ byte ∷ []))
    ⊎ ((length old ≡ KEPT_BYTES) × (new ≡ old))

pub byte_looked : (passes : ℕ) (line line' : List ℕ) (number b : ℕ) (seen : List ℕ) → b ≢ 10
    → KeepsByte b line line' → LooksOn (look_at passes line number None) seen
    → LooksOn (look_at passes line' number None) (seen ++ b ∷ [])
byte_looked passes line line' number b seen other keeps on = record {
  lines = on.lines;
  rest = on.rest ++ b ∷ [];
  splits = Splits-byte seen on.lines on.rest b on.splits other;
  fine = on.fine;
  kept = by keeps;
  number = on.number;
}
  where
    by : KeepsByte b line line' → line' ≡ take KEPT_BYTES (on.rest ++ b ∷ [])
    by (inl put) = put.1 ∙ kept_byte line on.rest b on.kept put.0
    by (inr full) = full.1 ∙ kept_full line on.rest b on.kept full.0

-- ---- the end of a line

fine_more : (passes : ℕ) (lines : List (List ℕ)) (line : List ℕ) → AreFine passes lines → line_fault passes line ≡ None → AreFine passes (lines ++ line ∷ [])
fine_more passes [] line all here = (here, tt)
fine_more passes (x ∷ xs) line all here = (all.0, fine_more passes xs line all.1 here)

rest_fault : (passes : ℕ) (line rest : List ℕ) → line ≡ take KEPT_BYTES rest → line_fault passes rest ≡ line_fault passes line
rest_fault passes line rest kept = sym (ap (line_fault passes) kept ∙ same_fault passes rest)

pub ended_fine : (passes : ℕ) (line : List ℕ) (number : ℕ) (seen : List ℕ) → line_fault passes line ≡ None
    → LooksOn (look_at passes line number None) seen
    → LooksOn (look_at passes [] ((number + 1) % 2 ^ 64) None) (seen ++ 10 ∷ [])
ended_fine passes line number seen none on = record {
  lines = on.lines ++ on.rest ∷ [];
  rest = [];
  splits = Splits-end seen on.lines on.rest on.splits;
  fine = fine_more passes on.lines on.rest on.fine (rest_fault passes line on.rest on.kept ∙ none);
  kept = refl;
  number = (let was = on.number in let long = length-append on.lines (on.rest ∷ []) in omega (arith, was, long));
}

pub ended_bad : (passes : ℕ) (line line' : List ℕ) (number number' : ℕ) (bad : BadLine) (seen : List ℕ)
    → line_fault passes line ≡ Some bad.fault → bad.number ≡ number → LooksOn (look_at passes line number None) seen
    → HasFound (look_at passes line' number' (Some bad)) bad (seen ++ 10 ∷ [])
ended_bad passes line line' number number' bad seen is of on = record {
  more = [];
  first = record {
    lines = on.lines;
    line = on.rest;
    after = 10 ∷ [];
    whole = ap (λ l. l ++ 10 ∷ []) on.splits.whole ∙ append_assoc (flat_map ended on.lines) on.rest (10 ∷ []);
    each = on.splits.each;
    unbroken = on.splits.partial;
    ends = inl ([], refl);
    fine = on.fine;
    fault = rest_fault passes line on.rest on.kept ∙ is;
    number = of ∙ on.number;
  };
  closed = refl;
}

-- the end of a line, of which this is the fault
pub end_looked : (passes : ℕ) (line : List ℕ) (number : ℕ) (own : Option BadLine) (seen : List ℕ)
    → MatchOption own (line_fault passes line ≡ None) (λ bad. (line_fault passes line ≡ Some bad.fault)
    × (bad.number ≡ number))
    → LooksOn (look_at passes line number None) seen → HasLooked (look_at passes [] ((number + 1) % 2 ^ 64) own) (seen ++ 10 ∷ [])
end_looked passes line number None seen none on = ended_fine passes line number seen none on
end_looked passes line number (Some bad) seen has on = ended_bad passes line [] number ((number + 1) % 2 ^ 64) bad seen has.0 has.1 on

-- ---- once a bad line was found

found_more : (look : Look) (found : BadLine) (seen bytes : List ℕ) → HasFound look found seen → HasFound look found (seen ++ bytes)
found_more look found seen bytes has =
    let first = has.first in
    let after = ap (λ l. l ++ bytes) has.closed in
    record {
      more = has.more ++ bytes;
      first = record {
        lines = first.lines;
        line = first.line;
        after = first.after ++ bytes;
        whole = ap (λ l. l ++ bytes) first.whole ∙
            (append_assoc (flat_map ended first.lines) (first.line ++ first.after) bytes
            ∙ ap (λ l. flat_map ended first.lines ++ l) (append_assoc first.line first.after bytes));
        each = first.each;
        unbroken = first.unbroken;
        ends = inl (has.more ++ bytes, after);
        fine = first.fine;
        fault = first.fault;
        number = first.number;
      };
      closed = after;
    }

-- nothing more is looked at
pub looks_past : (look : Look) (bytes : List ℕ) → IsSome look.bad → LooksAt look bytes look
looks_past look bytes some = (refl, λ seen looked. by seen look.bad some looked)
  where
    by : (seen : List ℕ) (bad : Option BadLine) → IsSome bad → HasLookedFor look bad seen → HasLookedFor look bad (seen ++ bytes)
    by seen (Some found) is has = found_more look found seen bytes has
    by seen None is has = absurd (false≢true is)

-- ---- what is found

pub finds_found : (passes : ℕ) (line : List ℕ) (number : ℕ) (bad : Option BadLine) (seen : List ℕ) → IsSome bad → HasLooked (look_at passes line number bad) seen → FindsBad passes seen bad
finds_found passes line number (Some found) seen is has = has.first
finds_found passes line number None seen is has = absurd (false≢true is)

pub finds_own : (passes : ℕ) (line : List ℕ) (number : ℕ) (own : Option BadLine) (seen : List ℕ)
    → MatchOption own (line_fault passes line ≡ None) (λ bad. (line_fault passes line ≡ Some bad.fault)
    × (bad.number ≡ number))
    → LooksOn (look_at passes line number None) seen → FindsBad passes seen own
finds_own passes line number None seen none on = record {
  lines = on.lines;
  rest = on.rest;
  splits = on.splits;
  fine = on.fine;
  last = rest_fault passes line on.rest on.kept ∙ none;
}
finds_own passes line number (Some bad) seen has on = record {
  lines = on.lines;
  line = on.rest;
  after = [];
  whole = on.splits.whole ∙ ap (λ l. flat_map ended on.lines ++ l) (sym (append-nil on.rest));
  each = on.splits.each;
  unbroken = on.splits.partial;
  ends = inr refl;
  fine = on.fine;
  fault = rest_fault passes line on.rest on.kept ∙ has.0;
  number = has.1 ∙ on.number;
}

-- a reader that has looked at nothing
pub looked_none : (passes : ℕ) → LooksOn (look_at passes [] 1 None) []
looked_none passes = record { lines = []; rest = []; splits = record { whole = refl; each = tt; partial = tt }; fine = tt; kept = refl; number = refl }

-- ---- looks

pub byte_looks : (passes : ℕ) (line : List ℕ) (number : ℕ) (bad : Option BadLine) (passes' : ℕ) (line' : List ℕ)
    (number' : ℕ) (bad' : Option BadLine) (b : ℕ) → b ≢ 10 → bad ≡ None → passes' ≡ passes → number' ≡ number
    → bad' ≡ bad → KeepsByte b line line'
    → LooksAt (look_at passes line number bad) (b ∷ []) (look_at passes' line' number' bad')
byte_looks passes line number bad passes' line' number' bad' b other none is same kept keeps =
    subst (λ m. LooksAt (look_at passes line number bad) (b ∷ []) (look_at m line' number' bad')) (sym is)
    (subst (λ n. LooksAt (look_at passes line number bad) (b ∷ []) (look_at passes line' n bad')) (sym same)
    (subst (λ x. LooksAt (look_at passes line number bad) (b ∷ []) (look_at passes line' number x)) (sym kept)
    (subst (λ x. LooksAt (look_at passes line number x) (b ∷ []) (look_at passes line' number x)) (sym none)
    (refl, λ seen on. byte_looked passes line line' number b seen other keeps on))))

pub end_looks : (passes : ℕ) (line : List ℕ) (number : ℕ) (bad : Option BadLine) (line' : List ℕ) (number' : ℕ)
    (own : Option BadLine) (b : ℕ) → b ≡ 10 → bad ≡ None → line' ≡ [] → number' ≡ (number + 1) % 2 ^ 64
    → MatchOption own (line_fault passes line ≡ None) (λ (bad : BadLine). (line_fault passes line ≡ Some bad.fault)
    × (bad.number ≡ number)) → LooksAt (look_at passes line number bad) (b ∷ [])
    (look_at passes line' number' own)
end_looks passes line number bad line' number' own b ten none cleared after is =
    subst (λ x. LooksAt (look_at passes line number bad) (x ∷ []) (look_at passes line' number' own)) (sym ten)
    (subst (λ l. LooksAt (look_at passes line number bad) (10 ∷ []) (look_at passes l number' own)) (sym cleared)
    (subst (λ n. LooksAt (look_at passes line number bad) (10 ∷ []) (look_at passes [] n own)) (sym after)
    (subst (λ x. LooksAt (look_at passes line number x) (10 ∷ []) (look_at passes [] ((number + 1) % 2 ^ 64) own)) (sym none)
    (refl, λ seen on. end_looked passes line number own seen is on))))

pub none_there : (bad : Option BadLine) → is_some bad ≡ false → bad ≡ None
none_there None is = refl
none_there (Some found) is = absurd (true≢false is)
