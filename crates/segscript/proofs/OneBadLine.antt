-- A script has one first bad line at most, and none where it has a text. So a run whose devices never failed ends at that line, or ends well.
use Rattle.std.proofs.Common.{Bool, false, Ok, Err, Result, ◌≡◌, ℕ, ◌+◌, ◌⊎◌, inl, inr, List, [], ◌∷◌, ◌++◌, length, refl, sym, ◌∙◌, ap, arith, append_assoc, append-nil, length-append}
use Rattle.std.specs.List.{flat_map, AllByRecursion}
use Rattle.std.specs.Prelude.{IsOk}
use Rattle.std.proofs.lemmas.Bool.{true≢false}
use Rattle.std.proofs.lemmas.Bool.Decides.{eqb_tells}
use Rattle.std.proofs.lemmas.Grind.{flat_map-append}
use Rattle.segword.specs.Words.{Shape}
use Rattle.segmodel.specs.Words.{fresh, State}
use Rattle.segscript.specs.Spelling.{PassTurn}
use Rattle.segscript.specs.Script.{IsLine, ended, Say, IsBad, Steps, IsTextOf, IsFirstBad}
use Rattle.segscript.specs.Device.{HandsOut}
use Rattle.segscript.specs.Run.{IsSeenBad, RunOutcome, is_read_fault, is_write_fault, is_make_fault}
use Rattle.segscript.specs.Words.{RunFault}
use Rattle.segscript.specs.declared.fault.RunFault.TheVariants as fault
use Rattle.segscript.proofs.LineLemmas.{IsLine-append, lines-append}
use Rattle.segscript.proofs.Lines.{lines_fit}

-- ---- lines that are cut in two ways

-- the bytes up to the first byte 10, and the rest
pub record Cut (bytes : List ℕ) : Type 0 where
  pub front : List ℕ
  pub back : List ℕ
  pub whole : bytes ≡ front ++ back
  pub unbroken : IsLine front
  pub ends : ((more : List ℕ) × (back ≡ 10 ∷ more)) ⊎ (back ≡ [])

pub cut : (bytes : List ℕ) → Cut bytes
cut [] = record { front = []; back = []; whole = refl; unbroken = tt; ends = inr refl }
cut (b ∷ bytes) = elim (eqb_tells b 10) [
  | inl same ↦ record { front = []; back = b ∷ bytes; whole = refl; unbroken = tt; ends = inl (bytes, ap (λ a. a ∷ bytes) same.1) }
  | inr other ↦
      let rest = cut bytes in
      record { front = b ∷ rest.front; back = rest.back; whole = ap (λ r. b ∷ r) rest.whole; unbroken = (other.1, rest.unbroken); ends = rest.ends }
]

head-is : (a b : ℕ) (x y : List ℕ) → a ∷ x ≡ b ∷ y → a ≡ b
head-is a b x y same = cc

tail-is : (a b : ℕ) (x y : List ℕ) → a ∷ x ≡ b ∷ y → x ≡ y
tail-is a b x y same = cc

-- two lines at one place are one
pub one_line : (x p y q : List ℕ) → IsLine x → IsLine y → x ++ 10 ∷ p ≡ y ++ 10 ∷ q → (x ≡ y) × (p ≡ q)
one_line [] p [] q lx ly same = (refl, tail-is 10 10 p q same)
one_line [] p (b ∷ y) q lx ly same = absurd (ly.0 (sym (head-is 10 b p (y ++ 10 ∷ q) same)))
one_line (a ∷ x) p [] q lx ly same = absurd (lx.0 (head-is a 10 (x ++ 10 ∷ p) q same))
one_line (a ∷ x) p (b ∷ y) q lx ly same =
    let h = head-is a b (x ++ 10 ∷ p) (y ++ 10 ∷ q) same in
    let more = one_line x p y q lx.1 ly.1 (tail-is a b (x ++ 10 ∷ p) (y ++ 10 ∷ q) same) in
    (ap (λ l. a ∷ l) more.0 ∙ ap (λ c. c ∷ y) h, more.1)

pub not_empty : (x p : List ℕ) → x ++ 10 ∷ p ≡ [] → ⊥
not_empty [] p same = cc
not_empty (a ∷ x) p same = cc

pub step : (x : List ℕ) (xs : List (List ℕ)) (r : List ℕ) → flat_map ended (x ∷ xs) ++ r ≡ x ++ 10 ∷ (flat_map ended xs ++ r)
step x xs r = simp append_assoc

module _ (passes : ℕ) where
  -- a line that is served isn't bad
  pub good_line : (x : List ℕ) (xs : List (List ℕ)) (ts : List PassTurn) → Say passes (x ∷ xs) ts → IsBad passes x → ⊥
  good_line [] xs ts says (inl long) = omega arith
  good_line [] xs ts says (inr bad) = omega (arith, bad.0)
  good_line (b ∷ bs) xs [] says bad = says
  good_line (b ∷ bs) xs (t ∷ ts) says (inl long) = let short = lines_fit passes t says.0 in let same = ap length says.1 in omega arith
  good_line (b ∷ bs) xs (t ∷ ts) says (inr bad) = bad.1 t says.0 says.1

  pub says_rest : (x : List ℕ) (xs : List (List ℕ)) (ts : List PassTurn) → Say passes (x ∷ xs) ts → (us : List PassTurn) × Say passes xs us
  says_rest [] xs ts says = (ts, says)
  says_rest (b ∷ bs) xs [] says = absurd says
  says_rest (b ∷ bs) xs (t ∷ ts) says = (ts, says.2)

  -- a bad line isn't where a line is that was served
  not_here : (bad more x w : List ℕ) (xs : List (List ℕ)) (ts : List PassTurn) → IsLine bad → IsBad passes bad → IsLine x → Say passes (x ∷ xs) ts → bad ++ 10 ∷ more ≡ x ++ 10 ∷ w → ⊥
  not_here bad more x w xs ts line is_bad lx says same =
      let one = one_line bad more x w line lx same in
      good_line x xs ts says (rw (← one.0) is_bad)

  -- lines that are served go no further than the first bad one
  goes_past : (xs ys : List (List ℕ)) (bad more : List ℕ) (ts : List PassTurn) → AllByRecursion IsLine xs → Say passes xs ts
      → AllByRecursion IsLine ys → IsLine bad → IsBad passes bad → flat_map ended ys ++ (bad ++ 10 ∷ more) ≡ flat_map ended xs ++ [] → ⊥
  goes_past [] [] bad more ts lxs says lys lb is_bad same = not_empty bad more same
  goes_past [] (y ∷ ys) bad more ts lxs says lys lb is_bad same = not_empty y _ (sym (step y ys (bad ++ 10 ∷ more)) ∙ same)
  goes_past (x ∷ xs) [] bad more ts lxs says lys lb is_bad same = not_here bad more x _ xs ts lb is_bad lxs.0 says (same ∙ step x xs [])
  goes_past (x ∷ xs) (y ∷ ys) bad more ts lxs says lys lb is_bad same =
      let one = one_line y _ x _ lys.0 lxs.0 (sym (step y ys (bad ++ 10 ∷ more)) ∙ same ∙ step x xs []) in
      let rest = says_rest x xs ts says in
      goes_past xs ys bad more rest.0 lxs.1 rest.1 lys.1 lb is_bad one.1

  -- the first bad line is one
  one_number : (xs ys : List (List ℕ)) (bad more bad' more' : List ℕ) (ts us : List PassTurn) → AllByRecursion IsLine xs → Say passes xs ts → IsLine bad → IsBad passes bad
      → AllByRecursion IsLine ys → Say passes ys us → IsLine bad' → IsBad passes bad' → flat_map ended xs ++ (bad ++ 10 ∷ more) ≡ flat_map ended ys ++ (bad' ++ 10 ∷ more') → length xs ≡ length ys
  one_number [] [] bad more bad' more' ts us lxs sx lb ib lys sy lb' ib' same = refl
  one_number [] (y ∷ ys) bad more bad' more' ts us lxs sx lb ib lys sy lb' ib' same = absurd (not_here bad more y _ ys us lb ib lys.0 sy (same ∙ step y ys (bad' ++ 10 ∷ more')))
  one_number (x ∷ xs) [] bad more bad' more' ts us lxs sx lb ib lys sy lb' ib' same = absurd (not_here bad' more' x _ xs ts lb' ib' lxs.0 sx (sym same ∙ step x xs (bad ++ 10 ∷ more)))
  one_number (x ∷ xs) (y ∷ ys) bad more bad' more' ts us lxs sx lb ib lys sy lb' ib' same =
      let one = one_line x _ y _ lxs.0 lys.0 (sym (step x xs (bad ++ 10 ∷ more)) ∙ same ∙ step y ys (bad' ++ 10 ∷ more')) in
      let rx = says_rest x xs ts sx in
      let ry = says_rest y ys us sy in
      let more_lines = one_number xs ys bad more bad' more' rx.0 ry.0 lxs.1 rx.1 lb ib lys.1 ry.1 lb' ib' one.1 in
      omega arith

module _ (shape : Shape) where
  -- with a byte 10 behind the script, its first bad line has an end
  closed : {script text : List ℕ} {n : ℕ} (bad : IsFirstBad shape script text n) → (more : List ℕ) × (script ++ 10 ∷ [] ≡ flat_map ended bad.lines ++ (bad.bad ++ 10 ∷ more))
  closed bad = elim bad.ends [
    | inl whole ↦ (whole.0 ++ 10 ∷ [], ap (λ b. b ++ 10 ∷ []) bad.whole ∙ simp append_assoc (ap (λ a. flat_map ended bad.lines ++ (bad.bad ++ (a ++ 10 ∷ []))) whole.1))
    | inr last ↦ ([], ap (λ b. b ++ 10 ∷ []) bad.whole ∙ simp append_assoc (ap (λ a. flat_map ended bad.lines ++ (bad.bad ++ (a ++ 10 ∷ []))) last))
  ]

  pub IsFirstBad-one : (script text text' : List ℕ) (m n : ℕ) → IsFirstBad shape script text m → IsFirstBad shape script text' n → m ≡ n
  IsFirstBad-one script text text' m n first second =
      let one = closed first in
      let other = closed second in
      first.number
      ∙ ap (λ k. k + 1) (one_number shape.passes first.lines second.lines first.bad one.0 second.bad other.0
      first.served.turns second.served.turns first.each first.served.says first.unbroken first.is_bad
      second.each second.served.says second.unbroken second.is_bad (sym one.1 ∙ other.1))
      ∙ sym second.number

  -- a script that has a text has no bad line
  pub IsTextOf-good : (script text text' : List ℕ) (n : ℕ) → IsTextOf shape script text → IsFirstBad shape script text' n → ⊥
  IsTextOf-good script text text' n whole bad =
      let all = whole.1 in
      let end = closed bad in
      goes_past shape.passes (all.lines ++ all.last ∷ []) bad.lines bad.bad end.0 all.served.turns
      (lines-append all.lines (all.last ∷ []) all.splits.each (all.splits.partial, tt)) all.served.says
      bad.each bad.unbroken bad.is_bad
      (sym end.1 ∙ ap (λ b. b ++ 10 ∷ []) all.splits.whole ∙ simp (flat_map-append, append_assoc, append-nil))

  -- a line that was seen to be the first bad one is that of the whole script
  of_script : (seen script text : List ℕ) (n : ℕ) (end : State) (Ends : Type 0) → (rest : List ℕ) × (script ≡ seen ++ rest) × (Ends → script ≡ seen)
      → IsSeenBad shape.passes (Steps shape) (fresh shape) end Ends seen text n → IsFirstBad shape script text n
  of_script seen script text n end Ends all bad = elim bad.known [
    | inl whole ↦ record {
      lines = bad.lines;
      bad = bad.bad;
      after = bad.after ++ all.0;
      state = end;
      whole = rw (all.1, bad.whole) (simp append_assoc);
      each = bad.each;
      unbroken = bad.unbroken;
      ends = inl (whole.0 ++ all.0, ap (λ a. a ++ all.0) whole.1);
      is_bad = bad.is_bad;
      served = bad.served;
      number = bad.number;
    }
    | inr (inl long) ↦
        let rest = cut (bad.after ++ all.0) in
        record {
          lines = bad.lines;
          bad = bad.bad ++ rest.front;
          after = rest.back;
          state = end;
          whole = rw (all.1, bad.whole) (simp append_assoc (ap (λ r. flat_map ended bad.lines ++ (bad.bad ++ r)) rest.whole));
          each = bad.each;
          unbroken = IsLine-append bad.bad rest.front bad.unbroken rest.unbroken;
          ends = rest.ends;
          is_bad = inl (simp length-append (omega arith));
          served = bad.served;
          number = bad.number;
        }
    | inr (inr last) ↦ record {
      lines = bad.lines;
      bad = bad.bad;
      after = bad.after;
      state = end;
      whole = all.2 last.1 ∙ bad.whole;
      each = bad.each;
      unbroken = bad.unbroken;
      ends = inr last.0;
      is_bad = bad.is_bad;
      served = bad.served;
      number = bad.number;
    }
  ]

  -- ---- runs whose devices never failed

  module _ {R : Type 0} (hands : R → List ℕ → R → Type 0) (is_at_end : R → Type 0) (Wrote : List ℕ
      → Type 0) (before flushes : ℕ) (old new : R) (script : List ℕ) (all : HandsOut hands is_at_end old new script)
      (read write : Bool) (working : read ≡ false) (writing : write ≡ false)
    where
      pub ends_at_bad : (text : List ℕ) (n : ℕ) (result : Result (Unit {0}) RunFault) → read ≡ is_read_fault result → write ≡ is_write_fault result → is_make_fault result ≡ false
          → IsFirstBad shape script text n
          → RunOutcome shape (λ seen. hands old seen new) (is_at_end new) Wrote before flushes result
          → (result ≡ Err (fault.Line n)) ⊎ (result ≡ Err fault.TooLong)
      ends_at_bad text n (Ok u) r w made bad out =
          let end = out.1 in
          let is = (all end.0 end.2).2 end.3 in
          absurd (IsTextOf-good end.0 end.1 text n (out.0, end.6) (rw is at bad))
      ends_at_bad text n (Err fault.Read) r w made bad out = absurd (true≢false (sym r ∙ working))
      ends_at_bad text n (Err fault.Write) r w made bad out = absurd (true≢false (sym w ∙ writing))
      ends_at_bad text n (Err fault.TooLong) r w made bad out = inr refl
      ends_at_bad text n (Err (fault.Make f)) r w made bad out = absurd (true≢false made)
      ends_at_bad text n (Err (fault.Line m)) r w made bad out =
          let end = out.1 in
          inl (ap (λ k. Err (fault.Line k)) (IsFirstBad-one script end.1 text m n (of_script end.0 script end.1 m out.0 (is_at_end new) (all end.0 end.2) end.5) bad))

      pub ends_well : (text : List ℕ) (result : Result (Unit {0}) RunFault) → read ≡ is_read_fault result → write ≡ is_write_fault result → is_make_fault result ≡ false
          → IsTextOf shape script text
          → RunOutcome shape (λ seen. hands old seen new) (is_at_end new) Wrote before flushes result
          → IsOk result ⊎ (result ≡ Err fault.TooLong)
      ends_well text (Ok u) r w made good out = inl refl
      ends_well text (Err fault.Read) r w made good out = absurd (true≢false (sym r ∙ working))
      ends_well text (Err fault.Write) r w made good out = absurd (true≢false (sym w ∙ writing))
      ends_well text (Err fault.TooLong) r w made good out = inr refl
      ends_well text (Err (fault.Make f)) r w made good out = absurd (true≢false made)
      ends_well text (Err (fault.Line m)) r w made good out =
          let end = out.1 in
          absurd (IsTextOf-good script text end.1 m good (of_script end.0 script end.1 m out.0 (is_at_end new) (all end.0 end.2) end.5))
