-- The bad line that is found in some bytes is the one that a run reports of them.
use Rattle.std.proofs.Common.{◌≡◌, ℕ, ◌+◌, ◌%◌, ◌^◌, ◌⊎◌, inl, inr, List, [], ◌∷◌, ◌++◌, length, Option, Some, None, refl, sym, ◌∙◌, ap, subst, arith, append_assoc, append-nil, length-append}
use Rattle.std.specs.Prelude.{is_some}
use Rattle.std.specs.List.{flat_map, AllByRecursion}
use Rattle.std.proofs.lemmas.Bool.{false≢true}
use Rattle.std.proofs.lemmas.Grind.{flat_map-append}
use Rattle.segscript.specs.Spelling.{PassTurn}
use Rattle.segscript.specs.Script.{ended, IsBad, IsLine, Say}
use Rattle.segscript.specs.Reasons.{line_fault}
use Rattle.segscript.specs.Explaining.{AreFine, FindsBad}
use Rattle.segscript.specs.Laws.{ExplainedIsReported}
use Rattle.segscript.specs.declared.explain.BadLine.{BadLine}
use Rattle.segscript.proofs.LineLemmas.{IsLine-append, lines-append}
use Rattle.segscript.proofs.OneBadLine.{cut, good_line, not_empty, one_line, says_rest, step}
use Rattle.segscript.proofs.Reasons.{has_fault, is_bad}
use Rattle.segscript.specs.declared.limits.TheConstants.{KEPT_BYTES}

module _ (passes : ℕ) where
  abbrev NoneBad : List (List ℕ) → Type 0
  NoneBad lines = AllByRecursion (λ line. IsBad passes line → ⊥) lines

  served_good : (lines : List (List ℕ)) (turns : List PassTurn) → Say passes lines turns → NoneBad lines
  served_good [] turns says = tt
  served_good (x ∷ xs) turns says = let rest = says_rest passes x xs turns says in (good_line passes x xs turns says, served_good xs rest.0 rest.1)

  good : (line : List ℕ) → line_fault passes line ≡ None → IsBad passes line → ⊥
  good line none bad = false≢true (sym (ap is_some none) ∙ has_fault passes line bad)

  fine_good : (lines : List (List ℕ)) → AreFine passes lines → NoneBad lines
  fine_good [] fine = tt
  fine_good (x ∷ xs) fine = (good x fine.0, fine_good xs fine.1)

  not_here : (bad more x w : List ℕ) → IsLine bad → IsBad passes bad → IsLine x → (IsBad passes x → ⊥) → bad ++ 10 ∷ more ≡ x ++ 10 ∷ w → ⊥
  not_here bad more x w line bad_here lx none same = none (subst (IsBad passes) (one_line bad more x w line lx same).0 bad_here)

  -- lines that aren't bad go no further than the first bad one
  goes_past : (xs ys : List (List ℕ)) (bad more : List ℕ) → AllByRecursion IsLine xs → NoneBad xs → AllByRecursion IsLine ys → IsLine bad → IsBad passes bad
      → flat_map ended ys ++ (bad ++ 10 ∷ more) ≡ flat_map ended xs ++ [] → ⊥
  goes_past [] [] bad more lxs none lys lb ib same = not_empty bad more same
  goes_past [] (y ∷ ys) bad more lxs none lys lb ib same = not_empty y _ (sym (step y ys (bad ++ 10 ∷ more)) ∙ same)
  goes_past (x ∷ xs) [] bad more lxs none lys lb ib same = not_here bad more x _ lb ib lxs.0 none.0 (same ∙ step x xs [])
  goes_past (x ∷ xs) (y ∷ ys) bad more lxs none lys lb ib same =
      let one = one_line y _ x _ lys.0 lxs.0 (sym (step y ys (bad ++ 10 ∷ more)) ∙ same ∙ step x xs []) in
      goes_past xs ys bad more lxs.1 none.1 lys.1 lb ib one.1

  -- the first bad line is one
  one_place : (xs ys : List (List ℕ)) (bad more bad' more' : List ℕ) → AllByRecursion IsLine xs → NoneBad xs → IsLine bad → IsBad passes bad
      → AllByRecursion IsLine ys → NoneBad ys → IsLine bad' → IsBad passes bad' → flat_map ended xs ++ (bad ++ 10 ∷ more) ≡ flat_map ended ys ++ (bad' ++ 10 ∷ more') → length xs ≡ length ys
  one_place [] [] bad more bad' more' lxs nx lb ib lys ny lb' ib' same = refl
  one_place [] (y ∷ ys) bad more bad' more' lxs nx lb ib lys ny lb' ib' same = absurd (not_here bad more y _ lb ib lys.0 ny.0 (same ∙ step y ys (bad' ++ 10 ∷ more')))
  one_place (x ∷ xs) [] bad more bad' more' lxs nx lb ib lys ny lb' ib' same = absurd (not_here bad' more' x _ lb' ib' lxs.0 nx.0 (sym same ∙ step x xs (bad ++ 10 ∷ more)))
  one_place (x ∷ xs) (y ∷ ys) bad more bad' more' lxs nx lb ib lys ny lb' ib' same =
      let one = one_line x _ y _ lxs.0 lys.0 (sym (step x xs (bad ++ 10 ∷ more)) ∙ same ∙ step y ys (bad' ++ 10 ∷ more')) in
      let rest = one_place xs ys bad more bad' more' lxs.1 nx.1 lb ib lys.1 ny.1 lb' ib' one.1 in
      omega (arith, rest)

  -- a bad line at its place, as it stands with a byte 10 behind the bytes
  record Closed (seen : List ℕ) (lines : List (List ℕ)) : Type 0 where
    bad : List ℕ
    more : List ℕ
    unbroken : IsLine bad
    is_bad : IsBad passes bad
    whole : seen ++ 10 ∷ [] ≡ flat_map ended lines ++ (bad ++ 10 ∷ more)

  close : (seen : List ℕ) (lines : List (List ℕ)) (line after : List ℕ)
      → seen ≡ flat_map ended lines ++ (line ++ after) → IsLine line → IsBad passes line
      → ((more : List ℕ) × (after ≡ 10 ∷ more)) ⊎ (after ≡ []) → Closed seen lines
  close seen lines line after whole unbroken bad (inl (more, is)) = record {
    bad = line;
    more = more ++ 10 ∷ [];
    unbroken = unbroken;
    is_bad = bad;
    whole = ap (λ b. b ++ 10 ∷ []) whole ∙ simp append_assoc (ap (λ a. flat_map ended lines ++ (line ++ (a ++ 10 ∷ []))) is);
  }
  close seen lines line after whole unbroken bad (inr is) = record {
    bad = line;
    more = [];
    unbroken = unbroken;
    is_bad = bad;
    whole = ap (λ b. b ++ 10 ∷ []) whole ∙ simp append_assoc (ap (λ a. flat_map ended lines ++ (line ++ (a ++ 10 ∷ []))) is);
  }

  -- a line that is cut after KEPT_BYTES bytes is bad, however it goes on
  close_long : (seen : List ℕ) (lines : List (List ℕ)) (line after : List ℕ) → seen ≡ flat_map ended lines ++ (line ++ after) → IsLine line → length line ≡ KEPT_BYTES → Closed seen lines
  close_long seen lines line after whole unbroken long =
      let rest = cut after in
      let longer = length-append line rest.front in
      close seen lines (line ++ rest.front) rest.back (whole ∙ ap (λ l. flat_map ended lines ++ l) (ap (λ a. line ++ a) rest.whole ∙ sym (append_assoc line rest.front rest.back)))
      (IsLine-append line rest.front unbroken rest.unbroken) (inl (omega (arith, longer, long))) rest.ends

pub explained : ExplainedIsReported
explained shape start end seen text n found reported finds = by found finds
  where
    passes : ℕ
    passes = shape.passes

    closed : Closed passes seen reported.lines
    closed = elim reported.known [
      | inl whole ↦ close passes seen reported.lines reported.bad reported.after reported.whole reported.unbroken reported.is_bad (inl whole)
      | inr other ↦ elim other [
        | inl long ↦ close_long passes seen reported.lines reported.bad reported.after reported.whole reported.unbroken long
        | inr last ↦ close passes seen reported.lines reported.bad reported.after reported.whole reported.unbroken reported.is_bad (inr last.0)
      ]
    ]

    before : NoneBad passes reported.lines
    before = served_good passes reported.lines reported.served.turns reported.served.says

    by : (found : Option BadLine) → FindsBad passes seen found → (bad : BadLine) × (found ≡ Some bad) × (bad.number ≡ n % 2 ^ 64)
    by None none = absurd (goes_past passes (none.lines ++ none.rest ∷ []) reported.lines closed.bad closed.more
        (lines-append none.lines (none.rest ∷ []) none.splits.each (none.splits.partial, tt)) (fine_good passes (none.lines ++ none.rest ∷ []) all)
        reported.each closed.unbroken closed.is_bad (sym closed.whole ∙ ap (λ b. b ++ 10 ∷ []) none.splits.whole ∙ simp (flat_map-append, append_assoc, append-nil)))
      where
        join : (xs : List (List ℕ)) → AreFine passes xs → AreFine passes (xs ++ none.rest ∷ [])
        join [] fine = (none.last, tt)
        join (x ∷ xs) fine = (fine.0, join xs fine.1)

        all : AreFine passes (none.lines ++ none.rest ∷ [])
        all = join none.lines none.fine
    by (Some bad) first =
        let other = close passes seen first.lines first.line first.after first.whole first.unbroken (is_bad passes first.line (ap is_some first.fault)) first.ends in
        let same = one_place passes first.lines reported.lines other.bad other.more closed.bad closed.more first.each (fine_good passes first.lines first.fine) other.unbroken other.is_bad
        reported.each before closed.unbroken closed.is_bad (sym other.whole ∙ closed.whole) in
        (bad, refl, first.number ∙ ap (λ k. (k + 1) % 2 ^ 64) same ∙ ap (λ k. k % 2 ^ 64) (sym reported.number))
