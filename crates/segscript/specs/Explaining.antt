-- What a reader finds that looks for the first bad line in the bytes that it hands out.
use Rattle.std.specs.Prelude.{◌≡◌, ◌⊎◌, ℕ, ◌+◌, ◌%◌, ◌^◌, List, [], ◌∷◌, ◌++◌, length, take, Option, Some, None, refl}
use Rattle.std.specs.List.{flat_map, AllByRecursion}
use Rattle.std.proofs.Common.{append_assoc, append-nil, sym, ◌∙◌, subst}
use Rattle.segscript.specs.Reasons.{line_fault}
use Rattle.segscript.specs.Script.{ended, IsLine, Splits}
use Rattle.segscript.specs.declared.explain.BadLine.{BadLine}
use Rattle.segscript.specs.declared.limits.TheConstants.{KEPT_BYTES}

-- None of the lines has a fault.
abbrev pub AreFine : ℕ → List (List ℕ) → Type 0
AreFine passes lines = AllByRecursion (λ line. line_fault passes line ≡ None) lines

-- the number of the line after these, modulo 2^64
abbrev pub number_after : List (List ℕ) → ℕ
number_after lines = (length lines + 1) % 2 ^ 64

-- A line of the bytes has this number and this fault. None of the lines before it has a fault.
-- The line has its end, or the bytes end with it.
pub record IsFirstFault (passes : ℕ) (seen : List ℕ) (bad : BadLine) : Type 0 where
  pub lines : List (List ℕ)
  pub line : List ℕ
  pub after : List ℕ
  pub whole : seen ≡ flat_map ended lines ++ (line ++ after)
  pub each : AllByRecursion IsLine lines
  pub unbroken : IsLine line
  pub ends : ((more : List ℕ) × (after ≡ 10 ∷ more)) ⊎ (after ≡ [])
  pub fine : AreFine passes lines
  pub fault : line_fault passes line ≡ Some bad.fault
  pub number : bad.number ≡ number_after lines

-- No line of the bytes has a fault. What has no end yet counts as a line.
pub record HasNoFault (passes : ℕ) (seen : List ℕ) : Type 0 where
  pub lines : List (List ℕ)
  pub rest : List ℕ
  pub splits : Splits seen lines rest
  pub fine : AreFine passes lines
  pub last : line_fault passes rest ≡ None

-- the first bad line of the bytes, if there is one
abbrev pub FindsBad : ℕ → List ℕ → Option BadLine → Type 0
FindsBad passes seen (Some bad) = IsFirstFault passes seen bad
FindsBad passes seen None = HasNoFault passes seen

-- ---- on the way

-- what the reader keeps: the first bytes of the line that has no end yet, the line's number,
-- and the first bad line, if its end came
pub record Look : Type 0 where
  pub passes : ℕ
  pub line : List ℕ
  pub number : ℕ
  pub bad : Option BadLine

abbrev pub look_at : ℕ → List ℕ → ℕ → Option BadLine → Look
look_at passes line number bad = record {
  passes = passes;
  line = line;
  number = number;
  bad = bad;
}

-- The reader has looked at these bytes, and no line of them that has its end has a fault.
-- Of the line without an end it keeps the first KEPT_BYTES bytes, which have the line's fault.
pub record LooksOn (look : Look) (seen : List ℕ) : Type 0 where
  pub lines : List (List ℕ)
  pub rest : List ℕ
  pub splits : Splits seen lines rest
  pub fine : AreFine look.passes lines
  pub kept : look.line ≡ take KEPT_BYTES rest
  pub number : look.number ≡ number_after lines

-- The line that was found is one of these bytes, and it has its end.
pub record HasFound (look : Look) (found : BadLine) (seen : List ℕ) : Type 0 where
  pub more : List ℕ
  pub first : IsFirstFault look.passes seen found
  pub closed : first.after ≡ 10 ∷ more

abbrev pub HasLookedFor : Look → Option BadLine → List ℕ → Type 0
HasLookedFor look None seen = LooksOn look seen
HasLookedFor look (Some found) seen = HasFound look found seen

-- what the reader keeps once it has looked at these bytes
abbrev pub HasLooked : Look → List ℕ → Type 0
HasLooked look seen = HasLookedFor look look.bad seen

-- The reader looked at these bytes too.
abbrev pub LooksAt : Look → List ℕ → Look → Type 0
LooksAt old bytes new =
    (new.passes ≡ old.passes)
    × ((seen : List ℕ) → HasLooked old seen → HasLooked new (seen ++ bytes))

pub looks_none : (look : Look) → LooksAt look [] look
looks_none look = (refl, λ seen looked. subst (HasLooked look) (sym (append-nil seen)) looked)

pub looks_more : (s t u : Look) (a b : List ℕ) → LooksAt s a t → LooksAt t b u
    → LooksAt s (a ++ b) u
looks_more s t u a b first then = (
  then.0 ∙ first.0,
  λ seen looked. subst (HasLooked u) (append_assoc seen a b)
      (then.1 (seen ++ a) (first.1 seen looked)),
)
