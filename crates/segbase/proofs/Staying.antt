-- A segment in which a pass stays isn't filled again.
use Rattle.std.proofs.Common.{◌≡◌, ℕ, ◌<◌, List, [], ◌∷◌, ◌++◌, sym, subst, append_assoc}
use Rattle.segword.specs.Words.{Shape}
use Rattle.segcore.specs.Words.{Event, inside, IsLawful, NoneRefills}
use Rattle.segbase.specs.Traces.{StaysIn}
use Rattle.segbase.proofs.Owning.{inside_follows}
use Rattle.segcore.proofs.Entered.{not_refilled}

pub inside_on : (es h g : List Event) (p s : ℕ) → inside h p s ≡ inside g p s → inside (es ++ h) p s ≡ inside (es ++ g) p s
inside_on [] h g p s same = same
inside_on (e ∷ es) h g p s same = (inside_follows p s).again e (es ++ h) (es ++ g) (inside_on es h g p s same)

pub stays_now : (own h : List Event) (p s : ℕ) → StaysIn own h p s → 0 < inside (own ++ h) p s
stays_now [] h p s t = t
stays_now (e ∷ own) h p s t = t.0

pub stays_first : (xs ys h : List Event) (p s : ℕ) → StaysIn (xs ++ ys) h p s → StaysIn ys h p s
stays_first [] ys h p s t = t
stays_first (e ∷ xs) ys h p s t = stays_first xs ys h p s t.1

-- the later events, after a trace at which the pass is in the segment as often
pub stays_last : (xs ys h g : List Event) (p s : ℕ) → inside g p s ≡ inside (ys ++ h) p s → StaysIn (xs ++ ys) h p s → StaysIn xs g p s
stays_last [] ys h g p s same t = subst (λ n. 0 < n) (sym same) (stays_now ys h p s t)
stays_last (e ∷ xs) ys h g p s same t = (
  subst (λ n. 0 < n) (inside_on (e ∷ xs) (ys ++ h) g p s (sym same)) (let x : 0 < inside (e ∷ ((xs ++ ys) ++ h)) p s = t.0 in rw (← append_assoc xs ys h) x),
  stays_last xs ys h g p s same t.1,
)

pub stays_both : (xs ys h g : List Event) (p s : ℕ) → inside g p s ≡ inside (ys ++ h) p s → StaysIn xs g p s → StaysIn ys h p s → StaysIn (xs ++ ys) h p s
stays_both [] ys h g p s same t u = u
stays_both (e ∷ xs) ys h g p s same t u = (
  (let x : 0 < inside (e ∷ (xs ++ (ys ++ h))) p s = subst (λ n. 0 < n) (inside_on (e ∷ xs) g (ys ++ h) p s same) t.0 in rw (append_assoc xs ys h) x),
  stays_both xs ys h g p s same t.1 u,
)

pub none_both : (s : ℕ) (xs ys : List Event) → NoneRefills s xs → NoneRefills s ys → NoneRefills s (xs ++ ys)
none_both s [] ys a b = b
none_both s (e ∷ xs) ys a b = (a.0, none_both s xs ys a.1 b)

pub none_refilled : (z : Shape) (es h g : List Event) (p s : ℕ) → p < z.passes → IsLawful z (es ++ h) → inside h p s ≡ inside g p s → StaysIn es g p s → NoneRefills s es
none_refilled z [] h g p s few l same t = tt
none_refilled z (e ∷ es) h g p s few l same t = (
  not_refilled z e (es ++ h) p s few l (subst (λ n. 0 < n) (inside_on es g h p s (sym same)) (stays_now es g p s t.1)),
  none_refilled z es h g p s few l.0 same t.1,
)
