-- Worked examples: what a get and a gets may answer between two moments, and what they may not;
-- and how many steps they may take.
use Rattle.std.proofs.Common.{◌≡◌, ◌⊎◌, ℕ, ◌+◌, ◌-◌, ◌≤◌, List, [], ◌∷◌, ◌++◌, Option, Some, None, length, refl, sym, ap, ◌∙◌, subst, inl, inr, ⊎_elim, arith}
use Rattle.std.proofs.lemmas.List.{length-append}
use Rattle.segword.specs.Words.{head_width, value_width}
use Rattle.segmodel.specs.declared.answer.GetAnswer.TheVariants as get
use Rattle.segmodel.specs.Example.{shape, a, e, one, two, added, refused}
use Rattle.segmodel.specs.Words.{after, Begins, Entry, IsBetween, reads, stirred}
use Rattle.segcore.specs.Words.{entered, glanced}
use Rattle.segbase.specs.Words.{count, Pass, seen}
use Rattle.segstore.specs.Words.{step_count, TakesAtMost}
use Rattle.segread.specs.Costs.{most_steps_of_get, most_steps_of_gets}
use Rattle.segread.specs.Hits.{PaysForGlances}
use Rattle.segread.specs.Reads.{ReadsBetween, IsGetAnswer}
use Rattle.segread.specs.Gets.{ReadsVersionBetween, PresentBetween, IsDisturbed}

-- ---- the moments between two

same_tail : {A : Type 0} (x y : A) (xs ys : List A) → x ∷ xs ≡ y ∷ ys → xs ≡ ys
same_tail x y xs ys e = cc

-- what grew to a list came to the list itself, or to the list before
grew : {A : Type 0} (x : A) (xs h more : List A) → x ∷ xs ≡ more ++ h → (h ≡ x ∷ xs) ⊎ Begins h xs
grew x xs h [] e = inl (sym e)
grew x xs h (y ∷ more) e = inr (more, same_tail x y xs (more ++ h) e)

-- each of two lists goes on from the other
one_list : {A : Type 0} (old h more less : List A) → h ≡ more ++ old → old ≡ less ++ h → h ≡ old
one_list old h [] less up down = up
one_list old h (x ∷ more) less up down =
    let longer = ap length up ∙ length-append (x ∷ more) old in let shorter = ap length down ∙ length-append less h in
    absurd (omega (arith, longer, shorter))

pub between_two : {A : Type 0} (x y : A) (old h : List A) → IsBetween old (x ∷ y ∷ old) h → (h ≡ x ∷ y ∷ old) ⊎ ((h ≡ y ∷ old) ⊎ (h ≡ old))
between_two x y old h b = ⊎_elim inl
    (λ before. inr (⊎_elim inl (λ first. inr (one_list old h b.0.0 first.0 b.0.1 first.1)) (grew y old h before.0 before.1)))
    (grew x (y ∷ old) h b.1.0 b.1.1)

-- ---- what was read

-- one more than the first byte that was read, or 0 if nothing was
abbrev first : Option (List ℕ) → ℕ
first (Some (x ∷ xs)) = x + 1
first (Some []) = 1
first None = 0

some_first : (value : List ℕ) → first (Some value) ≡ 0 → ⊥
some_first [] e = absurd (omega (arith, e))
some_first (x ∷ xs) e = absurd (omega (arith, e))

-- at each moment between these, a get reads what it reads at the newest one
always : (key : List ℕ) (now : ℕ) (x y : Entry) (old : List Entry) (read : Option (List ℕ))
    → first (reads (after shape (y ∷ old)) now key) ≡ first (reads (after shape (x ∷ y ∷ old)) now key)
    → first (reads (after shape old) now key) ≡ first (reads (after shape (x ∷ y ∷ old)) now key)
    → ReadsBetween shape key now old (x ∷ y ∷ old) read → first read ≡ first (reads (after shape (x ∷ y ∷ old)) now key)
always key now x y old read middle begin r =
    let at = λ (h : List Entry). first (reads (after shape h) now key) in let told = ap first (sym r.2) in ⊎_elim
    (λ last. told ∙ ap at last)
    (λ earlier. ⊎_elim (λ second. told ∙ (ap at second ∙ middle)) (λ oldest. told ∙ (ap at oldest ∙ begin)) earlier)
    (between_two x y old r.0 r.1)

-- a is added between the two moments: a get reads it, or nothing
new_key_is_read : ReadsBetween shape a 0 [] added (Some one)
new_key_is_read = (added, ((added, refl), ([], refl)), refl)

new_key_is_missed : ReadsBetween shape a 0 [] added None
new_key_is_missed = ([], (([], refl), (added, refl)), refl)

-- before the first of them it can't read it, nor a later set of another key
new_key_is_not_ahead : ¬ (ReadsBetween shape e 0 [] added (Some two))
new_key_is_not_ahead r = let same : 51 ≡ 0 = always e 0 _ _ [] (Some two) refl refl r in absurd (omega (arith, same))

-- while e is set and a cas is refused, a stands: a get can't miss a, nor read what no set brought
standing_key_is_read : ReadsBetween shape a 9 added refused (Some one)
standing_key_is_read = (refused, ((_ ∷ _ ∷ [], refl), ([], refl)), refl)

standing_key_is_not_missed : ¬ (ReadsBetween shape a 9 added refused None)
standing_key_is_not_missed r = let same : 0 ≡ 50 = always a 9 _ _ added None refl refl r in absurd (omega (arith, same))

standing_key_has_its_value : ¬ (ReadsBetween shape a 9 added refused (Some two))
standing_key_has_its_value r = let same : 51 ≡ 50 = always a 9 _ _ added (Some two) refl refl r in absurd (omega (arith, same))

-- from its segment's deadline on a get misses a, and can't read it
expired_key_is_missed : ReadsBetween shape a 10 added refused None
expired_key_is_missed = (added, (([], refl), (_ ∷ _ ∷ [], refl)), refl)

expired_key_is_not_read : ¬ (ReadsBetween shape a 10 added refused (Some one))
expired_key_is_not_read r = let same : 50 ≡ 0 = always a 10 _ _ added (Some one) refl refl r in absurd (omega (arith, same))

-- two entries don't make a get Busy
get_is_not_busy : ¬ (IsGetAnswer shape a 0 get.Busy added refused)
get_is_not_busy many = let few : 64 ≤ 2 = many in absurd (omega (arith, few))

-- ---- versions

-- the value and the version are of one moment: the set of e raised the version
version_before : ReadsVersionBetween shape a 0 added refused (Some (one, 1))
version_before = (added, (([], refl), (_ ∷ _ ∷ [], refl)), refl)

version_after : ReadsVersionBetween shape a 0 added refused (Some (one, 2))
version_after = (refused, ((_ ∷ _ ∷ [], refl), ([], refl)), refl)

-- ---- disturbed

abbrev absent : List ℕ
absent = 98 ∷ []

-- two entries of the bucket, and 62 looks that found its bit set, make a gets of a Busy: a was present
disturbed_by_looks : (p q : Pass) → seen q ≡ refused → count (glanced 0) p ≡ 5 → count (glanced 0) q ≡ 67 → IsDisturbed shape a 0 added p q
disturbed_by_looks p q s before after = rw s (inr (rw (before, after) (omega arith), (one, standing)))
  where
    standing : ReadsBetween shape a 0 added refused (Some one)
    standing = (added, (([], refl), (_ ∷ _ ∷ [], refl)), refl)

-- one look fewer doesn't
not_disturbed_by_few : (p q : Pass) → seen q ≡ refused → count (glanced 0) p ≡ 5 → count (glanced 0) q ≡ 66 → ¬ (IsDisturbed shape a 0 added p q)
not_disturbed_by_few p q s before after d =
    by (subst (λ h. (64 ≤ stirred shape a added h)
    ⊎ ((64 ≤ stirred shape a added h + (count (glanced 0) q - count (glanced 0) p))
    × PresentBetween shape a 0 added h)) s d)
  where
    by : (64 ≤ 2) ⊎ ((64 ≤ 2 + (count (glanced 0) q - count (glanced 0) p)) × PresentBetween shape a 0 added refused) → ⊥
    by (inl many) = absurd (omega (arith, many))
    by (inr (many, present)) = absurd (omega (arith, many, before, after))

-- of a key that never stood, 99 looks don't
absent_key_is_not_disturbed : (p q : Pass) → seen q ≡ refused → count (glanced 0) p ≡ 0 → count (glanced 0) q ≡ 99 → ¬ (IsDisturbed shape absent 0 added p q)
absent_key_is_not_disturbed p q s before after d =
    by (subst (λ h. (64 ≤ stirred shape absent added h)
    ⊎ ((64 ≤ stirred shape absent added h + (count (glanced 0) q - count (glanced 0) p))
    × PresentBetween shape absent 0 added h)) s d)
  where
    by : (64 ≤ 2) ⊎ ((64 ≤ 2 + (count (glanced 0) q - count (glanced 0) p)) × PresentBetween shape absent 0 added refused) → ⊥
    by (inl many) = absurd (omega (arith, many))
    by (inr (many, (value, r))) = some_first value (always absent 0 _ _ added (Some value) refl refl r)

-- ---- steps

-- where the lengths and the longest key have four words, and the longest value has four
abbrev IsShort : Type 0
IsShort = (head_width ≡ 4) × (value_width ≡ 4)

-- there a get takes 670 at most, and no more
get_in_steps : (p q : Pass) → IsShort → step_count p ≡ 5 → step_count q ≡ 5 + 670 → TakesAtMost most_steps_of_get p q
get_in_steps p q short before after = omega (arith, short.0, short.1, before, after)

get_in_no_more : (p q : Pass) → IsShort → step_count p ≡ 5 → step_count q ≡ 6 + 670 → ¬ (TakesAtMost most_steps_of_get p q)
get_in_no_more p q short before after took = absurd (omega (arith, short.0, short.1, before, after, took))

-- a gets takes 1302 at most, and no more
gets_in_steps : (p q : Pass) → IsShort → step_count p ≡ 5 → step_count q ≡ 5 + 1302 → TakesAtMost most_steps_of_gets p q
gets_in_steps p q short before after = omega (arith, short.0, short.1, before, after)

gets_in_no_more : (p q : Pass) → IsShort → step_count p ≡ 5 → step_count q ≡ 6 + 1302 → ¬ (TakesAtMost most_steps_of_gets p q)
gets_in_no_more p q short before after took = absurd (omega (arith, short.0, short.1, before, after, took))

-- two comings into segments pay for two looks that found a bucket's bit set, and not for three
two_are_paid : (p q : Pass) → ((bucket : ℕ) → count (glanced bucket) q ≤ count (glanced bucket) p + 2) → count entered p ≡ 7 → count entered q ≡ 9 → PaysForGlances p q
two_are_paid p q two before after bucket = let few = two bucket in omega (arith, few, before, after)

three_are_not_paid : (p q : Pass) → count (glanced 0) p ≡ 4 → count (glanced 0) q ≡ 7 → count entered p ≡ 7 → count entered q ≡ 9 → ¬ (PaysForGlances p q)
three_are_not_paid p q none three before after pays = let paid = pays 0 in absurd (omega (arith, paid, none, three, before, after))
