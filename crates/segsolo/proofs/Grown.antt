-- What a marked history keeps when it goes on: its entries, and the buckets that were drawn.
use Rattle.std.proofs.Common.{◌≡◌, ◌≢◌, ℕ, ◌+◌, cond, List, [], ◌∷◌, ◌++◌, refl, sym, ap, ◌∙◌, inl, inr, ◌⊎◌, ⊎_elim, arith, eqb, eq-eqb}
use Rattle.std.proofs.lemmas.Bool.{cases_Bool, cases_eq, ne_eqb}
use Rattle.segmodel.specs.Words.{Begins, IsBetween}
use Rattle.segcore.specs.Words.{all_drawn, drawn, drawn_for, enters, entries, Mark}
use Rattle.segsolo.proofs.AlonePass.{same_moment}

-- ---- joined

drawn_joined : (more old : List Mark) (bucket : ℕ) → drawn_for (more ++ old) bucket ≡ drawn_for more bucket + drawn_for old bucket
drawn_joined [] old bucket = omega arith
drawn_joined (drawn other ∷ more) old bucket = let rest = drawn_joined more old bucket in ⊎_elim (λ t. rw t (omega arith)) (λ f. rw f (omega arith)) (cases_Bool (eqb other bucket))
drawn_joined (mark ∷ more) old bucket = drawn_joined more old bucket

all_joined : (more old : List Mark) → all_drawn (more ++ old) ≡ all_drawn more + all_drawn old
all_joined [] old = omega arith
all_joined (drawn other ∷ more) old = let rest = all_joined more old in omega arith
all_joined (mark ∷ more) old = all_joined more old

pub entries_joined : (more old : List Mark) → entries (more ++ old) ≡ entries more ++ entries old
entries_joined [] old = refl
entries_joined (enters added ∷ more) old = ap (λ l. added ∷ l) (entries_joined more old)
entries_joined (_ ∷ more) old = entries_joined more old

-- ---- begun

pub entries_begin : (old new : List Mark) → Begins old new → Begins (entries old) (entries new)
entries_begin old new (more, e) = (entries more, ap entries e ∙ entries_joined more old)

pub drawn_begin : (old new : List Mark) (bucket : ℕ) (begins : Begins old new) → drawn_for new bucket ≡ drawn_for begins.0 bucket + drawn_for old bucket
drawn_begin old new bucket (more, e) = ap (λ (l : List Mark). drawn_for l bucket) e ∙ drawn_joined more old bucket

pub all_begin : (old new : List Mark) (begins : Begins old new) → all_drawn new ≡ all_drawn begins.0 + all_drawn old
all_begin old new (more, e) = ap all_drawn e ∙ all_joined more old

-- ---- drawn for one bucket alone

pub drawn_for_one : (marks : List Mark) (bucket : ℕ) → ((other : ℕ) → other ≢ bucket → drawn_for marks other ≡ 0) → all_drawn marks ≡ drawn_for marks bucket
drawn_for_one [] bucket none = refl
drawn_for_one (drawn a ∷ marks) bucket none = elim (cases_eq a bucket) [
  | inl same ↦ ap (λ n. n + 1) (drawn_for_one marks bucket (λ other ne. sym (past other (λ e. ne (sym e ∙ same))) ∙ none other ne)) ∙ sym (here bucket same)
  | inr other ↦ let one = here a refl in let no = none a other in absurd (omega arith)
]
  where
    here : (b : ℕ) → a ≡ b → drawn_for (drawn a ∷ marks) b ≡ drawn_for marks b + 1
    here b same = ap (λ t. cond t (drawn_for marks b + 1) (drawn_for marks b)) (eq-eqb a b same)

    past : (b : ℕ) → a ≢ b → drawn_for (drawn a ∷ marks) b ≡ drawn_for marks b
    past b other = ap (λ t. cond t (drawn_for marks b + 1) (drawn_for marks b)) (ne_eqb a b other)
drawn_for_one (mark ∷ marks) bucket none = drawn_for_one marks bucket none

-- ---- one entry more

-- between a history and that with one entry more there is no third
pub one_of_two : {A : Type 0} (x : A) (before moment : List A) → IsBetween before (x ∷ before) moment → (moment ≡ before) ⊎ (moment ≡ x ∷ before)
one_of_two x before moment (since, ([], e)) = inr (sym e)
one_of_two x before moment (since, (y ∷ more, e)) = inl (same_moment before before moment refl (since, (more, tail_of x y before (more ++ moment) e)))
  where
    tail_of : {A : Type 0} (x y : A) (xs ys : List A) → x ∷ xs ≡ y ∷ ys → xs ≡ ys
    tail_of x y xs ys e = cc
