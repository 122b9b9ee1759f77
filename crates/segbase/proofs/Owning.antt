-- A pass's own events, picked from among all: whatever only they change is the same for them alone.
use Rattle.std.proofs.Common.{◌≡◌, ◌≢◌, ℕ, ◌+◌, ◌-◌, cond, eqb, ◌&&◌, List, [], ◌∷◌, ◌++◌, Option, Some, None, refl, sym, ap, ◌∙◌, ⊎_elim}
use Rattle.std.proofs.lemmas.Bool.{cases_Bool, eq-eqb, ne_eqb, false≢true}
use Rattle.segcore.specs.declared.event.Event.TheVariants.{Entered, Left}
use Rattle.segcore.specs.Words.{AllBy, by, count, Counted, entry_of, Event, inside, is_counted}
use Rattle.segcore.specs.Words.{NoneBy, seen, with_entry}
use Rattle.segmodel.specs.Words.{Entry, mine, pass_of}
use Rattle.segcore.proofs.Counts.{mine_others, count_others}
use Rattle.segcore.proofs.Quiet.{quiet_inside}
use Rattle.segbase.specs.Traces.{own_of}

pub own_all : (p : ℕ) (es : List Event) → AllBy p es → own_of p es ≡ es
own_all p [] a = refl
own_all p (e ∷ es) a = rw (eq-eqb (by e) p a.0) (ap (λ x. e ∷ x) (own_all p es a.1))

pub own_none : (p : ℕ) (es : List Event) → NoneBy p es → own_of p es ≡ []
own_none p [] n = refl
own_none p (e ∷ es) n = rw (ne_eqb (by e) p n.0) (own_none p es n.1)

pub own_both : (p : ℕ) (xs ys : List Event) → own_of p (xs ++ ys) ≡ own_of p xs ++ own_of p ys
own_both p [] ys = refl
own_both p (e ∷ xs) ys = ⊎_elim
    (λ t. rw t (ap (λ x. e ∷ x) (own_both p xs ys)))
    (λ f. rw f (own_both p xs ys))
    (cases_Bool (eqb (by e) p))

-- whatever follows from what was before and the pass's own events alone
pub record Follows {A : Type 0} (p : ℕ) (F : List Event → A) : Type 0 where
  pub again : (e : Event) (h g : List Event) → F h ≡ F g → F (e ∷ h) ≡ F (e ∷ g)
  pub skips : (e : Event) (h : List Event) → by e ≢ p → F (e ∷ h) ≡ F h

pub own_same : {A : Type 0} (p : ℕ) (F : List Event → A) → Follows p F → (more h : List Event) → F (more ++ h) ≡ F (own_of p more ++ h)
own_same p F f [] h = refl
own_same p F f (e ∷ more) h = let ih = own_same p F f more h in ⊎_elim
    (λ t. rw t (f.again e (more ++ h) (own_of p more ++ h) ih))
    (λ n. rw n (f.skips e (more ++ h) (λ same. false≢true (sym n ∙ eq-eqb (by e) p same)) ∙ ih))
    (cases_Bool (eqb (by e) p))

inside_again : (p s : ℕ) (e : Event) (h g : List Event) → inside h p s ≡ inside g p s → inside (e ∷ h) p s ≡ inside (e ∷ g) p s
inside_again p s (Entered q t) h g same = ap (λ n. cond (eqb q p && eqb t s) (n + 1) n) same
inside_again p s (Left q t) h g same = ap (λ n. cond (eqb q p && eqb t s) (n - 1) n) same
inside_again p s e h g same = same

pub inside_follows : (p s : ℕ) → Follows p (λ h. inside h p s)
inside_follows p s = record { again = inside_again p s; skips = λ e h n. quiet_inside (e ∷ []) h p s (n, tt) }

mine_with : (p : ℕ) (o : Option Entry) (h g : List Entry) → mine p h ≡ mine p g → mine p (with_entry o h) ≡ mine p (with_entry o g)
mine_with p None h g same = same
mine_with p (Some added) h g same = ap (λ x. cond (eqb (pass_of added) p) (added ∷ x) x) same

mine_follows : (p : ℕ) → Follows p (λ h. mine p (seen h))
mine_follows p = record { again = λ e h g same. mine_with p (entry_of e) (seen h) (seen g) same; skips = λ e h n. mine_others p (e ∷ []) h (n, tt) }

count_again : (what : Counted) (p : ℕ) (e : Event) (h g : List Event) → count what p h ≡ count what p g → count what p (e ∷ h) ≡ count what p (e ∷ g)
count_again what p e h g same = ap (λ n. cond (is_counted what p e) (n + 1) n) same

pub own_inside : (more h : List Event) (p s : ℕ) → inside (more ++ h) p s ≡ inside (own_of p more ++ h) p s
own_inside more h p s = own_same p (λ g. inside g p s) (inside_follows p s) more h

pub own_mine : (more h : List Event) (p : ℕ) → mine p (seen (more ++ h)) ≡ mine p (seen (own_of p more ++ h))
own_mine more h p = own_same p (λ g. mine p (seen g)) (mine_follows p) more h

pub own_count : (what : Counted) (more h : List Event) (p : ℕ) → count what p (more ++ h) ≡ count what p (own_of p more ++ h)
own_count what more h p = own_same p (count what p) (record { again = count_again what p; skips = λ e h n. count_others what p (e ∷ []) h (n, tt) }) more h
