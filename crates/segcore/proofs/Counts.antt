-- The counts of a pass: other passes' events leave them, and its own steps add to them what their kind says.
use Rattle.std.proofs.Common.{◌≡◌, ◌≢◌, ℕ, ◌+◌, ◌%◌, Bool, true, false, cond, eqb, List, [], ◌∷◌, ◌++◌, Option, Some, None, sym, refl, ap, ◌∙◌, arith, ◌*◌, ◌^◌}
use Rattle.std.proofs.lemmas.Bool.{cond-true, cond-false, eq-eqb, ne_eqb}
use Rattle.segmodel.specs.declared.request.Reply.TheVariants.{Stored}
use Rattle.segmodel.specs.declared.entry.Entry.TheVariants as entry
use Rattle.segmodel.specs.Words.{Entry, mine, pass_of, Reply, Request, tag_of}
use Rattle.segcore.specs.Words.{Event, Leaving}
use Rattle.segcore.specs.declared.event.Event.TheVariants.{Took, Bounced, Glanced, Replied, Linked, Relinked, Unlinked, Drew, Bumped, Entered, Refilled}
use Rattle.segcore.specs.Event.{by, removal, entry_of, with_entry, seen, NoneBy, AllBy}
use Rattle.segcore.specs.ItemWord.{packed}
use Rattle.segcore.specs.Kind.{Step, take, release, info_look, glance, look, link, relink, clear, draw, fill, chain, bump, row_store, row_load, enter, leave, none_reading, told, unless_own, adds}
use Rattle.segcore.specs.Count.{Counted, taken, bounced, glanced, drew, raised, entered, is_counted, count, CountsStep}
use Rattle.segcore.specs.declared.event.Leaving.TheVariants.{Deletes, Evicts}

-- ---- entries

-- an entry is of the pass whose event it is
removal_by : (p : ℕ) (k : List ℕ) (why : Leaving) → pass_of (removal p k why) ≡ p
removal_by p k (Deletes m) = refl
removal_by p k (Evicts s) = refl

mine_of : (p : ℕ) (x : Entry) (h : List Entry) → pass_of x ≡ p → mine p (x ∷ h) ≡ x ∷ mine p h
mine_of p x h e = cond-true (eqb (pass_of x) p) (x ∷ mine p h) (mine p h) (eq-eqb (pass_of x) p e)

mine_not : (p : ℕ) (x : Entry) (h : List Entry) → pass_of x ≢ p → mine p (x ∷ h) ≡ mine p h
mine_not p x h ne = cond-false (eqb (pass_of x) p) (x ∷ mine p h) (mine p h) (ne_eqb (pass_of x) p ne)

other_entry : (p : ℕ) (e : Event) (h : List Event) → by e ≢ p → mine p (seen (e ∷ h)) ≡ mine p (seen h)
other_entry p (Replied q r y) h ne = mine_not p (entry.Wrote q r y None) (seen h) ne
other_entry p (Linked q r s i n) h ne = mine_not p (entry.Wrote q r Stored (Some s)) (seen h) ne
other_entry p (Unlinked q k n why) h ne = mine_not p (removal q k why) (seen h) (λ e. ne (sym (removal_by q k why) ∙ e))
other_entry p (Relinked q k a i s r n) h ne = mine_not p (entry.Moved q k a s) (seen h) ne
other_entry p (Refilled q s d) h ne = mine_not p (entry.Refilled q s d) (seen h) ne
other_entry p e h ne = refl

own_entry : (p : ℕ) (e : Event) (h : List Event) → by e ≡ p → mine p (seen (e ∷ h)) ≡ with_entry (entry_of e) (mine p (seen h))
own_entry p (Replied q r y) h is = mine_of p (entry.Wrote q r y None) (seen h) is
own_entry p (Linked q r s i n) h is = mine_of p (entry.Wrote q r Stored (Some s)) (seen h) is
own_entry p (Unlinked q k n why) h is = mine_of p (removal q k why) (seen h) (removal_by q k why ∙ is)
own_entry p (Relinked q k a i s r n) h is = mine_of p (entry.Moved q k a s) (seen h) is
own_entry p (Refilled q s d) h is = mine_of p (entry.Refilled q s d) (seen h) is
own_entry p e h is = refl

pub mine_others : (p : ℕ) (more h : List Event) → NoneBy p more → mine p (seen (more ++ h)) ≡ mine p (seen h)
mine_others p [] h n = refl
mine_others p (e ∷ more) h n = other_entry p e (more ++ h) n.0 ∙ mine_others p more h n.1

with_both : (o : Option Entry) (xs ys : List Entry) → with_entry o (xs ++ ys) ≡ with_entry o xs ++ ys
with_both None xs ys = refl
with_both (Some x) xs ys = refl

pub mine_own : (p : ℕ) (es h : List Event) → AllBy p es → mine p (seen (es ++ h)) ≡ seen es ++ mine p (seen h)
mine_own p [] h a = refl
mine_own p (e ∷ es) h a = own_entry p e (es ++ h) a.0 ∙ (ap (with_entry (entry_of e)) (mine_own p es h a.1) ∙ with_both (entry_of e) (seen es) (mine p (seen h)))

-- ---- counts

-- an event of another pass isn't counted
not_counted : (what : Counted) (p : ℕ) (e : Event) → by e ≢ p → is_counted what p e ≡ false
not_counted taken p (Took q b) ne = ne_eqb q p ne
not_counted (bounced c) p (Bounced q b) ne = rw (ne_eqb q p ne) refl
not_counted (glanced c) p (Glanced q b) ne = rw (ne_eqb q p ne) refl
not_counted (drew c) p (Drew q b d m) ne = rw (ne_eqb q p ne) refl
not_counted raised p (Bumped q s r f) ne = ne_eqb q p ne
not_counted entered p (Entered q s) ne = ne_eqb q p ne
not_counted what p e ne = refl

pub count_others : (what : Counted) (p : ℕ) (more h : List Event) → NoneBy p more → count what p (more ++ h) ≡ count what p h
count_others what p [] h n = refl
count_others what p (e ∷ more) h n = cond-false (is_counted what p e) (count what p (more ++ h) + 1) (count what p (more ++ h)) (not_counted what p e n.0) ∙ count_others what p more h n.1

both : (t : Bool) (n m k : ℕ) → n ≡ m + k → cond t (n + 1) n ≡ cond t (m + 1) m + k
both true n m k e = omega (arith, e)
both false n m k e = e

pub count_both : (what : Counted) (p : ℕ) (xs h : List Event) → count what p (xs ++ h) ≡ count what p xs + count what p h
count_both what p [] h = omega arith
count_both what p (e ∷ xs) h = both (is_counted what p e) (count what p (xs ++ h)) (count what p xs) (count what p h) (count_both what p xs h)

pub one_more : (t : Bool) (n : ℕ) → cond t (n + 1) n ≡ cond t 1 0 + n
one_more true n = omega arith
one_more false n = omega arith

pub bump_raised : (p : ℕ) (h : List Event) (s r g : ℕ) (t : Bool) → count raised p (cond t (Bumped p s r g ∷ []) [] ++ h) ≡ cond t 1 0 + count raised p h
bump_raised p h s r g true = rw (eq-eqb p p refl) (omega arith)
bump_raised p h s r g false = omega arith

-- all that a step adds is of its pass
all_of_cond : (p : ℕ) (t : Bool) (xs ys : List Event) → AllBy p xs → AllBy p ys → AllBy p (cond t xs ys)
all_of_cond p true xs ys a b = a
all_of_cond p false xs ys a b = b

all_unless : (p : ℕ) (own : Bool) (e : Event) → by e ≡ p → AllBy p (unless_own own e)
all_unless p true e is = tt
all_unless p false e is = (is, tt)

pub all_told : (p : ℕ) (said : Option (Request × Reply)) → AllBy p (told p said)
all_told p None = tt
all_told p (Some said) = (refl, tt)

pub own_adds : (p : ℕ) (step : Step) (found : ℕ) → AllBy p (adds step p found)
own_adds p (take b own) found = all_of_cond p (eqb (found % 2) 0) _ _ (refl, tt) (all_unless p own (Bounced p b) refl)
own_adds p (glance b own) found = all_of_cond p (eqb (found % 2) 0) [] _ tt (all_unless p own (Glanced p b) refl)
own_adds p (release b c said) found = (refl, all_told p said)
own_adds p (info_look b) found = tt
own_adds p (look c) found = tt
own_adds p (row_load s r j) found = tt
own_adds p (link q s r n c old) found = all_of_cond p (eqb found old) _ [] (refl, tt) tt
own_adds p (relink k a i f s r n c) found = all_of_cond p (eqb found (packed (tag_of k) f a i)) _ [] (refl, tt) tt
own_adds p (clear k n c old why) found = all_of_cond p (eqb found old) _ [] (refl, tt) tt
own_adds p (draw b d from) found = all_of_cond p (eqb found from) _ [] (refl, tt) tt
own_adds p (fill b m w) found = (refl, tt)
own_adds p (chain b c old m) found = all_of_cond p (eqb found old) _ [] (refl, tt) tt
own_adds p (bump b n c t s r f g) found = all_of_cond p (eqb found (packed t f s r)) _ [] (refl, tt) tt
own_adds p (row_store s r j w) found = (refl, tt)
own_adds p (enter s) found = (refl, tt)
own_adds p (leave s) found = (refl, tt)
own_adds p (none_reading s old d) found = all_of_cond p (eqb found (old * 2 ^ 32)) _ [] (refl, tt) tt

-- a step's counts, from those of the trace before it
pub counted : (step : Step) (p found : ℕ) (more old : List Event) → NoneBy p more → CountsStep step p found old (adds step p found ++ (more ++ old))
counted step p found more old n = record {
  entries = mine_own p (adds step p found) (more ++ old) (own_adds p step found) ∙ ap (λ x. seen (adds step p found) ++ x) (mine_others p more old n);
  counts = λ what. count_both what p (adds step p found) (more ++ old) ∙ ap (λ m. count what p (adds step p found) + m) (count_others what p more old n);
}
