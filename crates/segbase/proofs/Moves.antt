-- Calls one after another: what a pass adds by itself adds up, and a reader is where it was before.
use Rattle.std.proofs.Common.{◌≡◌, ℕ, ◌+◌, ◌-◌, ◌<◌, Bool, true, false, cond, eqb, ◌&&◌, List, [], ◌∷◌, ◌++◌, Option, Some, None, refl, sym, ap, ◌∙◌, subst, inr, append_assoc, arith}
use Rattle.std.proofs.lemmas.Bool.{cond-true, eq-eqb}
use Rattle.segmodel.specs.Words.{Begins, Entry, mine}
use Rattle.segcore.specs.declared.event.Event.TheVariants.{Entered, Left}
use Rattle.segcore.specs.Words.{bucket_after, count, Counted, entry_of, Event, HasBit, inside, May}
use Rattle.segcore.specs.Words.{release, seen, with_entry}
use Rattle.segbase.specs.Words.{Board, Pass}
use Rattle.segbase.specs.Traces.{own_of, StaysIn, OnlyReads}
use Rattle.segbase.specs.Passes.{number, trace, IsPassOf, AddsEvents, AddsAtOnce, Reads, ReadsIn}
use Rattle.segbase.proofs.Starting.{steps_then}
use Rattle.segbase.specs.Passes as passes
use Rattle.segbase.specs.Steps.{Takes}
use Rattle.segcore.proofs.Quiet.{quiet}
use Rattle.segbase.proofs.Owning.{own_both, own_inside, own_mine, own_count}
use Rattle.segbase.proofs.Staying.{stays_now, stays_first, stays_last, stays_both, none_both}

-- nothing was done
pub stays : (b : Board) (p : Pass) → IsPassOf b p → AddsEvents b [] p p
stays b p is = record { pass = is; same = refl; more = []; goes_on = refl; adds = refl; steps = inr (refl, refl); kept = λ s t. tt }

-- ---- what a call leaves of the pass's own

pub moved_inside : (b : Board) (own : List Event) (p q : Pass) (s : ℕ) → AddsEvents b own p q → inside (trace q) (number p) s ≡ inside (own ++ trace p) (number p) s
moved_inside b own p q s m = ap (λ h. inside h (number p) s) m.goes_on ∙ (own_inside m.more (trace p) (number p) s ∙ ap (λ es. inside (es ++ trace p) (number p) s) m.adds)

pub moved_mine : (b : Board) (own : List Event) (p q : Pass) → AddsEvents b own p q → passes.mine q ≡ mine (number p) (seen (own ++ trace p))
moved_mine b own p q m = ap (λ n. mine n (seen (trace q))) m.same
    ∙ (ap (λ h. mine (number p) (seen h)) m.goes_on
    ∙ (own_mine m.more (trace p) (number p) ∙ ap (λ es. mine (number p) (seen (es ++ trace p))) m.adds))

pub moved_count : (b : Board) (own : List Event) (p q : Pass) (what : Counted) → AddsEvents b own p q → passes.count what q ≡ count what (number p) (own ++ trace p)
moved_count b own p q what m = ap (λ n. count what n (trace q)) m.same
    ∙ (ap (count what (number p)) m.goes_on ∙ (own_count what m.more (trace p) (number p)
    ∙ ap (λ es. count what (number p) (es ++ trace p)) m.adds))

-- what it has seen only grows
pub moved_on : (b : Board) (own : List Event) (p q : Pass) → AddsEvents b own p q → Begins (trace p) (trace q)
moved_on b own p q m = (m.more, m.goes_on)

added : (o : Option Entry) (h xs ys : List Entry) → h ≡ xs ++ ys → with_entry o h ≡ with_entry o xs ++ ys
added None h xs ys e = e
added (Some entry) h xs ys e = ap (λ x. entry ∷ x) e

seen_both : (xs ys : List Event) → seen (xs ++ ys) ≡ seen xs ++ seen ys
seen_both [] ys = refl
seen_both (e ∷ xs) ys = added (entry_of e) (seen (xs ++ ys)) (seen xs) (seen ys) (seen_both xs ys)

pub moved_seen : (b : Board) (own : List Event) (p q : Pass) → AddsEvents b own p q → Begins (passes.seen p) (passes.seen q)
moved_seen b own p q m = (seen m.more, ap seen m.goes_on ∙ seen_both m.more (trace p))

-- ---- one after the other

pub moved_then : (b : Board) (first second : List Event) (p q r : Pass) → AddsEvents b first p q → AddsEvents b second q r → AddsEvents b (second ++ first) p r
moved_then b first second p q r m k = record {
  pass = k.pass;
  same = k.same ∙ m.same;
  more = k.more ++ m.more;
  goes_on = k.goes_on ∙ (ap (λ h. k.more ++ h) m.goes_on ∙ sym (append_assoc k.more m.more (trace p)));
  adds = own_both (number p) k.more m.more ∙ (ap (λ es. es ++ own_of (number p) m.more) (ap (λ n. own_of n k.more) (sym m.same) ∙ k.adds) ∙ ap (λ es. second ++ es) m.adds);
  steps = steps_then p q r m.same m.steps k.steps;
  kept = λ s stay. none_both s k.more m.more
      (k.kept s (subst (λ n. StaysIn second (trace q) n s) (sym m.same) (stays_last second first (trace p) (trace q) (number p) s (moved_inside b first p q s m) stay)))
      (m.kept s (stays_first second first (trace p) (number p) s stay));
}

-- ---- readers

only_both : (xs ys : List Event) → OnlyReads xs → OnlyReads ys → OnlyReads (xs ++ ys)
only_both [] ys a c = c
only_both (e ∷ xs) ys a c = (a.0, only_both xs ys a.1 c)

pub reads_nothing : (b : Board) (p q : Pass) → AddsEvents b [] p q → Reads b p q
reads_nothing b p q m = record { own = []; moved = m; only = tt; inside = λ s. moved_inside b [] p q s m; stays = λ s there. there }

-- a call of a reader after another: where the pass stays, by both
stays_then : (b : Board) (first second : List Event) (p q : Pass) (s : ℕ) → AddsEvents b first p q
    → (0 < inside (trace p) (number p) s → StaysIn first (trace p) (number p) s)
    → (0 < inside (trace q) (number q) s → StaysIn second (trace q) (number q) s)
    → 0 < inside (trace p) (number p) s → StaysIn (second ++ first) (trace p) (number p) s
stays_then b first second p q s m one two there =
    let a = one there in
    let now : 0 < inside (trace q) (number p) s = subst (λ n. 0 < n) (sym (moved_inside b first p q s m)) (stays_now first (trace p) (number p) s a) in
    stays_both second first (trace p) (trace q) (number p) s (moved_inside b first p q s m)
    (subst (λ n. StaysIn second (trace q) n s) m.same (two (subst (λ n. 0 < inside (trace q) n s) (sym m.same) now)))
    a

pub reads_then : (b : Board) (p q r : Pass) → Reads b p q → Reads b q r → Reads b p r
reads_then b p q r i j = record {
  own = j.own ++ i.own;
  moved = moved_then b i.own j.own p q r i.moved j.moved;
  only = only_both j.own i.own j.only i.only;
  inside = λ s. subst (λ n. inside (trace r) n s ≡ inside (trace q) n s) i.moved.same (j.inside s) ∙ i.inside s;
  stays = λ s there. stays_then b i.own j.own p q s i.moved (i.stays s) (j.stays s) there;
}

once_more : (p segment s : ℕ) (h : List Event) → inside (Entered p segment ∷ h) p s ≡ cond (eqb segment s) (inside h p s + 1) (inside h p s)
once_more p segment s h = ap (λ t. cond (t && eqb segment s) (inside h p s + 1) (inside h p s)) (eq-eqb p p refl)

once_less : (p segment s : ℕ) (h : List Event) → inside (Left p segment ∷ h) p s ≡ cond (eqb segment s) (inside h p s - 1) (inside h p s)
once_less p segment s h = ap (λ t. cond (t && eqb segment s) (inside h p s - 1) (inside h p s)) (eq-eqb p p refl)

at_least : (t : Bool) (m : ℕ) → 0 < m → 0 < cond t (m + 1) m
at_least true m lt = omega arith
at_least false m lt = lt

one_less : (t : Bool) (m : ℕ) → cond t (cond t (m + 1) m - 1) (cond t (m + 1) m) ≡ m
one_less true m = omega arith
one_less false m = refl

-- into a segment, and out of it again
pub reads_enter : (b : Board) (p q : Pass) (segment : ℕ) → AddsEvents b (Entered (number p) segment ∷ []) p q → ReadsIn b p q segment
reads_enter b p q segment m = record {
  own = Entered (number p) segment ∷ [];
  moved = m;
  only = (tt, tt);
  inside = λ s. moved_inside b (Entered (number p) segment ∷ []) p q s m ∙ once_more (number p) segment s (trace p);
  stays = λ s there. (subst (λ n. 0 < n) (sym (once_more (number p) segment s (trace p))) (at_least (eqb segment s) (inside (trace p) (number p) s) there), there);
}

pub enter_then : (b : Board) (p q r : Pass) (segment : ℕ) → Reads b p q → ReadsIn b q r segment → ReadsIn b p r segment
enter_then b p q r segment i j = record {
  own = j.own ++ i.own;
  moved = moved_then b i.own j.own p q r i.moved j.moved;
  only = only_both j.own i.own j.only i.only;
  inside = λ s. subst (λ n. inside (trace r) n s ≡ cond (eqb segment s) (inside (trace q) n s + 1)
      (inside (trace q) n s)) i.moved.same (j.inside s) ∙ ap (λ n. cond (eqb segment s) (n + 1) n) (i.inside s);
  stays = λ s there. stays_then b i.own j.own p q s i.moved (i.stays s) (j.stays s) there;
}

pub then_reads : (b : Board) (p q r : Pass) (segment : ℕ) → ReadsIn b p q segment → Reads b q r → ReadsIn b p r segment
then_reads b p q r segment i j = record {
  own = j.own ++ i.own;
  moved = moved_then b i.own j.own p q r i.moved j.moved;
  only = only_both j.own i.own j.only i.only;
  inside = λ s. subst (λ n. inside (trace r) n s ≡ inside (trace q) n s) i.moved.same (j.inside s) ∙ i.inside s;
  stays = λ s there. stays_then b i.own j.own p q s i.moved (i.stays s) (j.stays s) there;
}

-- in the segment it is inside
pub is_inside : (b : Board) (p q : Pass) (segment : ℕ) → ReadsIn b p q segment → 0 < inside (trace q) (number q) segment
is_inside b p q segment i = subst (λ n. 0 < inside (trace q) n segment) (sym i.moved.same)
    (let e : inside (trace q) (number p) segment ≡ inside (trace p) (number p) segment + 1 = i.inside segment
    ∙ cond-true (eqb segment segment) (inside (trace p) (number p) segment + 1)
    (inside (trace p) (number p) segment) (eq-eqb segment segment refl) in omega arith)

pub leave_then : (b : Board) (p q r : Pass) (segment : ℕ) → ReadsIn b p q segment → AddsEvents b (Left (number q) segment ∷ []) q r → Reads b p r
leave_then b p q r segment i m =
    let out : (s : ℕ) → inside (trace r) (number p) s ≡ inside (trace p) (number p) s = λ s.
    subst (λ n. inside (trace r) n s ≡ cond (eqb segment s) (inside (trace q) n s - 1) (inside (trace q) n s))
    i.moved.same (moved_inside b (Left (number q) segment ∷ []) q r s m
    ∙ once_less (number q) segment s (trace q))
    ∙ (ap (λ n. cond (eqb segment s) (n - 1) n) (i.inside s) ∙ one_less (eqb segment s) (inside (trace p) (number p) s)) in record {
      own = Left (number q) segment ∷ i.own;
      moved = moved_then b i.own (Left (number q) segment ∷ []) p q r i.moved m;
      only = (tt, i.only);
      inside = out;
      stays = λ s there. (
        subst (λ n. 0 < n) (sym (out s) ∙ moved_inside b (Left (number q) segment ∷ i.own) p r s (moved_then b i.own (Left (number q) segment ∷ []) p q r i.moved m)) there,
        i.stays s there,
      );
    }

-- ---- a bucket whose bit the pass has

-- a step that added nothing leaves it as it was
pub did_quiet : (b : Board) (p q : Pass) (bucket : ℕ) → AddsAtOnce b [] p q → HasBit b.shape (trace p) (number p) bucket → bucket_after b.shape (trace q) bucket ≡ bucket_after b.shape (trace p) bucket
did_quiet b p q bucket d bit = ap (λ h. bucket_after b.shape h bucket) d.now ∙ quiet b.shape d.others (trace p) (number p) bucket d.before d.none bit.1

pub did_has : (b : Board) (p q : Pass) (bucket : ℕ) → AddsAtOnce b [] p q → HasBit b.shape (trace p) (number p) bucket → HasBit b.shape (trace q) (number q) bucket
did_has b p q bucket d bit = (bit.0, ap (λ u. u.holder) (did_quiet b p q bucket d bit) ∙ (bit.1 ∙ ap Some (sym d.moved.same)))

-- a bit that was just taken may be given back uncounted, also after such a step
pub may_release : (b : Board) (p q r : Pass) (bucket : ℕ) → Takes b bucket true p q → AddsAtOnce b [] q r → May b.shape (trace r) (number r) (release bucket false None)
may_release b p q r bucket t d =
    let same = did_quiet b q r bucket d t.1 in
    (did_has b q r bucket d t.1, ap (λ u. u.written) same ∙ t.2, ap (λ u. u.spare) same ∙ t.3, tt)
