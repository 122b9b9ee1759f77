-- With one pass, a moment of a keep of one row has the items that the call found, and the item that it moves keeps its frequency.
use Rattle.std.proofs.Common.{◌≡◌, ℕ, ◌+◌, ◌≤◌, ◌&&◌, cond, is_some, List, [], ◌∷◌, ◌++◌, Some, None, refl, sym, ap, ◌∙◌, subst, arith, append_assoc, eqb}
use Rattle.std.proofs.lemmas.Bool.{false_from_ne_true}
use Rattle.std.proofs.lemmas.List.{append_cancel_right}
use Rattle.segword.specs.Words.{Shape}
use Rattle.segmodel.specs.declared.entry.Entry.TheVariants as entry
use Rattle.segmodel.specs.Words.{after, Begins, Entry, StandsIn}
use Rattle.segmodel.proofs.Spans.{left_rows}
use Rattle.segcore.specs.Mark.{at, bumped, chained, drawn, enters, entered, left, linked_in, last_at, frequency_in, Mark, same_key}
use Rattle.segcore.specs.Mark as mark
use Rattle.segcore.specs.Words.{entries, Event, row_after, slot, span_in}
use Rattle.segcore.proofs.Spans.{covers-first, header_some}
use Rattle.segcore.proofs.Marked.{entries_marked}
use Rattle.segcore.proofs.Moments.{begins_on, marked_begins}
use Rattle.segbase.specs.Words.{Board, marked, mine, number, Pass, seen, trace}
use Rattle.segstore.specs.Words.{GoesOn, RaisesNothing}
use Rattle.segevict.specs.Words.{CarriesItem, HadFrequency}
use Rattle.segsolo.specs.Alone.{IsAlone}
use Rattle.segsolo.specs.Stored.{came_with}
use Rattle.segindex.proofs.FirstRows.{used_if_in_item}
use Rattle.segsolo.proofs.AlonePass.{more_seen, none_if, same_seen}
use Rattle.segsolo.proofs.AloneRows.{raised_alone}
use Rattle.segsolo.proofs.Grown.{entries_joined}
use Rattle.segsolo.proofs.Marks.{BringNothing, BringsItem, keeps_came, keeps_frequencies, keeps_lasts, keeps_rows}
use Rattle.segsolo.proofs.Pairs.{all_raised, IsPaired, marked_paired, raised_joined}

-- ---- lists

none_of_two : {A : Type 0} (xs ys : List A) → xs ++ ys ≡ [] → (xs ≡ []) × (ys ≡ [])
none_of_two [] ys e = (refl, e)
none_of_two (x ∷ xs) ys e = absurd (cons-nil x (xs ++ ys) e)
  where
    cons-nil : {A : Type 0} (x : A) (xs : List A) → x ∷ xs ≡ [] → ⊥
    cons-nil x xs e = cc

only_one : {A : Type 0} (xs ys : List A) (x one : A) → xs ++ x ∷ ys ≡ one ∷ [] → (xs ≡ []) × (ys ≡ [])
only_one {A = A} [] ys x one e = (refl, tail_of x one ys [] e)
  where
    tail_of : {A : Type 0} (x y : A) (xs ys : List A) → x ∷ xs ≡ y ∷ ys → xs ≡ ys
    tail_of x y xs ys e = cc
only_one {A = A} (y ∷ xs) ys x one e = absurd (some xs (tail_of y one (xs ++ x ∷ ys) [] e))
  where
    tail_of : {A : Type 0} (x y : A) (xs ys : List A) → x ∷ xs ≡ y ∷ ys → xs ≡ ys
    tail_of x y xs ys e = cc

    cons-nil : {A : Type 0} (x : A) (xs : List A) → x ∷ xs ≡ [] → ⊥
    cons-nil x xs e = cc

    some : (zs : List A) → zs ++ x ∷ ys ≡ [] → ⊥
    some [] e = cons-nil x ys e
    some (z ∷ zs) e = cons-nil z (zs ++ x ∷ ys) e

-- ---- marks that no entry is among

-- an item that comes without its entry is none
settled : (more old : List Mark) → IsPaired None (more ++ old) → entries more ≡ [] → IsPaired None old
settled [] old paired none = paired
settled (enters added ∷ more) old paired none = absurd (cons-nil added (entries more) none)
  where
    cons-nil : (x : Entry) (xs : List Entry) → x ∷ xs ≡ [] → ⊥
    cons-nil x xs e = cc
settled (at key segment row position frequency ∷ more) old paired none = absurd paired
settled (bumped segment row frequency ∷ more) old paired none = settled more old paired none
settled (drawn bucket ∷ more) old paired none = settled more old paired none
settled (chained bucket ∷ more) old paired none = settled more old paired none
settled (entered pass segment ∷ more) old paired none = settled more old paired none
settled (left pass segment ∷ more) old paired none = settled more old paired none

-- items name the rows that they named, with the frequencies that they had
record IsStill (old new : List Mark) : Type 0 where
  before : IsPaired None old
  lasts : (key : List ℕ) → last_at new key ≡ last_at old key
  frequencies : (segment row : ℕ) → frequency_in new segment row ≡ frequency_in old segment row
  came : (segment row : ℕ) → came_with new segment row ≡ came_with old segment row
  rows : (segment row : ℕ) → linked_in new segment row ≡ linked_in old segment row

still : (more old new : List Mark) → new ≡ more ++ old → IsPaired None new → entries more ≡ [] → all_raised more ≡ 0 → IsStill old new
still more old new is paired none unraised = record {
  before = settled more old joined none;
  lasts = λ key. ap (λ marks. last_at marks key) is ∙ keeps_lasts more old joined bring key;
  frequencies = λ segment row. ap (λ marks. frequency_in marks segment row) is ∙ keeps_frequencies more old joined bring unraised segment row;
  came = λ segment row. ap (λ marks. came_with marks segment row) is ∙ keeps_came more old joined bring segment row;
  rows = λ segment row. ap (λ marks. linked_in marks segment row) is ∙ keeps_rows more old joined none segment row;
}
  where
    joined : IsPaired None (more ++ old)
    joined = subst (IsPaired None) is paired

    bring : BringNothing (entries more)
    bring = subst BringNothing (sym none) tt

-- ---- a row's item

-- the key stands in the segment, its item names the row, and its frequency is so
pub record NamesRow (shape : Shape) (segment row : ℕ) (IsSo : ℕ → Type 0) (p : Pass) (key : List ℕ) : Type 0 where
  pub stands : StandsIn (after shape (seen p)) key segment
  pub last : last_at (marked p) key ≡ Some (slot key segment row)
  pub is : IsSo (frequency_in (marked p) segment row)

-- it was so at a moment at which all is as before
names : (shape : Shape) (segment row : ℕ) (IsSo : ℕ → Type 0) (p : Pass) (key : List ℕ) (old new : List Mark) (had : HadFrequency shape segment row IsSo old new key)
    → IsStill (marked p) had.moment → entries had.moment ≡ seen p → NamesRow shape segment row IsSo p key
names shape segment row IsSo p key old new had kept moment = record {
  stands = subst (λ h. StandsIn (after shape h) key segment) moment had.stood;
  last = sym (kept.lasts key) ∙ had.last;
  is = subst IsSo (kept.frequencies segment row) had.is;
}

module _ (b : Board) (p q : Pass) (was : IsAlone b p) (on : GoesOn b p q) (unraised : RaisesNothing p q) where
  raised_alike : all_raised (marked q) ≡ all_raised (marked p)
  raised_alike =
      let before = raised_alone b p was.quiet was.one in
      let now = raised_alone b q on.quiet was.one in
      let same = unraised in omega arith

  paired_now : IsPaired None (marked q)
  paired_now = marked_paired (trace q)

  -- ---- a call without an entry

  pub names_still : (segment row : ℕ) (IsSo : ℕ → Type 0) (key : List ℕ) (old : List Mark) → mine q ≡ mine p → Begins (marked p) old → (had : HadFrequency b.shape segment row IsSo old (marked q) key)
      → NamesRow b.shape segment row IsSo p key
  names_still segment row IsSo key old nothing since had = names b.shape segment row IsSo p key old (marked q) had
      (still first.0 (marked p) had.moment first.1
      (still had.to.0 had.moment (marked q) had.to.1 paired_now none.0
      (omega (arith, raised, raised_alike))).before none.1 (omega (arith, raised, raised_alike)))
      (ap entries first.1 ∙ (entries_joined first.0 (marked p) ∙ ((λ i. none.1 i ++ entries (marked p)) ∙ entries_marked (trace p))))
    where
      first : Begins (marked p) had.moment
      first = begins_on (marked p) old had.moment since had.from

      none : (entries had.to.0 ≡ []) × (entries first.0 ≡ [])
      none = none_of_two (entries had.to.0) (entries first.0) (append_cancel_right (entries had.to.0 ++ entries first.0) [] (entries (marked p))
          (append_assoc (entries had.to.0) (entries first.0) (entries (marked p))
          ∙ (ap (λ h. entries had.to.0 ++ h) (sym (entries_joined first.0 (marked p)) ∙ sym (ap entries first.1))
          ∙ (sym (entries_joined had.to.0 had.moment) ∙ (sym (ap entries had.to.1)
          ∙ (entries_marked (trace q) ∙ (same_seen b p q was on.quiet nothing ∙ sym (entries_marked (trace p)))))))))

      raised : all_raised (marked q) ≡ all_raised had.to.0 + (all_raised first.0 + all_raised (marked p))
      raised = ap all_raised had.to.1 ∙ (raised_joined had.to.0 had.moment ∙ ap (λ n. all_raised had.to.0 + n) (ap all_raised first.1 ∙ raised_joined first.0 (marked p)))

  -- ---- a call that moves an item

  module _ (segment row cutoff into : ℕ) (key : List ℕ) (c : CarriesItem b.shape segment row cutoff into p q key) where
    abbrev moved : Entry
    moved = entry.Moved (number p) key segment into

    abbrev start : List Event
    start = c.often.0

    abbrev had : HadFrequency b.shape segment row (λ frequency. cutoff ≤ frequency) (mark.marked start) c.before key
    had = c.often.2

    abbrev later : List Mark
    later = c.comes.0

    abbrev then : List Mark
    then = enters moved ∷ at key into c.to c.position (frequency_in c.before segment row) ∷ c.before

    first : Begins (marked p) had.moment
    first = begins_on (marked p) (mark.marked start) had.moment (marked_begins (trace p) start (c.often.1.others, c.often.1.since)) had.from

    abbrev between : List Entry
    between = entries had.to.0 ++ entries first.0

    entries_then : entries c.before ≡ between ++ entries (marked p)
    entries_then = ap entries had.to.1 ∙ (entries_joined had.to.0 had.moment ∙ (ap (λ h. entries had.to.0 ++ h) (ap entries first.1 ∙ entries_joined first.0 (marked p))
        ∙ sym (append_assoc (entries had.to.0) (entries first.0) (entries (marked p)))))

    only : (entries later ≡ []) × (between ≡ [])
    only = only_one (entries later) between moved moved (append_cancel_right (entries later ++ moved ∷ between) (moved ∷ []) (entries (marked p))
        (append_assoc (entries later) (moved ∷ between) (entries (marked p))
        ∙ (ap (λ h. entries later ++ moved ∷ h) (sym entries_then)
        ∙ (sym (entries_joined later then) ∙ (sym (ap entries c.comes.1)
        ∙ (entries_marked (trace q) ∙ (more_seen b p q (moved ∷ []) was on.quiet c.entries ∙ ap (λ h. moved ∷ h) (sym (entries_marked (trace p))))))))))

    none : (entries had.to.0 ≡ []) × (entries first.0 ≡ [])
    none = none_of_two (entries had.to.0) (entries first.0) only.1

    raised : all_raised (marked q) ≡ all_raised later + (all_raised had.to.0 + (all_raised first.0 + all_raised (marked p)))
    raised = ap all_raised c.comes.1 ∙ (raised_joined later then ∙ ap (λ n. all_raised later + n)
        (ap all_raised had.to.1 ∙ (raised_joined had.to.0 had.moment ∙ ap (λ n. all_raised had.to.0 + n) (ap all_raised first.1 ∙ raised_joined first.0 (marked p)))))

    after_it : IsStill then (marked q)
    after_it = still later then (marked q) c.comes.1 paired_now only.0 (let a = raised in let e = raised_alike in omega arith)

    up_to_it : IsStill had.moment c.before
    up_to_it = still had.to.0 had.moment c.before had.to.1 after_it.before.1 none.0 (let a = raised in let e = raised_alike in omega arith)

    before_it : IsStill (marked p) had.moment
    before_it = still first.0 (marked p) had.moment first.1 up_to_it.before none.1 (let a = raised in let e = raised_alike in omega arith)

    pub names_moved : NamesRow b.shape segment row (λ frequency. cutoff ≤ frequency) p key
    names_moved = names b.shape segment row (λ frequency. cutoff ≤ frequency) p key (mark.marked start) c.before had before_it
        (ap entries first.1 ∙ (entries_joined first.0 (marked p) ∙ ((λ i. none.1 i ++ entries (marked p)) ∙ entries_marked (trace p))))

    rows_then : (s r : ℕ) → linked_in c.before s r ≡ linked_in (marked p) s r
    rows_then s r = up_to_it.rows s r ∙ before_it.rows s r

    came_then : (s r : ℕ) → came_with c.before s r ≡ came_with (marked p) s r
    came_then s r = up_to_it.came s r ∙ before_it.came s r

    frequency_then : (s r : ℕ) → frequency_in c.before s r ≡ frequency_in (marked p) s r
    frequency_then s r = up_to_it.frequencies s r ∙ before_it.frequencies s r

    -- the row isn't used before, so that no item is linked to it
    unlinked_there : linked_in (marked p) into c.to ≡ None
    unlinked_there = none_if (linked_in (marked p) into c.to) (false_from_ne_true (is_some (linked_in (marked p) into c.to)) (λ there.
        let rows = span_in (trace p) segment row in
        let some = header_some ((row_after (trace p) segment row).words 0) in
        let fits = left_rows rows c.to b.shape.rows c.fits in
        let own = header_some ((row_after (trace p) into c.to).words 0) in
        let itself = covers-first c.to (span_in (trace p) into c.to) own in
        let used = used_if_in_item b p into c.to c.to was.quiet c.next (omega (arith, some, fits)) (c.to, there, itself) in
        absurd (omega (arith, used))))

    pub brings_moved : (brings : BringsItem key into (frequency_in (marked p) segment row) (marked p) (marked q)) × (brings.row ≡ c.to)
    brings_moved = (
      record {
        row = c.to;
        unlinked = unlinked_there;
        rows = λ s r. after_it.rows s r ∙ ap (cond (eqb into s && eqb c.to r) (Some key)) (rows_then s r);
        lasts = λ other. after_it.lasts other ∙ ap (cond (same_key key other) (Some (slot other into c.to))) (up_to_it.lasts other ∙ before_it.lasts other);
        frequencies = λ s r. after_it.frequencies s r ∙ (λ i. cond (eqb into s && eqb c.to r) (frequency_then segment row i) (frequency_then s r i));
        came = λ s r. after_it.came s r ∙ (λ i. cond (eqb into s && eqb c.to r) (frequency_then segment row i) (came_then s r i));
      },
      refl,
    )
