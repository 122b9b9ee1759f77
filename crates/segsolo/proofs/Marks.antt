-- What a call of a lone pass leaves of the places and the frequencies of items, by the entries that it added.
use Rattle.std.proofs.Common.{◌≡◌, ℕ, ◌&&◌, cond, List, [], ◌∷◌, ◌++◌, Option, Some, None, refl, sym, ap, ◌∙◌, subst, arith, eqb}
use Rattle.std.proofs.lemmas.Option.{none-some}
use Rattle.segmodel.specs.declared.entry.Entry.TheVariants as entry
use Rattle.segmodel.specs.Words.{Entry}
use Rattle.segcore.specs.Bucket.{slot}
use Rattle.segcore.specs.Mark.{at, bumped, chained, drawn, enters, entered, left, linked_in, last_at, frequency_in, IsOrderly, Mark, same_key}
use Rattle.segcore.specs.Words.{entries}
use Rattle.segsolo.specs.Stored.{came_with}
use Rattle.segsolo.proofs.Pairs.{all_raised, brings, IsPaired, none_waits}

-- ---- items stay

-- no entry of these brings an item
abbrev pub BringNothing : List Entry → Type 0
BringNothing [] = Unit {0}
BringNothing (added ∷ more) = (brings added ≡ None) × BringNothing more

-- items name the rows that they named
pub keeps_lasts : (more old : List Mark) → IsPaired None (more ++ old) → BringNothing (entries more) → (key : List ℕ) → last_at (more ++ old) key ≡ last_at old key
keeps_lasts [] old paired none key = refl
keeps_lasts (enters added ∷ more) old paired none key = keeps_lasts more old (subst (λ brought. IsPaired brought (more ++ old)) none.0 paired) none.1 key
keeps_lasts (at other segment row position frequency ∷ more) old paired none key = absurd paired
keeps_lasts (bumped segment row frequency ∷ more) old paired none key = keeps_lasts more old paired none key
keeps_lasts (drawn bucket ∷ more) old paired none key = keeps_lasts more old paired none key
keeps_lasts (chained bucket ∷ more) old paired none key = keeps_lasts more old paired none key
keeps_lasts (entered pass segment ∷ more) old paired none key = keeps_lasts more old paired none key
keeps_lasts (left pass segment ∷ more) old paired none key = keeps_lasts more old paired none key

-- and they have the frequencies that they had, if none was raised
pub keeps_frequencies : (more old : List Mark) → IsPaired None (more ++ old) → BringNothing (entries more)
    → all_raised more ≡ 0 → (segment row : ℕ)
    → frequency_in (more ++ old) segment row ≡ frequency_in old segment row
keeps_frequencies [] old paired none still segment row = refl
keeps_frequencies (enters added ∷ more) old paired none still segment row = keeps_frequencies more old (subst (λ brought. IsPaired brought (more ++ old)) none.0 paired) none.1 still segment row
keeps_frequencies (at key other number position frequency ∷ more) old paired none still segment row = absurd paired
keeps_frequencies (bumped other number frequency ∷ more) old paired none still segment row = absurd (omega (arith, still))
keeps_frequencies (drawn bucket ∷ more) old paired none still segment row = keeps_frequencies more old paired none still segment row
keeps_frequencies (chained bucket ∷ more) old paired none still segment row = keeps_frequencies more old paired none still segment row
keeps_frequencies (entered pass other ∷ more) old paired none still segment row = keeps_frequencies more old paired none still segment row
keeps_frequencies (left pass other ∷ more) old paired none still segment row = keeps_frequencies more old paired none still segment row

-- and those that they came with
pub keeps_came : (more old : List Mark) → IsPaired None (more ++ old) → BringNothing (entries more) → (segment row : ℕ) → came_with (more ++ old) segment row ≡ came_with old segment row
keeps_came [] old paired none segment row = refl
keeps_came (enters added ∷ more) old paired none segment row = keeps_came more old (subst (λ brought. IsPaired brought (more ++ old)) none.0 paired) none.1 segment row
keeps_came (at key other number position frequency ∷ more) old paired none segment row = absurd paired
keeps_came (bumped other number frequency ∷ more) old paired none segment row = keeps_came more old paired none segment row
keeps_came (drawn bucket ∷ more) old paired none segment row = keeps_came more old paired none segment row
keeps_came (chained bucket ∷ more) old paired none segment row = keeps_came more old paired none segment row
keeps_came (entered pass other ∷ more) old paired none segment row = keeps_came more old paired none segment row
keeps_came (left pass other ∷ more) old paired none segment row = keeps_came more old paired none segment row

-- without an entry the rows stay linked as they are
pub keeps_rows : (more old : List Mark) → IsPaired None (more ++ old) → entries more ≡ [] → (segment row : ℕ) → linked_in (more ++ old) segment row ≡ linked_in old segment row
keeps_rows [] old paired none segment row = refl
keeps_rows (enters added ∷ more) old paired none segment row = absurd (cons-nil added (entries more) none)
  where
    cons-nil : (x : Entry) (xs : List Entry) → x ∷ xs ≡ [] → ⊥
    cons-nil x xs e = cc
keeps_rows (at key other number position frequency ∷ more) old paired none segment row = absurd paired
keeps_rows (bumped other number frequency ∷ more) old paired none segment row = keeps_rows more old paired none segment row
keeps_rows (drawn bucket ∷ more) old paired none segment row = keeps_rows more old paired none segment row
keeps_rows (chained bucket ∷ more) old paired none segment row = keeps_rows more old paired none segment row
keeps_rows (entered pass other ∷ more) old paired none segment row = keeps_rows more old paired none segment row
keeps_rows (left pass other ∷ more) old paired none segment row = keeps_rows more old paired none segment row

-- ---- an item comes

-- the key's item came to name the row, which none named before, with this frequency; the others stay as they are
pub record BringsItem (key : List ℕ) (segment frequency : ℕ) (old new : List Mark) : Type 0 where
  pub row : ℕ
  pub unlinked : linked_in old segment row ≡ None
  pub rows : (s r : ℕ) → linked_in new s r ≡ cond (eqb segment s && eqb row r) (Some key) (linked_in old s r)
  pub lasts : (other : List ℕ) → last_at new other ≡ cond (same_key key other) (Some (slot other segment row)) (last_at old other)
  pub frequencies : (s r : ℕ) → frequency_in new s r ≡ cond (eqb segment s && eqb row r) frequency (frequency_in old s r)
  pub came : (s r : ℕ) → came_with new s r ≡ cond (eqb segment s && eqb row r) frequency (came_with old s r)

not_refilled : (added : Entry) (marks : List Mark) (brought : List ℕ × ℕ × Option ℕ) (segment row : ℕ)
    → brings added ≡ Some brought → linked_in (enters added ∷ marks) segment row ≡ linked_in marks segment row
not_refilled (entry.Wrote pass request told of) marks brought segment row is = refl
not_refilled (entry.Evicted pass key from) marks brought segment row is = refl
not_refilled (entry.Moved pass key from to) marks brought segment row is = refl
not_refilled (entry.Refilled pass other deadline) marks brought segment row is = absurd (none-some brought is)

-- the item comes right before its entry
comes : (more old : List Mark) (added : Entry) (key : List ℕ) (segment : ℕ) → IsPaired None old → IsPaired (Some (key, segment, Some 1)) (more ++ old) → brings added ≡ Some (key, segment, Some 1)
    → entries more ≡ [] → all_raised more ≡ 0 → IsOrderly (more ++ old) → BringsItem key segment 1 old (enters added ∷ (more ++ old))
comes [] old added key segment settled paired is none still orderly = absurd (none-some (key, segment, Some 1) (sym (none_waits (Some (key, segment, Some 1)) old settled paired)))
comes (at k s row position f ∷ more) old added key segment settled paired is none still orderly =
    let lasts = keeps_lasts more old paired.1 (subst BringNothing (sym none) tt) in
    let frequencies = keeps_frequencies more old paired.1 (subst BringNothing (sym none) tt) still in
    let came = keeps_came more old paired.1 (subst BringNothing (sym none) tt) in
    let rows = keeps_rows more old paired.1 none in
    let whose : k ≡ key = paired.0.0 in
    let place : s ≡ segment = paired.0.1 in
    let first : f ≡ 1 = paired.0.2 in record {
      row = row;
      unlinked = sym (rows segment row) ∙ subst (λ n. linked_in (more ++ old) n row ≡ None) place orderly.1;
      rows = λ n r. not_refilled added (at k s row position f ∷ (more ++ old)) (key, segment, Some 1) n r is
          ∙ (λ i. cond (eqb (place i) n && eqb row r) (Some (whose i)) (rows n r i));
      lasts = λ other. (λ i. cond (same_key (whose i) other) (Some (slot other (place i) row)) (lasts other i));
      frequencies = λ n r. (λ i. cond (eqb (place i) n && eqb row r) (first i) (frequencies n r i));
      came = λ n r. (λ i. cond (eqb (place i) n && eqb row r) (first i) (came n r i));
    }
comes (mark ∷ more) old added key segment settled paired is none still orderly = absurd paired

-- one entry that brings an item
pub brings_item : (more old : List Mark) (added : Entry) (key : List ℕ) (segment : ℕ) → IsPaired None old → IsPaired None (more ++ old) → brings added ≡ Some (key, segment, Some 1)
    → entries more ≡ added ∷ [] → all_raised more ≡ 0 → IsOrderly (more ++ old) → BringsItem key segment 1 old (more ++ old)
brings_item [] old added key segment settled paired is one still orderly = absurd (nil-cons added [] one)
  where
    nil-cons : (x : Entry) (xs : List Entry) → [] ≡ x ∷ xs → ⊥
    nil-cons x xs e = cc
brings_item (enters other ∷ more) old added key segment settled paired is one still orderly =
    let same : other ≡ added = head_of other added (entries more) [] one in
    subst (λ e. BringsItem key segment 1 old (enters e ∷ (more ++ old))) (sym same)
    (comes more old added key segment settled (subst (λ brought. IsPaired brought (more ++ old)) (ap brings same ∙ is) paired) is (tail_of other added (entries more) [] one) still orderly.0)
  where
    head_of : (x y : Entry) (xs ys : List Entry) → x ∷ xs ≡ y ∷ ys → x ≡ y
    head_of x y xs ys e = cc

    tail_of : (x y : Entry) (xs ys : List Entry) → x ∷ xs ≡ y ∷ ys → xs ≡ ys
    tail_of x y xs ys e = cc
brings_item (at k s row position f ∷ more) old added key segment settled paired is one still orderly = absurd paired
brings_item (bumped s row f ∷ more) old added key segment settled paired is one still orderly = absurd (omega (arith, still))
brings_item (drawn bucket ∷ more) old added key segment settled paired is one still orderly =
    let rest = brings_item more old added key segment settled paired is one still orderly.0 in
    record {
      row = rest.row;
      unlinked = rest.unlinked;
      rows = rest.rows;
      lasts = rest.lasts;
      frequencies = rest.frequencies;
      came = rest.came;
    }
brings_item (chained bucket ∷ more) old added key segment settled paired is one still orderly =
    let rest = brings_item more old added key segment settled paired is one still orderly.0 in
    record {
      row = rest.row;
      unlinked = rest.unlinked;
      rows = rest.rows;
      lasts = rest.lasts;
      frequencies = rest.frequencies;
      came = rest.came;
    }
brings_item (entered pass s ∷ more) old added key segment settled paired is one still orderly =
    let rest = brings_item more old added key segment settled paired is one still orderly.0 in
    record {
      row = rest.row;
      unlinked = rest.unlinked;
      rows = rest.rows;
      lasts = rest.lasts;
      frequencies = rest.frequencies;
      came = rest.came;
    }
brings_item (left pass s ∷ more) old added key segment settled paired is one still orderly =
    let rest = brings_item more old added key segment settled paired is one still orderly.0 in
    record {
      row = rest.row;
      unlinked = rest.unlinked;
      rows = rest.rows;
      lasts = rest.lasts;
      frequencies = rest.frequencies;
      came = rest.came;
    }
