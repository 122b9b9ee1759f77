-- The keep of a segment, item by item: the rows behind an item's first are gone over by no step.
use Rattle.std.proofs.Common.{◌≡◌, ℕ, zero, suc, ◌+◌, ◌-◌, ◌<◌, ◌≤◌, [], refl, sym, ap, ◌∙◌, subst, inl, inr, ⊎_elim, Some, arith}
use Rattle.std.proofs.lemmas.Option.{same_Some}
use Rattle.segmodel.specs.declared.answer.SegState.TheVariants.{InUse}
use Rattle.segmodel.specs.Words.{bucket_of, owner}
use Rattle.segcore.specs.Words.{bounced, row_after, RowGone, span_in, taken}
use Rattle.segcore.proofs.Spans.{header_some}
use Rattle.segbase.specs.Words.{Board, count, number, Pass, state_of, trace, used_of}
use Rattle.segbase.proofs.Moves.{moved_count, moved_then}
use Rattle.segstore.specs.Words.{GoesOn, Idles, IsQuiet, TakesAtMost, TakesNoBit, TakesOneBit}
use Rattle.segstore.proofs.Draws.{draws_none_then, moved_undrawn}
use Rattle.segstore.proofs.Idling.{does_nothing, goes_nowhere}
use Rattle.segstore.proofs.Keeping.{owns_used, same_used}
use Rattle.segstore.proofs.Refills.{idles}
use Rattle.segstore.proofs.Still.{no_reader}
use Rattle.segwrite.proofs.Places.{idles_then}
use Rattle.segevict.specs.declared.retention.KeepRowAnswer.{KeepRowAnswer}
use Rattle.segevict.specs.declared.retention.KeepRowAnswer.TheVariants as kept
use Rattle.segevict.specs.Frequencies.{WasOften}
use Rattle.segevict.specs.Moving.{IsKeptRow, KeepsRow}
use Rattle.segevict.specs.OneRow.{AfterLooks, TriesForRow}
use Rattle.segevict.specs.Rows.{IsUsedRow, KeepsGone}
use Rattle.segevict.specs.Spans.{IsFirstRow}
use Rattle.segevict.specs.Steps.{most_steps_of_keep_row}
use Rattle.segevict.specs.Target.{has_rows_in, IsKeepTarget}
use Rattle.segevict.proofs.AfterRow.{idle_changes, left_changes, left_gone, moved_gone, uses_more}
use Rattle.segevict.proofs.Frequencies.{had_after}
use Rattle.segevict.proofs.Items.{first_stays, IsItem, item_at, item_behind}
use Rattle.segevict.proofs.Keeping.{item_of, Keeping, keeping_first, keeping_left, keeping_moved}
use Rattle.segevict.proofs.KeptRows.{row_passed}
use Rattle.segevict.proofs.KeyTries.{no_tries, tries_then}
use Rattle.segevict.proofs.Naming.{gone_unless_named, unnamed}
use Rattle.segevict.proofs.RowsOut.{goes_then}
use Rattle.segevict.proofs.Unnamed.{gone_over}

-- ---- looks behind a row change nothing

module _ (b : Board) (segment row into cutoff : ℕ) (p q r : Pass) (own : owner b.shape segment ≡ number p) (i : Idles b q r) where
  abbrev Kept : KeepRowAnswer → Pass → Type 0
  Kept told s = KeepsRow b segment row into cutoff told p s

  abbrev room : ℕ
  room = span_in (trace p) segment row

  on_then : GoesOn b p q → GoesOn b p r
  on_then on = goes_then b p q r on (goes_nowhere b q r on.quiet i.moved i.plain i.memo)

  gone_then : number q ≡ number p → RowGone b.shape segment row (trace q) → RowGone b.shape segment row (trace r)
  gone_then same gone = gone_over b [] q r segment row i.moved tt (own ∙ sym same) gone

  no_bit_then : TakesNoBit p q → TakesNoBit p r
  no_bit_then none = record {
    taken = moved_count b [] q r taken i.moved ∙ none.taken;
    bounced = λ bucket. moved_count b [] q r (bounced bucket) i.moved ∙ none.bounced bucket;
  }

  one_bit_then : (bucket : ℕ) (s : Pass) → TakesOneBit bucket s q → TakesOneBit bucket s r
  one_bit_then bucket s one = let same = moved_count b [] q r (bounced bucket) i.moved in record {
    taken = moved_count b [] q r taken i.moved ∙ one.taken;
    tries = subst (λ n. n < count (bounced bucket) s + 64) (sym same) one.tries;
    others = λ other apart. moved_count b [] q r (bounced other) i.moved ∙ one.others other apart;
  }

  looked_then : AfterLooks b segment row cutoff TakesOneBit p q → AfterLooks b segment row cutoff TakesOneBit p r
  looked_then a = let on = a.5 in (
    a.0,
    a.1,
    a.2,
    a.3,
    a.4,
    goes_then b a.1 q r on (goes_nowhere b q r on.quiet i.moved i.plain i.memo),
    one_bit_then (bucket_of b.shape a.0) a.1 a.6,
  )

  kept_then : (told : KeepRowAnswer) → Kept told q → TriesForRow b segment row cutoff (has_rows_in b.shape into room p) told p r
      → IsKeptRow b segment row into cutoff told p r → Kept told r
  kept_then told k tried answer = record {
    on = on_then k.on;
    memo = i.memo ∙ k.memo;
    draws_nothing = draws_none_then p q r k.draws_nothing (moved_undrawn b [] q r i.moved tt);
    reads_nothing = no_reader b [] q r i.moved tt ∙ k.reads_nothing;
    tries = tries_then b.shape (WasOften b.shape segment cutoff p q) (WasOften b.shape segment cutoff p r) (WasOften b.shape segment cutoff p r) 1 0 1 p q r
        (λ key often. (often.0, had_after b.shape segment often.0 (λ n. cutoff ≤ n) key p q r i.moved.steps often.1)) (λ key often. often) (omega arith) k.tries
        (no_tries b (WasOften b.shape segment cutoff p r) 0 q r i.moved);
    tried = tried;
    answer = answer;
  }

  pub moved_looked : Kept kept.Moved q → Kept kept.Moved r
  moved_looked k = let a = k.answer in let none = does_nothing b q r k.on.quiet i.moved i.plain i.memo in
      kept_then kept.Moved k (looked_then k.tried) (
        a.0,
        a.1,
        goes_then b a.0 q r a.2 (goes_nowhere b q r k.on.quiet i.moved i.plain i.memo),
        a.3,
        a.4,
        a.5,
        a.6,
        a.7,
        a.8,
        moved_then b _ [] a.0 q r a.9 i.moved,
        none.entries ∙ a.10,
        i.plain ∙ a.11,
        gone_then k.on.same a.12,
        a.13,
      )

  pub left_looked : Kept kept.Left q → Kept kept.Left r
  left_looked k = let on = k.on in
      kept_then kept.Left k
      (⊎_elim
      (λ none. inl (no_bit_then none))
      (λ one. inr (
        looked_then one.0,
        one.1,
        unnamed b.shape (trace r) segment row i.moved.pass.lawful
            (gone_then on.same (gone_unless_named b.shape (trace q) segment row on.quiet.pass.lawful one.2)),
      ))
      k.tried)
      (⊎_elim
      (λ gone. inl (idles_then b p q r gone.0 i, gone_then on.same gone.1))
      (λ some. inr (⊎_elim
      (λ seldom. inl (seldom.0, seldom.1, idles_then b seldom.0 q r seldom.2 i))
      (λ went. let none = idle_changes b q r on.quiet i in inr (
        went.0,
        went.1,
        went.2,
        moved_then b _ [] went.0 q r went.3 i.moved,
        record { entries = none.entries ∙ went.4.entries; plain = none.plain ∙ went.4.plain; memo = none.memo ∙ went.4.memo },
        gone_then on.same went.5,
        went.6,
        went.7,
      ))
      some))
      k.answer)

-- ---- rows behind the first one of an item

module _ (b : Board) (segment into cutoff used count : ℕ) (p q : Pass) (quiet : IsQuiet b p) (in_use : state_of p segment ≡ Some InUse)
    (target : IsKeepTarget segment into p) (is : used_of p segment ≡ Some used) where
  own : owner b.shape segment ≡ number p
  own = owns_used b p segment used quiet.pass is

  keeping_over : (row : ℕ) → Keeping b segment into cutoff row count p q → row < used → RowGone b.shape segment row (trace q) → Keeping b segment into cutoff (row + 1) count p q
  keeping_over row e lt gone =
      let k = row_passed b segment row into cutoff q q e.on.quiet (idles b q e.on.quiet.pass) gone in
      keeping_left b segment into cutoff row count p q q own e k
      (item_of b segment into cutoff row count p q quiet in_use target e used is q lt kept.Left k (omega arith))

  keeping_behind : (rows row : ℕ) → Keeping b segment into cutoff row count p q → row + rows ≤ used
      → ((i : ℕ) → row ≤ i → i < row + rows → RowGone b.shape segment i (trace q)) → Keeping b segment into cutoff (row + rows) count p q
  keeping_behind zero row e le gone = let same : row ≡ row + zero = omega arith in subst (λ n. Keeping b segment into cutoff n count p q) same e
  keeping_behind (suc rows) row e le gone =
      let next : (row + rows) + 1 ≡ row + suc rows = omega arith in
      subst (λ n. Keeping b segment into cutoff n count p q) next
      (keeping_over (row + rows) (keeping_behind rows row e (omega (arith, le)) (λ i low lt. gone i low (omega (arith, lt)))) (omega (arith, le))
      (gone (row + rows) (omega arith) (omega arith)))

  keeping_to : (row next : ℕ) → Keeping b segment into cutoff row count p q → row ≤ next → next ≤ used
      → ((i : ℕ) → row ≤ i → i < next → RowGone b.shape segment i (trace q)) → Keeping b segment into cutoff next count p q
  keeping_to row next e le within gone =
      let same : row + (next - row) ≡ next = omega (arith, le) in
      subst (λ n. Keeping b segment into cutoff n count p q) same
      (keeping_behind (next - row) row e (omega (arith, le, within)) (λ i low lt. gone i low (omega (arith, lt, le))))

-- ---- from item to item

pub record KeepingItems (b : Board) (segment into cutoff row count : ℕ) (p q : Pass) : Type 0 where
  pub keeping : Keeping b segment into cutoff row count p q
  pub within : (used : ℕ) → used_of p segment ≡ Some used → row ≤ used
  pub first : IsFirstRow (trace q) segment row

pub kept_items_first : (b : Board) (segment into cutoff : ℕ) (p : Pass) → IsQuiet b p → KeepingItems b segment into cutoff 0 0 p p
kept_items_first b segment into cutoff p quiet = record {
  keeping = keeping_first b segment into cutoff p quiet;
  within = λ used is. omega arith;
  first = (0, refl);
}

-- the next one, which ends before the rows that aren't used
module _ (b : Board) (segment into cutoff row count used rows : ℕ) (p q : Pass) (quiet : IsQuiet b p) (in_use : state_of p segment ≡ Some InUse)
    (target : IsKeepTarget segment into p) (is : used_of p segment ≡ Some used) (lt : row < used) (e : KeepingItems b segment into cutoff row count p q) where
  own_p : owner b.shape segment ≡ number p
  own_p = owns_used b p segment used quiet.pass is

  own_q : owner b.shape segment ≡ number q
  own_q = own_p ∙ sym e.keeping.on.same

  used_q : used_of q segment ≡ Some used
  used_q = e.keeping.uses.others segment target.other ∙ is

  -- it was gone over
  module _ (t : Pass) (keeps : KeepsGone b segment q t) (span : rows ≡ span_in (trace t) segment row) (all : ℕ) (one : Keeping b segment into cutoff (row + 1) all p t) where
    first_t : IsFirstRow (trace t) segment row
    first_t = first_stays b segment row used q t e.keeping.on.quiet keeps used_q (omega (arith, lt)) e.first

    item : IsItem b.shape (trace t) segment row used
    item = item_at b segment row used t one.on.quiet (one.uses.others segment target.other ∙ is) lt first_t

    items_on : KeepingItems b segment into cutoff (row + rows) all p t
    items_on =
        let some = header_some ((row_after (trace t) segment row).words 0) in let ends = item.ends in record {
          keeping = keeping_to b segment into cutoff used all p t quiet in_use target is (row + 1) (row + rows) one (omega (arith, span, some)) (omega (arith, span, ends))
              (λ i low high. item_behind b.shape (trace t) segment one.on.quiet.pass.lawful row used item i (omega (arith, low)) (omega (arith, high, span)));
          within = λ other there. let same = same_Some used other (sym is ∙ there) in omega (arith, span, ends, same);
          first = (suc first_t.0, ap (λ m. m + span_in (trace t) segment m) first_t.1 ∙ ap (λ m. row + m) (sym span));
        }

  -- the row is a used one still
  module _ (r : Pass) where
    pub used_moved : KeepsRow b segment row into cutoff kept.Moved q r → IsUsedRow segment row r
    used_moved k = let a = k.answer in
        (used, (uses_more into q r (span_in (trace a.0) segment row) a.11 k.memo).others segment target.other ∙ used_q, lt)

    pub used_left : KeepsRow b segment row into cutoff kept.Left q r → IsUsedRow segment row r
    used_left k = (used, same_used q r segment (left_changes b segment row into cutoff q r e.keeping.on.quiet k).plain ∙ used_q, lt)

  module _ (r t : Pass) (i : Idles b r t) (load : TakesAtMost 1 r t) (span : rows ≡ span_in (trace t) segment row) where
    pub items_moved : KeepsRow b segment row into cutoff kept.Moved q r → TakesAtMost (most_steps_of_keep_row kept.Moved - 1) q r
        → KeepingItems b segment into cutoff (row + rows) (count + 1) p t
    items_moved one steps =
        let k = moved_looked b segment row into cutoff q r t own_q i one in
        items_on t (moved_gone b segment row into cutoff q t own_q target.other k) span (count + 1)
        (keeping_moved b segment into cutoff row count p q t own_p e.keeping target.other k
        (item_of b segment into cutoff row count p q quiet in_use target e.keeping used is t lt kept.Moved k (omega (arith, steps, load))))

    pub items_left : KeepsRow b segment row into cutoff kept.Left q r → TakesAtMost (most_steps_of_keep_row kept.Left - 1) q r
        → KeepingItems b segment into cutoff (row + rows) count p t
    items_left one steps =
        let k = left_looked b segment row into cutoff q r t own_q i one in
        items_on t (left_gone b segment row into cutoff q t own_q k) span count
        (keeping_left b segment into cutoff row count p q t own_p e.keeping k
        (item_of b segment into cutoff row count p q quiet in_use target e.keeping used is t lt kept.Left k (omega (arith, steps, load))))
