-- The eviction of a segment, item by item: the rows behind an item's first are gone over by no step.
use Rattle.std.proofs.Common.{◌≡◌, ℕ, zero, suc, ◌+◌, ◌-◌, ◌<◌, ◌≤◌, List, [], refl, sym, ap, ◌∙◌, subst, inr, ⊎_elim, Some, arith}
use Rattle.std.proofs.lemmas.Bool.{cases_lt}
use Rattle.std.proofs.lemmas.Option.{same_Some}
use Rattle.segword.specs.Words.{Shape}
use Rattle.segmodel.specs.declared.answer.SegState.TheVariants.{InUse}
use Rattle.segmodel.specs.Words.{owner}
use Rattle.segcore.specs.Words.{row_after, RowGone, span_in}
use Rattle.segcore.proofs.Spans.{header_some}
use Rattle.segbase.specs.Words.{Board, number, Pass, state_of, trace, used_of}
use Rattle.segstore.specs.Words.{GoesOn, Idles, IsQuiet, TakesAtMost}
use Rattle.segstore.proofs.Draws.{moved_undrawn}
use Rattle.segstore.proofs.Idling.{does_nothing, goes_nowhere}
use Rattle.segstore.proofs.Keeping.{owns_used, same_states, same_used}
use Rattle.segstore.proofs.Refills.{idles}
use Rattle.segstore.proofs.Still.{no_reader}
use Rattle.segwrite.proofs.Places.{idles_then}
use Rattle.segevict.specs.declared.eviction.EvictRowAnswer.TheVariants as evict_row
use Rattle.segevict.specs.EvictedRow.{EvictsItem}
use Rattle.segevict.specs.Evicting.{LooksForFirst}
use Rattle.segevict.specs.Naming.{AreUnnamed}
use Rattle.segevict.specs.Rows.{HasRow, IsUsedRow, KeepsGone}
use Rattle.segevict.specs.Spans.{IsFirstRow}
use Rattle.segevict.specs.Steps.{most_steps_of_evict_row}
use Rattle.segevict.specs.Tries.{StoodIn, TriesFor}
use Rattle.segevict.specs.Unlinking.{EvictsRow}
use Rattle.segevict.proofs.EvictedRow.{row_out}
use Rattle.segevict.proofs.Evictions.{Evicting, evicting_none, evicting_one, row_there}
use Rattle.segevict.proofs.Items.{first_stays, IsItem, item_at, item_behind}
use Rattle.segevict.proofs.KeyTries.{no_tries}
use Rattle.segevict.proofs.Naming.{gone_unless_named, quiet_still}
use Rattle.segevict.proofs.RowsOut.{calm_keeps_gone, evicted_looked, left_looked, row_is_none}

-- ---- rows behind the first one of an item

more_tries : (shape : Shape) (IsSo : List ℕ → Type 0) (few most : ℕ) (p q : Pass) → few ≤ most → TriesFor shape IsSo few p q → TriesFor shape IsSo most p q
more_tries shape IsSo few most p q le t = record { keys = t.keys; few = (let x = t.few in omega (arith, le)); stood = t.stood; taken = t.taken; bounced = t.bounced }

-- one that no word names is left by no step
left_out : (b : Board) (segment row : ℕ) (p : Pass) → IsQuiet b p → HasRow segment row p → RowGone b.shape segment row (trace p) → EvictsItem b segment row evict_row.Left p p
left_out b segment row p quiet has gone = row_out b segment row evict_row.Left p p has
    (row_is_none b segment row p p quiet (owns_used b p segment has.1.0 quiet.pass has.1.1) (idles b p quiet.pass) gone) (omega arith)

module _ (b : Board) (segment from taken : ℕ) (p q : Pass) where
  evicting_over : (row : ℕ) → Evicting b segment from row taken p q → HasRow segment row q → RowGone b.shape segment row (trace q) → Evicting b segment from (row + 1) taken p q
  evicting_over row e has gone = let few = e.few in let at = e.at in record {
    on = e.on;
    keeps = e.keeps;
    plain = e.plain;
    memo = e.memo;
    draws_nothing = e.draws_nothing;
    reads_nothing = e.reads_nothing;
    evictions = e.evictions;
    counted = e.counted;
    all = e.all;
    entries = e.entries;
    below = λ n lt. ⊎_elim
        (λ before. e.below n before)
        (λ after. let same : row ≡ n = omega (arith, lt, after) in subst (λ m. RowGone b.shape segment m (trace q)) same gone)
        (cases_lt n row);
    few = omega arith;
    rows = suc e.rows;
    at = omega arith;
    tries = more_tries b.shape (λ key. StoodIn b.shape segment key p q) e.rows (suc e.rows) p q (omega arith) e.tries;
    order = (q, inr (e.order, subst (λ n. EvictsItem b segment n evict_row.Left q q) at (left_out b segment row q e.on.quiet has gone)));
  }

  -- so many of them
  evicting_behind : (rows row : ℕ) → Evicting b segment from row taken p q → ((i : ℕ) → i < row + rows → HasRow segment i q)
      → ((i : ℕ) → row ≤ i → i < row + rows → RowGone b.shape segment i (trace q)) → Evicting b segment from (row + rows) taken p q
  evicting_behind zero row e has gone = let same : row ≡ row + zero = omega arith in subst (λ n. Evicting b segment from n taken p q) same e
  evicting_behind (suc rows) row e has gone =
      let next : (row + rows) + 1 ≡ row + suc rows = omega arith in
      subst (λ n. Evicting b segment from n taken p q) next
      (evicting_over (row + rows) (evicting_behind rows row e (λ i lt. has i (omega (arith, lt))) (λ i le lt. gone i le (omega (arith, lt))))
      (has (row + rows) (omega arith)) (gone (row + rows) (omega arith) (omega arith)))

  evicting_to : (row next : ℕ) → Evicting b segment from row taken p q → row ≤ next → ((i : ℕ) → i < next → HasRow segment i q)
      → ((i : ℕ) → row ≤ i → i < next → RowGone b.shape segment i (trace q)) → Evicting b segment from next taken p q
  evicting_to row next e le has gone =
      let same : row + (next - row) ≡ next = omega (arith, le) in
      subst (λ n. Evicting b segment from n taken p q) same (evicting_behind (next - row) row e
      (λ i lt. has i (omega (arith, lt, le))) (λ i low lt. gone i low (omega (arith, lt, le))))

-- ---- before the first row

-- from item to item up to the first one from a row on
pub record LookingFirst (b : Board) (segment from row : ℕ) (p q : Pass) : Type 0 where
  pub idles : Idles b p q
  pub first : IsFirstRow (trace q) segment row
  pub within : (used : ℕ) → used_of p segment ≡ Some used → row ≤ used
  pub behind : (i : ℕ) → from ≤ i → i < row → RowGone b.shape segment i (trace q)
  pub few : TakesAtMost row p q
  pub most : TakesAtMost from p q

pub looking_first : (b : Board) (segment from : ℕ) (p : Pass) → IsQuiet b p → LookingFirst b segment from 0 p p
looking_first b segment from p quiet = record {
  idles = idles b p quiet.pass;
  first = (0, refl);
  within = λ used is. omega arith;
  behind = λ i le lt. absurd (omega (arith, lt));
  few = omega arith;
  most = omega arith;
}

module _ (b : Board) (segment from row used rows : ℕ) (p q r : Pass) (quiet : IsQuiet b p) (is : used_of p segment ≡ Some used) (lt : row < from) (more : from < used)
    (l : LookingFirst b segment from row p q) (i : Idles b q r) (load : TakesAtMost 1 q r) (span : rows ≡ span_in (trace r) segment row) where
  looked_item : IsItem b.shape (trace r) segment row used
  looked_item =
      let q_quiet = quiet_still b p q quiet l.idles in let q_used = same_used p q segment l.idles.plain ∙ is in
      let keeps = calm_keeps_gone b segment [] q r i.moved tt (owns_used b q segment used q_quiet.pass q_used) in
      item_at b segment row used r (quiet_still b q r q_quiet i) (same_used q r segment i.plain ∙ q_used) (omega (arith, lt, more))
      (first_stays b segment row used q r q_quiet keeps q_used (omega (arith, lt, more)) l.first)

  pub looking_ends : row + rows ≤ used
  looking_ends = let ends = looked_item.ends in omega (arith, span, ends)

  pub looking_next : LookingFirst b segment from (row + rows) p r
  looking_next =
      let some = header_some ((row_after (trace r) segment row).words 0) in let few = l.few in let most = l.most in let ends = looking_ends in
      let q_quiet = quiet_still b p q quiet l.idles in let q_used = same_used p q segment l.idles.plain ∙ is in
      let keeps = calm_keeps_gone b segment [] q r i.moved tt (owns_used b q segment used q_quiet.pass q_used) in
      let first = first_stays b segment row used q r q_quiet keeps q_used (omega (arith, lt, more)) l.first in record {
        idles = idles_then b p q r l.idles i;
        first = (suc first.0, ap (λ m. m + span_in (trace r) segment m) first.1 ∙ ap (λ m. row + m) (sym span));
        within = λ other there. subst (λ n. row + rows ≤ n) (same_Some used other (sym is ∙ there)) ends;
        behind = λ n low high. item_behind b.shape (trace r) segment i.moved.pass.lawful row used looked_item n (omega (arith, low, lt)) (omega (arith, high, span));
        few = omega (arith, few, load, some, span);
        most = omega (arith, few, load, lt);
      }

-- the pass looked which row from this one on is an item's first
evicting_looked : (b : Board) (segment from used : ℕ) (p q : Pass) → IsQuiet b p → used_of p segment ≡ Some used → AreUnnamed b.shape segment from p
    → LooksForFirst b segment from p q → Evicting b segment from from 0 p q
evicting_looked b segment from used p q quiet is none looks =
    let i = looks.0 in
    let keeps = calm_keeps_gone b segment [] p q i.moved tt (owns_used b p segment used quiet.pass is) in record {
      on = goes_nowhere b p q quiet i.moved i.plain i.memo;
      keeps = keeps;
      plain = i.plain;
      memo = i.memo;
      draws_nothing = moved_undrawn b [] p q i.moved tt;
      reads_nothing = no_reader b [] p q i.moved tt;
      evictions = [];
      counted = refl;
      all = tt;
      entries = (does_nothing b p q quiet i.moved i.plain i.memo).entries;
      below = λ n lt. keeps.lasts n (gone_unless_named b.shape (trace p) segment n quiet.pass.lawful (none n lt).1);
      few = omega arith;
      rows = 0;
      at = omega arith;
      tries = no_tries b (λ key. StoodIn b.shape segment key p q) 0 p q i.moved;
      order = (refl, looks);
    }

-- ---- from item to item

pub record EvictingItems (b : Board) (segment from row taken : ℕ) (p q : Pass) : Type 0 where
  pub evicting : Evicting b segment from row taken p q
  pub within : (used : ℕ) → used_of p segment ≡ Some used → row ≤ used
  pub first : IsUsedRow segment row q → IsFirstRow (trace q) segment row

has_used : (segment used row : ℕ) (p q : Pass) → q.plain ≡ p.plain → state_of p segment ≡ Some InUse → used_of p segment ≡ Some used → row < used → HasRow segment row q
has_used segment used row p q plain in_use is lt = (same_states p q segment plain ∙ in_use, (used, same_used p q segment plain ∙ is, lt))

pub items_first : (b : Board) (segment from row used : ℕ) (p q : Pass) → IsQuiet b p → state_of p segment ≡ Some InUse → used_of p segment ≡ Some used → AreUnnamed b.shape segment from p
    → LooksForFirst b segment from p q → from ≤ row → row ≤ used → (IsUsedRow segment row q → IsFirstRow (trace q) segment row)
    → ((i : ℕ) → from ≤ i → i < row → RowGone b.shape segment i (trace q)) → EvictingItems b segment from row 0 p q
items_first b segment from row used p q quiet in_use is none looks later within first behind =
    let i = looks.0 in record {
      evicting = evicting_to b segment from 0 p q from row (evicting_looked b segment from used p q quiet is none looks) later
          (λ n lt. has_used segment used n p q i.plain in_use is (omega (arith, lt, within))) behind;
      within = λ other there. subst (λ n. row ≤ n) (same_Some used other (sym is ∙ there)) within;
      first = first;
    }

-- the next one, which ends before the rows that aren't used
module _ (b : Board) (segment from row taken used rows : ℕ) (p q : Pass) (in_use : state_of p segment ≡ Some InUse) (is : used_of p segment ≡ Some used) (lt : row < used)
    (e : EvictingItems b segment from row taken p q) where
  used_now : used_of q segment ≡ Some used
  used_now = same_used p q segment e.evicting.plain ∙ is

  -- it was gone over
  module _ (t : Pass) (keeps : KeepsGone b segment q t) (on : GoesOn b q t) (plain : t.plain ≡ q.plain) (span : rows ≡ span_in (trace t) segment row) where
    first_then : IsFirstRow (trace t) segment row
    first_then = first_stays b segment row used q t e.evicting.on.quiet keeps used_now (omega (arith, lt)) (e.first (used, used_now, lt))

    item : IsItem b.shape (trace t) segment row used
    item = item_at b segment row used t on.quiet (same_used q t segment plain ∙ used_now) lt first_then

    pub item_ends : row + rows ≤ used
    item_ends = let ends = item.ends in omega (arith, span, ends)

    items_on : (count : ℕ) → Evicting b segment from (row + 1) count p t → EvictingItems b segment from (row + rows) count p t
    items_on count one =
        let some = header_some ((row_after (trace t) segment row).words 0) in let ends = item_ends in record {
          evicting = evicting_to b segment from count p t (row + 1) (row + rows) one (omega (arith, span, some))
              (λ i below. has_used segment used i p t one.plain in_use is (omega (arith, below, ends)))
              (λ i low high. item_behind b.shape (trace t) segment on.quiet.pass.lawful row used item i (omega (arith, low)) (omega (arith, high, span)));
          within = λ other there. subst (λ n. row + rows ≤ n) (same_Some used other (sym is ∙ there)) ends;
          first = λ _. (suc first_then.0, ap (λ m. m + span_in (trace t) segment m) first_then.1 ∙ ap (λ m. row + m) (sym span));
        }

  module _ (r t : Pass) (i : Idles b r t) (load : TakesAtMost 1 r t) (span : rows ≡ span_in (trace t) segment row) where
    own : owner b.shape segment ≡ number q
    own = owns_used b q segment used e.evicting.on.quiet.pass used_now

    has : HasRow segment row q
    has = row_there b segment from row taken used p q e.evicting in_use is lt

    pub items_evicted : EvictsRow b segment row evict_row.Evicted q r → TakesAtMost (most_steps_of_evict_row evict_row.Evicted - 1) q r
        → EvictingItems b segment from (row + rows) (taken + 1) p t
    items_evicted one steps =
        let x = evicted_looked b segment row q r t own i one in
        items_on t x.answer.0 x.on x.plain span (taken + 1) (evicting_one b segment from row taken p q t e.evicting has x (omega (arith, steps, load)))

    pub items_left : EvictsRow b segment row evict_row.Left q r → TakesAtMost (most_steps_of_evict_row evict_row.Left - 1) q r
        → EvictingItems b segment from (row + rows) taken p t
    items_left one steps =
        let x = left_looked b segment row q r t own i one in
        items_on t x.answer.0 x.on x.plain span taken (evicting_none b segment from row taken p q t e.evicting has x (omega (arith, steps, load)))
