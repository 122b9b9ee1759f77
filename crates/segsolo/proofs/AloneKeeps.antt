-- With one pass, a keep is served as the model says.
use Rattle.std.proofs.Common.{◌≡◌, ◌≢◌, ◌⊎◌, ℕ, zero, suc, ◌+◌, ◌<◌, ◌≤◌, ◌==◌, ◌&&◌, Bool, true, false, cond, not, List, [], ◌∷◌, length, Option, Some, None, unwrap_or, refl, sym, ap, ◌∙◌, subst, inl, inr, ⊎_elim, arith, eq-eqb}
use Rattle.std.proofs.lemmas.Bool.{cases_eq, ne_eqb}
use Rattle.std.proofs.lemmas.Option.{none-some, same_Some}
use Rattle.segmodel.specs.declared.answer.KeepAnswer.TheVariants as keep
use Rattle.segmodel.specs.declared.answer.Answer.TheVariants as answer
use Rattle.segmodel.specs.declared.answer.Command.TheVariants as command
use Rattle.segmodel.specs.declared.answer.SegState.TheVariants.{Empty, Evicted, InUse}
use Rattle.segmodel.specs.Words.{after, bucket_of, is_in_use, is_locked, is_own, keep_into, keep_rows, KeepAnswer, keeps, lacks_rows, moved_to, SegState, span_under, StandsIn, State}
use Rattle.segcore.specs.Words.{bounced, frequency_in, span_in}
use Rattle.segcore.proofs.Marked.{entries_marked}
use Rattle.segbase.specs.Passes as passes
use Rattle.segbase.specs.declared.pass.PlainPart.{PlainPart}
use Rattle.segbase.specs.Words.{Board, current_of, deadline_in, deadline_of, locked_of, marked, own_segment, Pass, seen, state_of, trace}
use Rattle.segbase.proofs.Alone.{bounced_alone}
use Rattle.segstore.specs.Words.{ChangesNothing, DrawsNothing, GoesOn, has_room_for, RaisesNothing, ReadsNothing}
use Rattle.segstore.proofs.Keeping.{knows_deadline}
use Rattle.segevict.specs.Words.{CarriesItem, GoesInOrder, GoesOver, HadFrequency, IsKeepAnswer, IsKeepTarget, KeepsItems, LacksBit, LacksRoom, LeavesItsItem, MovesItsItem, UsesRows}
use Rattle.segsolo.specs.Alone.{frequencies_in, IsAlone, or_empty, ServesAlone, state_at}
use Rattle.segsolo.specs.Stored.{came_with, frequencies_of, items_stored_in, keys_of_rows, keys_stored_in}
use Rattle.segsolo.proofs.AloneMoments.{names_moved, NamesRow}
use Rattle.segsolo.proofs.AloneMoves.{gone, has_moved, HasMoved, is_to_move, last_item, last_row, names_now, names_then, often, seldom, span_is, stays, StaysAlone}
use Rattle.segsolo.proofs.AlonePass.{locked_here, not_own, own_is, same_seen}
use Rattle.segsolo.proofs.AloneRefusals.{lacks_for}
use Rattle.segsolo.proofs.AloneRows.{lasts_kept}
use Rattle.segsolo.proofs.Rows.{items_some}
use Rattle.segsolo.proofs.Walks.{at_row, BeginsAt, blocks, ends, IsBehind, moves as moves_on, passes, rest_all, rest_from, rest_none, to_last}

-- ---- what the model makes of the rows from one on

-- of the items that begin at a row or behind it, in a state in which so many items were moved
abbrev rows_left : Board → ℕ → ℕ → ℕ → ℕ × List (List ℕ × ℕ) → ℕ → Pass → KeepAnswer × State
rows_left b segment into cutoff rest count p =
    keep_rows b.shape segment into cutoff (keys_of_rows rest.1)
    (frequencies_of (came_with (marked p) segment) (frequency_in (marked p) segment) rest.0 rest.1) count (state_at b.shape p)

abbrev rest_of : Board → ℕ → ℕ → Pass → ℕ × List (List ℕ × ℕ)
rest_of b segment row p = rest_from 0 row (items_stored_in b.shape (seen p) segment)

-- The row was gone over: the pass is alone again, items are still moved into the same segment, the same items
-- were stored in the segment, and the rows behind this one come to what this row and they came to before.
record GoesOnTo (b : Board) (segment into cutoff row count more : ℕ) (p q : Pass) : Type 0 where
  pub alone : IsAlone b q
  pub target : IsKeepTarget segment into q
  pub items : items_stored_in b.shape (seen q) segment ≡ items_stored_in b.shape (seen p) segment
  pub rest : rows_left b segment into cutoff (rest_of b segment row p) count p ≡ rows_left b segment into cutoff (rest_of b segment (suc row) q) more q

-- or the keep ended at it, with this answer
record EndsAt (b : Board) (segment into cutoff row count : ℕ) (told : KeepAnswer) (p q : Pass) : Type 0 where
  pub alone : IsAlone b q
  pub end : rows_left b segment into cutoff (rest_of b segment row p) count p ≡ (told, state_at b.shape q)

-- it reads as no reader does
unraised_in : (p q : Pass) → ReadsNothing p q → RaisesNothing p q
unraised_in p q none = ap (λ r. r.0) none

-- ---- a row that changes nothing

module _ (b : Board) (segment into cutoff row count : ℕ) (p q : Pass) (target : IsKeepTarget segment into p) (nothing : ChangesNothing p q) (same : StaysAlone b p q) where
  target_still : IsKeepTarget segment into q
  target_still = record {
    current = ap (λ (x : PlainPart). x.current) nothing.plain ∙ target.current;
    other = target.other;
    deadlines = ap (λ (x : PlainPart). deadline_in (own_segment x segment)) nothing.plain ∙ (target.deadlines ∙ sym (ap (λ (x : PlainPart). deadline_in (own_segment x into)) nothing.plain));
  }

  -- what the rows come to stays so
  left_still : (rest : ℕ × List (List ℕ × ℕ)) → rows_left b segment into cutoff rest count q ≡ rows_left b segment into cutoff rest count p
  left_still rest = λ i. keep_rows b.shape segment into cutoff (keys_of_rows rest.1)
      (frequencies_of (λ r. (same.frequencies segment r).1 i) (λ r. (same.frequencies segment r).0 i) rest.0 rest.1) count (same.state i)

  passed : rows_left b segment into cutoff (rest_of b segment row p) count p ≡ rows_left b segment into cutoff (rest_of b segment (suc row) p) count p
      → GoesOnTo b segment into cutoff row count count p q
  passed over = record {
    alone = same.alone;
    target = target_still;
    items = same.items segment;
    rest = over ∙ (sym (left_still (rest_of b segment (suc row) p)) ∙ ap (λ items. rows_left b segment into cutoff (rest_from 0 (suc row) items) count q) (sym (same.items segment)));
  }

-- ---- a row behind an item's first

-- no item names it, so it is passed over
module _ (b : Board) (segment into cutoff row count : ℕ) (p q : Pass) (was : IsAlone b p) (target : IsKeepTarget segment into p)
    (behind : IsBehind 0 row (items_stored_in b.shape (seen p) segment)) where
  unnamed : (IsSo : ℕ → Type 0) (owner : List ℕ) → NamesRow b.shape segment row IsSo p owner → ⊥
  unnamed IsSo owner names = behind.unnamed owner (last_item b segment cutoff row p was IsSo owner names)

  behind_leaves : LeavesItsItem b segment row cutoff p q → GoesOnTo b segment into cutoff row count count p q
  behind_leaves is = let nothing = is.answer.2 in
      passed b segment into cutoff row count p q target nothing (stays b p q was is.on is.costs.draws_nothing (unraised_in p q is.costs.reads_nothing) nothing)
      (ap (λ rest. rows_left b segment into cutoff rest count p) (sym behind.still))

  behind_moves : MovesItsItem b segment row cutoff p q → ⊥
  behind_moves is = let a = is.answer in
      unnamed (λ frequency. cutoff ≤ frequency) a.3.0 (names_moved b p q was is.on (unraised_in p q is.costs.reads_nothing) segment row cutoff a.0 a.3.0 a.3.1)

  behind_runs_out : LacksRoom b segment row cutoff p q → ⊥
  behind_runs_out is = ⊎_elim
      (λ nowhere. nowhere.0 into target)
      (λ out. unnamed (λ frequency. cutoff ≤ frequency) out.4.0
      (names_now b segment cutoff row p was q is.on (unraised_in p q is.costs.reads_nothing) out.2 out.4.0 out.4.1))
      is.answer

  behind_is_blocked : LacksBit b segment row cutoff p q → ⊥
  behind_is_blocked is = unnamed (λ frequency. cutoff ≤ frequency) is.answer.4.0
      (names_then b segment cutoff row p was q is.on (unraised_in p q is.costs.reads_nothing) is.answer.2 (λ frequency. cutoff ≤ frequency) is.answer.4.0 is.answer.4.1)

-- ---- what an item's first row comes to

module _ (b : Board) (segment into cutoff row count : ℕ) (p q : Pass) (was : IsAlone b p) (target : IsKeepTarget segment into p)
    (begins : BeginsAt 0 row (items_stored_in b.shape (seen p) segment)) where
  abbrev key : List ℕ
  key = begins.item.0

  abbrev keys : List (List ℕ)
  keys = keys_of_rows begins.later

  abbrev frequency : ℕ
  frequency = frequency_in (marked p) segment row

  abbrev frequencies : List ℕ
  frequencies = frequencies_of (came_with (marked p) segment) (frequency_in (marked p) segment) (row + begins.item.1) begins.later

  -- the model decides of the item at its last row
  decides : rows_left b segment into cutoff (rest_of b segment row p) count p ≡ keep_rows b.shape segment into cutoff (key ∷ keys) (frequency ∷ frequencies) count (state_at b.shape p)
  decides = ap (λ rest. rows_left b segment into cutoff rest count p) begins.here
      ∙ to_last b.shape segment into cutoff begins.item.1 key keys (came_with (marked p) segment row) frequency frequencies count (state_at b.shape p) begins.some

  -- ---- it stays as it was, and the model passes over it

  over : is_to_move segment cutoff key keys frequency (state_at b.shape p) ≡ false
      → rows_left b segment into cutoff (rest_of b segment row p) count p ≡ rows_left b segment into cutoff (rest_of b segment (suc row) p) count p
  over is = decides ∙ (passes b.shape segment into cutoff count (state_at b.shape p) key keys frequency frequencies is
      ∙ ap (λ rest. rows_left b segment into cutoff rest count p) (sym begins.next))

  leaves : LeavesItsItem b segment row cutoff p q → GoesOnTo b segment into cutoff row count count p q
  leaves is = passed b segment into cutoff row count p q target nothing same (over (⊎_elim
      (λ none. gone b segment cutoff row p was begins (λ named. none (record {
        key = named.key;
        stands = subst (λ h. StandsIn (after b.shape h) named.key segment) (entries_marked (trace p) ∙
            (sym (same_seen b p q was is.on.quiet nothing.entries) ∙ sym (entries_marked (trace q)))) named.stands;
        last = lasts_kept b p q was is.on [] nothing.entries tt named.key ∙ named.last;
      })))
      (λ some. seldom b segment cutoff row p was begins some.0
      (names_then b segment cutoff row p was q is.on unraised nothing (λ frequency. frequency < cutoff) some.0 some.1))
      is.answer.3))
    where
      nothing : ChangesNothing p q
      nothing = is.answer.2

      unraised : RaisesNothing p q
      unraised = unraised_in p q is.costs.reads_nothing

      same : StaysAlone b p q
      same = stays b p q was is.on is.costs.draws_nothing unraised nothing

  -- ---- the keep ends at it

  -- the model has too few rows where the pass has
  lacks_is : (owner : List ℕ) → NamesRow b.shape segment row (λ frequency. cutoff ≤ frequency) p owner
      → lacks_rows b.shape (span_under (state_at b.shape p) key) (state_at b.shape p).filling (Some into) ≡ not (has_room_for b.shape (span_in (trace p) segment row) p)
  lacks_is owner names =
      (λ i. lacks_rows b.shape (rows i) (state_at b.shape p).filling (sym target.current i)) ∙ lacks_for b p (span_in (trace p) segment row) was
    where
      rows : span_under (state_at b.shape p) key ≡ span_in (trace p) segment row
      rows = ap (span_under (state_at b.shape p)) (last_row b segment cutoff row p was (λ frequency. cutoff ≤ frequency) owner names begins).0
          ∙ sym (span_is b segment cutoff row p was (λ frequency. cutoff ≤ frequency) owner names)

  runs_out : LacksRoom b segment row cutoff p q → EndsAt b segment into cutoff row count (keep.NoRoom count) p q
  runs_out is = ⊎_elim
      (λ nowhere. absurd (nowhere.0 into target))
      (λ out. ended is.costs.draws_nothing (unraised_in p q is.costs.reads_nothing) is.on out.2 out.3 out.4.0 out.4.1)
      is.answer
    where
      ended : DrawsNothing p q → RaisesNothing p q → GoesOn b p q → ChangesNothing p q → has_room_for b.shape (span_in (trace p) segment row) q ≡ false → (owner : List ℕ)
          → HadFrequency b.shape segment row (λ frequency. cutoff ≤ frequency) (marked q) (marked q) owner → EndsAt b segment into cutoff row count (keep.NoRoom count) p q
      ended undrawn unraised on nothing full owner had =
          let same = stays b p q was on undrawn unraised nothing in
          let names = names_now b segment cutoff row p was q on unraised nothing owner had in
          let full_then : has_room_for b.shape (span_in (trace p) segment row) p ≡ false =
          subst (λ (x : PlainPart). has_room_for b.shape (span_in (trace p) segment row) (record p { plain = x }) ≡ false) nothing.plain full in record {
            alone = same.alone;
            end = decides ∙ (ends b.shape segment into cutoff count (state_at b.shape p) key keys frequency frequencies
                (often b segment cutoff row p was begins owner names) (lacks_is owner names ∙ ap not full_then)
                ∙ ap (λ s. (keep.NoRoom count, s)) (sym same.state));
          }

  is_blocked : LacksBit b segment row cutoff p q → EndsAt b segment into cutoff row count (keep.Busy count) p q
  is_blocked is =
      let nothing = is.answer.2 in
      let owner = is.answer.4.0 in
      let unraised = unraised_in p q is.costs.reads_nothing in
      let names = names_then b segment cutoff row p was q is.on unraised nothing (λ frequency. cutoff ≤ frequency) owner is.answer.4.1 in
      let same = stays b p q was is.on is.costs.draws_nothing unraised nothing in
      let room : has_room_for b.shape (span_in (trace p) segment row) p ≡ true =
      subst (λ (x : PlainPart). has_room_for b.shape (span_in (trace p) segment row) (record p { plain = x }) ≡ true) nothing.plain is.answer.3 in record {
        alone = same.alone;
        end = decides ∙ (blocks b.shape segment into cutoff count (state_at b.shape p) key keys frequency frequencies
            (often b segment cutoff row p was begins owner names) (lacks_is owner names ∙ ap not room)
            (ap (is_locked b.shape (state_at b.shape p))
            (last_row b segment cutoff row p was (λ frequency. cutoff ≤ frequency) owner names begins).0
            ∙ locked_here b.shape p owner (own_lock owner is.answer.4.2))
            ∙ ap (λ s. (keep.Busy count, s)) (sym same.state));
      }
    where
      -- only its own lock refuses it
      own_lock : (owner : List ℕ) → (locked_of p ≡ Some (bucket_of b.shape owner))
          ⊎ (passes.count (bounced (bucket_of b.shape owner)) p + 64 ≤ passes.count
          (bounced (bucket_of b.shape owner)) q) → locked_of p ≡ Some (bucket_of b.shape owner)
      own_lock owner (inl own) = own
      own_lock owner (inr met) = let none = bounced_alone b q (bucket_of b.shape owner) is.on.quiet.pass was.one in let many = met in absurd (omega arith)

  -- ---- its item is moved

  module _ (on : GoesOn b p q) (undrawn : DrawsNothing p q) (unraised : RaisesNothing p q)
      (uses : UsesRows into (span_in (trace p) segment row) p q) (owner : List ℕ)
      (carries : CarriesItem b.shape segment row cutoff into p q owner) where
    is_moved : HasMoved b segment into cutoff row p q owner
    is_moved = has_moved b segment into cutoff row p q was target on undrawn unraised uses owner carries

    key_is : key ≡ owner
    key_is = (last_row b segment cutoff row p was (λ frequency. cutoff ≤ frequency) owner is_moved.names begins).0

    -- the rows of the segment that was left stay as they are
    moved_left : keep_rows b.shape segment into cutoff keys frequencies (count + 1) (moved_to key frequency into (state_at b.shape p))
        ≡ rows_left b segment into cutoff (row + begins.item.1, begins.later) (count + 1) q
    moved_left = ap (λ k. keep_rows b.shape segment into cutoff keys frequencies (count + 1) (moved_to k frequency into (state_at b.shape p))) key_is
        ∙ sym (λ i. keep_rows b.shape segment into cutoff keys
        (frequencies_of (λ r. is_moved.came r i) (λ r. is_moved.frequencies r i) (row + begins.item.1) begins.later) (count + 1) (is_moved.state i))

    goes_on : GoesOnTo b segment into cutoff row count (count + 1) p q
    goes_on = record {
      alone = is_moved.alone;
      target = record {
        current = uses.current ∙ target.current;
        other = target.other;
        deadlines = uses.deadlines segment ∙ (target.deadlines ∙ sym (uses.deadlines into));
      };
      items = is_moved.items;
      rest = decides ∙ (moves_on b.shape segment into cutoff count (state_at b.shape p) key keys frequency frequencies (often b segment cutoff row p was begins owner is_moved.names)
          (ap (λ k. lacks_rows b.shape (span_under (state_at b.shape p) k) (state_at b.shape p).filling (Some into)) key_is ∙ is_moved.room)
          (ap (is_locked b.shape (state_at b.shape p)) key_is ∙ is_moved.free)
          ∙ (moved_left ∙ (ap (λ rest. rows_left b segment into cutoff rest (count + 1) q) (sym begins.next)
          ∙ ap (λ items. rows_left b segment into cutoff (rest_from 0 (suc row) items) (count + 1) q) (sym is_moved.items))));
    }

  moves_item : MovesItsItem b segment row cutoff p q → GoesOnTo b segment into cutoff row count (count + 1) p q
  moves_item is =
      let a = is.answer in
      let same : a.0 ≡ into = same_Some a.0 into (sym a.1.current ∙ target.current) in
      let there = subst (λ n. UsesRows n (span_in (trace p) segment row) p q × CarriesItem b.shape segment row cutoff n p q a.3.0) same (a.2, a.3.1) in
      goes_on is.on is.costs.draws_nothing (unraised_in p q is.costs.reads_nothing) there.0 a.3.0 there.1

-- ---- row after row

-- the first rows were gone over: the rows behind them come to what all rows came to at the start
record HasGoneOver (b : Board) (segment into cutoff row count : ℕ) (p q : Pass) : Type 0 where
  alone : IsAlone b q
  target : IsKeepTarget segment into q
  items : items_stored_in b.shape (seen q) segment ≡ items_stored_in b.shape (seen p) segment
  rest : rows_left b segment into cutoff (rest_of b segment 0 p) 0 p ≡ rows_left b segment into cutoff (rest_of b segment row q) count q

module _ (b : Board) (segment into cutoff : ℕ) (p : Pass) (was : IsAlone b p) (target : IsKeepTarget segment into p) where
  one_more : (row count more : ℕ) (middle q : Pass) → HasGoneOver b segment into cutoff row count p middle → GoesOnTo b segment into cutoff row count more middle q
      → HasGoneOver b segment into cutoff (suc row) more p q
  one_more row count more middle q far step = record { alone = step.alone; target = step.target; items = step.items ∙ far.items; rest = far.rest ∙ step.rest }

  -- an item begins in the row, or the row is one behind an item's first
  begins_or_not : (row count : ℕ) (middle : Pass) → row < length (keys_stored_in b.shape (seen p) segment) → HasGoneOver b segment into cutoff row count p middle
      → BeginsAt 0 row (items_stored_in b.shape (seen middle) segment) ⊎ IsBehind 0 row (items_stored_in b.shape (seen middle) segment)
  begins_or_not row count middle few far =
      let same : length (keys_stored_in b.shape (seen middle) segment) ≡ length (keys_stored_in b.shape (seen p) segment) = ap (λ items. length (keys_of_rows items)) far.items in
      at_row 0 row (items_stored_in b.shape (seen middle) segment) (items_some b.shape (seen middle) segment) (omega arith) (omega (arith, few, same))

  goes_over : (row count : ℕ) (q : Pass) → row ≤ length (keys_stored_in b.shape (seen p) segment) → GoesOver b segment cutoff row count p q → HasGoneOver b segment into cutoff row count p q
  goes_over zero count q few (none, same) = subst (λ n. HasGoneOver b segment into cutoff 0 n p q) (sym none)
      (subst (λ r. HasGoneOver b segment into cutoff 0 0 p r) (sym same) (record { alone = was; target = target; items = refl; rest = refl }))
  goes_over (suc row) count q few (middle, inl (before, counted, earlier, moved)) =
      let far = goes_over row before middle (omega (arith, few)) earlier in
      subst (λ n. HasGoneOver b segment into cutoff (suc row) n p q) (sym counted) (one_more row before (before + 1) middle q far (⊎_elim
      (λ begins. moves_item b segment into cutoff row before middle q far.alone far.target begins moved)
      (λ behind. absurd (behind_moves b segment into cutoff row before middle q far.alone far.target behind moved))
      (begins_or_not row before middle (omega (arith, few)) far)))
  goes_over (suc row) count q few (middle, inr (earlier, left)) =
      let far = goes_over row count middle (omega (arith, few)) earlier in
      one_more row count count middle q far (⊎_elim
      (λ begins. leaves b segment into cutoff row count middle q far.alone far.target begins left)
      (λ behind. behind_leaves b segment into cutoff row count middle q far.alone far.target behind left)
      (begins_or_not row count middle (omega (arith, few)) far))

  -- the pass is alone at the end, and all rows came to the answer
  abbrev ComesTo : KeepAnswer → Pass → Type 0
  ComesTo told q = IsAlone b q
      × (keep_rows b.shape segment into cutoff (keys_stored_in b.shape (seen p) segment) (frequencies_in b.shape p segment) 0 (state_at b.shape p) ≡ (told, state_at b.shape q))

  -- from the first row on they are all
  all_rows : keep_rows b.shape segment into cutoff (keys_stored_in b.shape (seen p) segment) (frequencies_in b.shape p segment) 0 (state_at b.shape p)
      ≡ rows_left b segment into cutoff (rest_of b segment 0 p) 0 p
  all_rows = ap (λ rest. rows_left b segment into cutoff rest 0 p) (sym (rest_all 0 0 (items_stored_in b.shape (seen p) segment) (omega arith)))

  ended : (row count : ℕ) (told : KeepAnswer) (middle q : Pass) → HasGoneOver b segment into cutoff row count p middle → EndsAt b segment into cutoff row count told middle q → ComesTo told q
  ended row count told middle q far step = (step.alone, all_rows ∙ (far.rest ∙ step.end))

  -- behind the last row nothing is left
  at_end : (row count : ℕ) (q : Pass) → row ≡ length (keys_stored_in b.shape (seen p) segment) → HasGoneOver b segment into cutoff row count p q → ComesTo (keep.Kept count) q
  at_end row count q all far =
      let same : length (keys_stored_in b.shape (seen q) segment) ≡ length (keys_stored_in b.shape (seen p) segment) = ap (λ items. length (keys_of_rows items)) far.items in
      let rest = rest_of b segment row q in
      let none : rest.1 ≡ [] = rest_none 0 row (items_stored_in b.shape (seen q) segment) (items_some b.shape (seen q) segment) (omega (arith, all, same)) in (
        far.alone,
        all_rows ∙ (far.rest ∙ ap (λ items. rows_left b segment into cutoff (rest.0, items) count q) none),
      )

  in_order : (told : KeepAnswer) (q : Pass) → GoesInOrder b segment cutoff told p q → ComesTo told q
  in_order (keep.Kept count) q (used, is, over) =
      let all : used ≡ length (keys_stored_in b.shape (seen p) segment) = was.used segment used is in
      at_end used count q all (goes_over used count q (omega (arith, all)) over)
  in_order keep.NotYours q none = absurd none
  in_order (keep.NoRoom count) q (row, used, is, few, middle, over, out) =
      let all : used ≡ length (keys_stored_in b.shape (seen p) segment) = was.used segment used is in
      let far = goes_over row count middle (omega (arith, all, few)) over in
      ended row count (keep.NoRoom count) middle q far (⊎_elim
      (λ begins. runs_out b segment into cutoff row count middle q far.alone far.target begins out)
      (λ behind. absurd (behind_runs_out b segment into cutoff row count middle q far.alone far.target behind out))
      (begins_or_not row count middle (omega (arith, all, few)) far))
  in_order (keep.Busy count) q (row, used, is, few, middle, over, busy) =
      let all : used ≡ length (keys_stored_in b.shape (seen p) segment) = was.used segment used is in
      let far = goes_over row count middle (omega (arith, all, few)) over in
      ended row count (keep.Busy count) middle q far (⊎_elim
      (λ begins. is_blocked b segment into cutoff row count middle q far.alone far.target begins busy)
      (λ behind. absurd (behind_is_blocked b segment into cutoff row count middle q far.alone far.target behind busy))
      (begins_or_not row count middle (omega (arith, all, few)) far))

-- ---- the answer

module _ (b : Board) (p q : Pass) (segment cutoff : ℕ) (told : KeepAnswer) (was : IsAlone b p) (is : KeepsItems b segment cutoff told p q) where
  abbrev old : State
  old = state_at b.shape p

  -- what the model makes of the rows
  abbrev all_into : ℕ → KeepAnswer × State
  all_into into = keep_rows b.shape segment into cutoff (keys_stored_in b.shape (seen p) segment) (frequencies_in b.shape p segment) 0 old

  -- the model answers so, and leaves this state
  abbrev AnswersSo : Type 0
  AnswersSo = IsAlone b q × (keeps b.shape old segment cutoff ≡ (told, state_at b.shape q))

  -- nothing was done
  unchanged : (answered : KeepAnswer) → (told ≡ answered) × (q ≡ p) → keeps b.shape old segment cutoff ≡ (answered, old) → AnswersSo
  unchanged answered so model = (subst (IsAlone b) (sym so.1) was, model ∙ (λ i. (sym so.0 i, state_at b.shape (sym so.1 i))))

  of_state : (in_use : Bool) → is_own b.shape segment ≡ true → is_in_use (old.filling segment).state ≡ in_use
      → keeps b.shape old segment cutoff ≡ cond in_use (keep_into b.shape old segment cutoff (current_of p)) (keep.Kept 0, old)
  of_state in_use own used = λ i. cond (not (own i)) (keep.NotYours, old) (cond (used i) (keep_into b.shape old segment cutoff (current_of p)) (keep.Kept 0, old))

  -- ---- one that isn't in use

  idle : state_of p segment ≢ Some InUse → state_of p segment ≢ None → (told ≡ keep.Kept 0) × (q ≡ p)
  idle unused own = by told is.answer is.not_yours.0
    where
      by : (given : KeepAnswer) → IsKeepAnswer b segment cutoff given p q → (given ≡ keep.NotYours → state_of p segment ≡ None) → (given ≡ keep.Kept 0) × (q ≡ p)
      by (keep.Kept count) (inl moves) yours = absurd (unused moves.0.0)
      by (keep.Kept count) (inr none) yours = (ap keep.Kept none.1, none.2)
      by keep.NotYours same yours = absurd (own (yours refl))
      by (keep.NoRoom count) (inl none) yours = absurd (unused none.0)
      by (keep.NoRoom count) (inr moves) yours = absurd (unused moves.0.0)
      by (keep.Busy count) busy yours = absurd (unused busy.0.0)

  -- ---- one that is

  module _ (in_use : state_of p segment ≡ Some InUse) where
    own : is_own b.shape segment ≡ true
    own = own_is b p segment InUse was in_use

    into_is : keeps b.shape old segment cutoff ≡ keep_into b.shape old segment cutoff (current_of p)
    into_is = of_state true own (ap (λ o. is_in_use (or_empty o)) in_use)

    untargeted : ((into : ℕ) → ¬ (IsKeepTarget segment into p)) → (told ≡ keep.NoRoom 0) × (q ≡ p)
    untargeted none = by told is.answer is.not_yours.0
      where
        by : (given : KeepAnswer) → IsKeepAnswer b segment cutoff given p q → (given ≡ keep.NotYours → state_of p segment ≡ None) → (given ≡ keep.NoRoom 0) × (q ≡ p)
        by (keep.Kept count) (inl moves) yours = absurd (none moves.0.1.0 moves.0.1.1)
        by (keep.Kept count) (inr unused) yours = absurd (unused.0 in_use)
        by keep.NotYours same yours = absurd (none-some InUse (sym (yours refl) ∙ in_use))
        by (keep.NoRoom count) (inl nothing) yours = (ap keep.NoRoom nothing.2, nothing.3)
        by (keep.NoRoom count) (inr moves) yours = absurd (none moves.0.1.0 moves.0.1.1)
        by (keep.Busy count) busy yours = absurd (none busy.0.1.0 busy.0.1.1)

    -- both deadlines are those that the cache has
    deadline_is : (other : ℕ) → state_of p other ≡ Some InUse → deadline_of p other ≡ Some (old.cache.deadline other)
    deadline_is other known =
        let here = knows_deadline p other InUse known in here ∙ ap Some (sym (was.quiet.segments.deadlines other (unwrap_or (deadline_of p other) 0) here))

    module _ (into : ℕ) (current : current_of p ≡ Some into) where
      deadline_into : deadline_of p into ≡ Some (old.cache.deadline into)
      deadline_into = deadline_is into (was.quiet.segments.in_use into current)

      only : (other : ℕ) → current_of p ≡ Some other → into ≡ other
      only other also = same_Some into other (sym current ∙ also)

      -- it is the segment itself
      itself : segment ≡ into → AnswersSo
      itself same = unchanged (keep.NoRoom 0) (untargeted (λ other target. target.other (same ∙ only other target.current)))
          (into_is ∙ (ap (keep_into b.shape old segment cutoff) current
          ∙ (λ i. cond (not (eq-eqb segment into same i) && (old.cache.deadline segment == old.cache.deadline into)) (all_into into) (keep.NoRoom 0, old))))

      -- its deadline is another one
      elsewhen : segment ≢ into → old.cache.deadline segment ≢ old.cache.deadline into → AnswersSo
      elsewhen apart other = unchanged (keep.NoRoom 0)
          (untargeted (λ to target. other (same_Some (old.cache.deadline segment) (old.cache.deadline into)
          (sym (deadline_is segment in_use) ∙ (target.deadlines ∙ (ap (deadline_of p) (sym (only to target.current)) ∙ deadline_into))))))
          (into_is ∙ (ap (keep_into b.shape old segment cutoff) current
          ∙ (λ i. cond (not (ne_eqb segment into apart i) && ne_eqb (old.cache.deadline segment) (old.cache.deadline into) other i) (all_into into) (keep.NoRoom 0, old))))

      -- items can be moved there
      there : segment ≢ into → old.cache.deadline segment ≡ old.cache.deadline into → AnswersSo
      there apart same =
          let target : IsKeepTarget segment into p = record { current = current; other = apart; deadlines = deadline_is segment in_use ∙ (ap Some same ∙ sym deadline_into) } in
          let came = in_order b segment into cutoff p was target told q (is.costs.order into in_use target) in (
            came.0,
            into_is ∙ (ap (keep_into b.shape old segment cutoff) current
                ∙ ((λ i. cond (not (ne_eqb segment into apart i) && eq-eqb (old.cache.deadline segment)
                (old.cache.deadline into) same i) (all_into into) (
                  keep.NoRoom 0,
                  old,
                )) ∙ came.1)),
          )

      by_target : AnswersSo
      by_target = ⊎_elim itself
          (λ apart. ⊎_elim (there apart) (elsewhen apart) (cases_eq (old.cache.deadline segment) (old.cache.deadline into)))
          (cases_eq segment into)

    by_current : (current : Option ℕ) → current_of p ≡ current → AnswersSo
    by_current None none = unchanged (keep.NoRoom 0) (untargeted (λ into target. none-some into (sym none ∙ target.current)))
        (into_is ∙ ap (keep_into b.shape old segment cutoff) none)
    by_current (Some into) current = by_target into current

  unused : (state : SegState) → state_of p segment ≡ Some state → state ≢ InUse → is_in_use state ≡ false → AnswersSo
  unused state known other not_in_use = unchanged (keep.Kept 0)
      (idle (λ used. other (same_Some state InUse (sym known ∙ used))) (λ none. none-some state (sym none ∙ known)))
      (of_state false (own_is b p segment state was known) (ap (λ o. is_in_use (or_empty o)) known ∙ not_in_use))

  answered : (state : Option SegState) → state_of p segment ≡ state → AnswersSo
  answered None none = unchanged keep.NotYours
      (is.not_yours.1 none, subst (λ given. IsKeepAnswer b segment cutoff given p q) (is.not_yours.1 none) is.answer)
      (λ i. cond (not (not_own b p segment was none i)) (keep.NotYours, old) (cond (is_in_use (old.filling segment).state) (keep_into b.shape old segment cutoff (current_of p)) (keep.Kept 0, old)))
  answered (Some InUse) known = by_current known (current_of p) refl
  answered (Some Empty) known = unused Empty known (λ e. cc) refl
  answered (Some Evicted) known = unused Evicted known (λ e. cc) refl

-- ---- served

pub serves_keep : (b : Board) (p q : Pass) (segment cutoff : ℕ) (told : KeepAnswer) → IsAlone b p → KeepsItems b segment cutoff told p q
    → ServesAlone b (command.Keep segment cutoff) (answer.Keep told) p q
serves_keep b p q segment cutoff told was is =
    let so = answered b p q segment cutoff told was is (state_of p segment) refl in
    (so.0, (sym (ap (λ (given : KeepAnswer × State). answer.Keep given.0) so.1), sym (ap (λ (given : KeepAnswer × State). given.1) so.1)))
