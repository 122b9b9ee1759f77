-- What becomes of the item of a row in a keep: it is left, since no word names it or it was read too seldom; or
-- it is moved, or no word named it any more under the bit; or there is no row or no bit for it.
use Rattle.std.proofs.Common.{◌≡◌, ◌≢◌, Bool, ℕ, ◌+◌, ◌*◌, ◌/◌, ◌%◌, ◌^◌, ◌<◌, ◌≤◌, true, false, eqb, is_some, List, [], ◌∷◌, ◌++◌, None, refl, sym, ap, ◌∙◌, subst, inl, inr, ⊎_elim, arith}
use Rattle.std.proofs.lemmas.Bool.{cond-true, eq-eqb, ne_eqb}
use Rattle.std.proofs.lemmas.Option.{same_Some}
use Rattle.segword.specs.Words.{Item, item_word}
use Rattle.segmodel.specs.declared.entry.Entry.TheVariants.{Moved}
use Rattle.segmodel.specs.Words.{bucket_of, Entry, tag_of}
use Rattle.segcore.specs.declared.event.Event.TheVariants.{Freed}
use Rattle.segcore.specs.Event as event
use Rattle.segcore.specs.Words.{bounced, bucket_after, content_word, Event, frequency_of, item}
use Rattle.segcore.specs.Words.{NoneAt, packed, RowGone, Slot, slot, span_in, taken}
use Rattle.segcore.proofs.Coherent.{IsStanding}
use Rattle.segcore.proofs.Exact.{content_at}
use Rattle.segcore.proofs.Limits.{low_frequency, low_row, low_segment}
use Rattle.segcore.proofs.Standing.{coherent}
use Rattle.segbase.specs.declared.pass.PlainPart.{PlainPart}
use Rattle.segbase.specs.Words.{AddsAtOnce, AddsEvents, Board, cell_at, count}
use Rattle.segbase.specs.Words.{deadline_in, HasStep, IsPassOf, mine, number, own_segment, Pass}
use Rattle.segbase.specs.Words.{position, state_in, TakesSteps, trace, with_own}
use Rattle.segbase.proofs.Moves.{moved_count, moved_then}
use Rattle.segbase.proofs.Standing.{place_of_word, tag_of_word}
use Rattle.segstore.specs.Words.{AreRows, ChangesNothing, DrawsNothing, GoesOn, Idles, IsBusy}
use Rattle.segstore.specs.Words.{IsQuiet, KeepsSegments, memo, ReadsNothing, TakesNoBit, TakesOneBit}
use Rattle.segstore.specs.Words.{TookToWrite}
use Rattle.segstore.proofs.Keeping.{calm_in, keeps_plain, same_used}
use Rattle.segstore.proofs.Bounces.{bounces_calm}
use Rattle.segstore.proofs.Draws.{AreUndrawn, draws_none_then, moved_undrawn}
use Rattle.segstore.proofs.Idling.{does_nothing, goes_nowhere}
use Rattle.segstore.proofs.Peeking.{unread}
use Rattle.segstore.proofs.Refills.{idles}
use Rattle.segstore.proofs.Still.{AreStill, no_reader}
use Rattle.segstore.proofs.TakenBits.{AreNoTries}
use Rattle.segstore.proofs.UnderWrite.{begun, HasBegun, took_keeps, took_moved, tries, write_adds, write_goes_on}
use Rattle.segstore.proofs.UnderWrite.{write_peeking, write_takes, write_undrawn}
use Rattle.segwrite.specs.Words.{more, Target}
use Rattle.segwrite.proofs.Filling.{fills_nowhere, fills_seen, fills_still, fills_undrawn, fills_untried}
use Rattle.segevict.specs.declared.retention.KeepRowAnswer.{KeepRowAnswer}
use Rattle.segevict.specs.declared.retention.KeepRowAnswer.TheVariants as kept
use Rattle.segevict.specs.Frequencies.{WasOften}
use Rattle.segevict.specs.Moving.{IsKeptRow, KeepsRow, moves, MovesRow, SeesRow, under_bit}
use Rattle.segevict.specs.OneRow.{AfterLooks, TriesForRow}
use Rattle.segevict.specs.Rows.{IsNamedAt, IsStoredIn, KeepsGone}
use Rattle.segevict.specs.Target.{AreNextIn, has_rows_in, IsMoveTarget, IsNextIn}
use Rattle.segevict.specs.Tries.{TriesFor}
use Rattle.segevict.proofs.Frequencies.{had_seen}
use Rattle.segevict.proofs.Items.{span_over}
use Rattle.segevict.proofs.KeyTries.{no_tries, one_try, tries_after}
use Rattle.segevict.proofs.Naming.{unnamed}
use Rattle.segevict.proofs.RowsOut.{calm_keeps_gone, goes_then}
use Rattle.segevict.proofs.Seeking.{stored_over}
use Rattle.segevict.proofs.Unlinking.{named_home, named_key}
use Rattle.segevict.proofs.Unnamed.{gone_over}

-- the frequency in an item word
frequency_parts : (t f s r t' f' s' r' : ℕ) → f < 2 ^ 8 → s < 2 ^ 24 → r < 2 ^ 20 → f' < 2 ^ 8 → s' < 2 ^ 24 → r' < 2 ^ 20 → packed t f s r ≡ packed t' f' s' r' → f ≡ f'
frequency_parts t f s r t' f' s' r' lf ls lr lf' ls' lr' e =
    let tags : t ≡ t' = sym (tag_of_word t f s r lf ls lr) ∙ (ap (λ n. n / 2 ^ 52) e ∙ tag_of_word t' f' s' r' lf' ls' lr') in
    let places : s * 2 ^ 20 + r ≡ s' * 2 ^ 20 + r' = sym (place_of_word t f s r ls lr) ∙ (ap (λ n. n % 2 ^ 44) e ∙ place_of_word t' f' s' r' ls' lr') in
    omega (arith, tags, places, e)

-- by looks alone the pass saw that no word names the row
pub row_passed : (b : Board) (segment row into cutoff : ℕ) (p f : Pass) → IsQuiet b p → Idles b p f → RowGone b.shape segment row (trace f) → KeepsRow b segment row into cutoff kept.Left p f
row_passed b segment row into cutoff p f quiet i gone = record {
  on = goes_nowhere b p f quiet i.moved i.plain i.memo;
  memo = i.memo;
  draws_nothing = moved_undrawn b [] p f i.moved tt;
  reads_nothing = no_reader b [] p f i.moved tt;
  tries = no_tries b (WasOften b.shape segment cutoff p f) 1 p f i.moved;
  tried = inl (record { taken = moved_count b [] p f taken i.moved; bounced = λ other. moved_count b [] p f (bounced other) i.moved });
  answer = inl (i, gone);
}

-- with f the pass after the search without the bit
module _ (b : Board) (bucket : ℕ) (sought : Item) (into cutoff : ℕ) (p f : Pass) (quiet : IsQuiet b p) (i : Idles b p f) (first : HasStep p f) (stored : IsStoredIn b bucket sought f) where
  goes_f : GoesOn b p f
  goes_f = goes_nowhere b p f quiet i.moved i.plain i.memo

  undrawn_f : DrawsNothing p f
  undrawn_f = moved_undrawn b [] p f i.moved tt

  unread_f : ReadsNothing p f
  unread_f = no_reader b [] p f i.moved tt

  no_bit : TakesNoBit p f
  no_bit = record { taken = moved_count b [] p f taken i.moved; bounced = λ other. moved_count b [] p f (bounced other) i.moved }

  abbrev rows : ℕ
  rows = span_in (trace f) sought.seg sought.row

  -- the item takes as many rows as it took
  rows_f : rows ≡ span_in (trace p) sought.seg sought.row
  rows_f = kept_f.spans sought.row (ap is_some (sym (kept_f.linked sought.row) ∙ stored.linked))
    where
      kept_f : KeepsGone b sought.seg p f
      kept_f = calm_keeps_gone b sought.seg [] p f i.moved tt (stored.own ∙ i.moved.same)

  -- the room that is found then was there before
  room_p : (has : Bool) → has_rows_in b.shape into rows f ≡ has → has_rows_in b.shape into rows p ≡ has
  room_p has = subst (λ (y : PlainPart). has_rows_in b.shape into rows (record f { plain = y }) ≡ has) i.plain

  abbrev Kept : KeepRowAnswer → Pass → Type 0
  Kept told q = KeepsRow b sought.seg sought.row into cutoff told p q

  -- looks were enough
  only_looked : (told : KeepRowAnswer) → (TakesNoBit p f
      → TriesForRow b sought.seg sought.row cutoff (has_rows_in b.shape into (span_in (trace p) sought.seg sought.row) p) told p f)
      → IsKeptRow b sought.seg sought.row into cutoff told p f → Kept told f
  only_looked told tried answer = record {
    on = goes_f;
    memo = i.memo;
    draws_nothing = undrawn_f;
    reads_nothing = unread_f;
    tries = no_tries b (WasOften b.shape sought.seg cutoff p f) 1 p f i.moved;
    tried = tried no_bit;
    answer = answer;
  }

  pub row_gone : RowGone b.shape sought.seg sought.row (trace f) → Kept kept.Left f
  row_gone gone = row_passed b sought.seg sought.row into cutoff p f quiet i gone

  -- ---- a word names it

  module _ (target : Target) (n : IsNamedAt b bucket sought target f) (x : Item) (is : item_word x ≡ target.word) where
    abbrev a : Slot
    a = n.named.0

    abbrev at : ℕ
    at = position b.shape (trace f) target.place

    st : IsStanding b.shape (trace f) bucket at a
    st = (coherent b.shape (trace f) i.moved.pass.lawful).items bucket at a n.named.1

    of_key : a.key ≡ stored.key
    of_key = named_key b bucket sought f i.moved.pass stored target n

    home : bucket ≡ bucket_of b.shape stored.key
    home = named_home b bucket sought f i.moved.pass stored target n

    here : (bucket_after b.shape (trace f) (bucket_of b.shape stored.key)).items at ≡ item (slot stored.key sought.seg sought.row)
    here = subst (λ k. (bucket_after b.shape (trace f) k).items at ≡ item (slot stored.key sought.seg sought.row)) home
        (n.named.1 ∙ (λ u. item (slot (of_key u) (n.named.2.0 u) (n.named.2.1 u))))

    now : target.word ≡ packed (tag_of a.key) (frequency_of (trace f) a.segment a.row) a.segment a.row
    now = n.reads ∙ (content_at b.shape (trace f) bucket at (cell_at b.shape target.place) n.chain.at ∙ ap (content_word (trace f)) n.named.1)

    frequency : x.freq ≡ frequency_of (trace f) sought.seg sought.row
    frequency =
        let v = i.moved.pass.valid in
        frequency_parts x.tag x.freq x.seg x.row (tag_of a.key) (frequency_of (trace f) a.segment a.row) a.segment a.row x.freq_in_range x.seg_in_range x.row_in_range
        (low_frequency b.shape (trace f) a.segment a.row i.moved.pass.lawful) (low_segment b.shape a.segment v st.within.0) (low_row b.shape a.row v st.within.1) (is ∙ now)
        ∙ (λ u. frequency_of (trace f) (n.named.2.0 u) (n.named.2.1 u))

    abbrev sees : (IsSo : ℕ → Type 0) → IsSo x.freq → SeesRow b sought.seg sought.row IsSo p f
    sees IsSo so = record { idles = i; looks = first; key = stored.key; linked = stored.linked; position = at; named = here; is = subst IsSo frequency so }

    pub row_seldom : x.freq < cutoff → Kept kept.Left f
    row_seldom lt = only_looked kept.Left (λ none. inl none) (inr (inl (f, sees (λ n. n < cutoff) lt, idles b f i.moved.pass)))

    -- ---- it was read often enough

    module _ (often : cutoff ≤ x.freq) where
      abbrev seen_often : SeesRow b sought.seg sought.row (λ n. cutoff ≤ n) p f
      seen_often = sees (λ n. cutoff ≤ n) often

      pub row_no_room : has_rows_in b.shape into rows f ≡ false → Kept kept.NoRoom f
      row_no_room full = only_looked kept.NoRoom (λ none. none) (seen_often, room_p false full)

      had : (q : Pass) → TakesSteps f q → WasOften b.shape sought.seg cutoff p q stored.key
      had q steps = (sought.row, had_seen b sought.seg sought.row (λ n. cutoff ≤ n) p f q seen_often steps)

      -- what was done after the looks
      looked : (Does : ℕ → Pass → Pass → Type 0) (q : Pass) → GoesOn b f q → Does bucket f q → AfterLooks b sought.seg sought.row cutoff Does p q
      looked Does q on does = (
        stored.key,
        f,
        goes_f,
        had_seen b sought.seg sought.row (λ n. cutoff ≤ n) p f f seen_often (inr (refl, refl)),
        no_bit,
        on,
        subst (λ k. Does k f q) home does,
      )

      -- the bit was tried for
      tries_one : (q : Pass) → TakesSteps f q → count taken q ≤ count taken f + 1
          → count (bounced bucket) q ≤ count (bounced bucket) f + 64
          → ((other : ℕ) → other ≢ bucket → count (bounced other) q ≡ count (bounced other) f)
          → TriesFor b.shape (WasOften b.shape sought.seg cutoff p q) 1 p q
      tries_one q steps took met others = tries_after b (WasOften b.shape sought.seg cutoff p q) (WasOften b.shape sought.seg cutoff p q) 1 p f q i.moved (λ key s. s)
          (one_try b.shape (WasOften b.shape sought.seg cutoff p q) stored.key f q (had q steps) took (subst (λ k. count (bounced k) q ≤ count (bounced k) f + 64) home met)
          (λ other apart. others other (λ same. apart (same ∙ home))))

      pub row_busy : (q : Pass) → has_rows_in b.shape into rows f ≡ true → GoesOn b f q × ChangesNothing f q × IsBusy bucket f q × DrawsNothing f q × ReadsNothing f q → Kept kept.Busy q
      row_busy q room busy = record {
        on = goes_then b p f q goes_f busy.0;
        memo = busy.1.memo ∙ i.memo;
        draws_nothing = draws_none_then p f q undrawn_f busy.3;
        reads_nothing = busy.4 ∙ unread_f;
        tries = ⊎_elim
            (λ own. let same = own.1.taken in let met = own.1.bounced bucket in tries_one q busy.0.steps (omega arith) (omega arith) (λ other apart. own.1.bounced other))
            (λ tried. let same = tried.taken in let met = tried.tries in tries_one q busy.0.steps (omega arith) (omega arith) tried.others)
            busy.2;
        tried = looked IsBusy q busy.0 busy.2;
        answer = (f, seen_often, busy.0, room_p true room, busy.1, subst (λ k. IsBusy k f q) home busy.2);
      }

      -- ---- under the bit

      module _ (q : Pass) (took : TookToWrite b bucket f q) where
        begins : HasBegun b bucket None f q
        begins = begun b bucket f q took

        abbrev took_by : List Event
        took_by = tries b bucket f q goes_f.quiet begins

        taking : AddsEvents b took_by f q
        taking = took_moved b bucket f q goes_f.quiet begins

        pub stored_q : IsStoredIn b bucket sought q
        stored_q = stored_over b bucket sought took_by f q taking (calm_in sought.seg took_by (tt, bounces_calm (number f) bucket begins.tries)) stored

        pub segments_q : KeepsSegments b q
        segments_q = took_keeps b bucket f q goes_f.quiet begins

        pub target_q : IsMoveTarget sought.seg into p → IsMoveTarget sought.seg into q
        target_q t = let plain = took.plain ∙ i.plain in record {
          in_use = ap (λ (y : PlainPart). state_in (own_segment y into)) plain ∙ t.in_use;
          other = t.other;
          deadlines = ap (λ (y : PlainPart). deadline_in (own_segment y sought.seg)) plain ∙ (t.deadlines ∙ sym (ap (λ (y : PlainPart). deadline_in (own_segment y into)) plain));
        }

        rows_q : span_in (trace q) sought.seg sought.row ≡ rows
        rows_q = span_over b took_by f q sought.seg sought.row taking (calm_in sought.seg took_by (tt, bounces_calm (number f) bucket begins.tries)) stored.own (ap is_some stored.linked)

        pub next_q : (to : ℕ) → AreNextIn b into to rows f → AreNextIn b into to (span_in (trace q) sought.seg sought.row) q
        next_q to next = record {
          used = same_used f q into took.plain ∙ next.used;
          fits = subst (AreRows b.shape to) (sym rows_q) next.fits;
        }

        -- the same of one row
        pub next_row_q : (to : ℕ) → IsNextIn b into to f → IsNextIn b into to q
        next_row_q to next = record {
          used = same_used f q into took.plain ∙ next.used;
          fits = next.fits;
        }

        -- what was done under it, and the release
        module _ (r s : Pass) (own : List Event) (added : List Entry) (m : AddsEvents b own q r) (elsewhere : (other : ℕ) → bucket ≢ other → NoneAt b.shape other own) (still : AreStill own)
            (adds : (h : List Event) → event.seen (own ++ h) ≡ added ++ event.seen h) (undrawn : AreUndrawn own) (none : AreNoTries own) (segments : KeepsSegments b r) (same : memo r ≡ memo q)
            (locks : r.plain.locked ≡ q.plain.locked) (holds : r.plain.is_holding ≡ q.plain.is_holding)
            (freed : AddsAtOnce b (Freed (number r) bucket false ∷ []) r s) (free : (bucket_after b.shape (trace s) bucket).holder ≡ None) (plain' : s.plain ≡ r.plain) (same' : memo s ≡ memo r) where
          segments_s : KeepsSegments b s
          segments_s = keeps_plain b (Freed (number r) bucket false ∷ []) r s freed.moved (tt, tt) plain' segments

          goes_s : GoesOn b f s
          goes_s = write_goes_on b bucket f q goes_f.quiet begins r s own added false m elsewhere still adds freed free (same' ∙ (same ∙ took.memo))
              (ap (λ (y : PlainPart). y.locked) plain' ∙ (locks ∙ ap (λ (y : PlainPart). y.locked) took.plain))
              (ap (λ (y : PlainPart). y.is_holding) plain'
              ∙ (holds ∙ ap (λ (y : PlainPart). y.is_holding) took.plain)) segments_s

          events_f : AddsEvents b (under_bit (number f) bucket begins.tries own) f s
          events_f = moved_then b took_by (Freed (number f) bucket false ∷ own) f q s taking
              (subst (λ k. AddsEvents b (Freed k bucket false ∷ own) q s) (m.same ∙ taking.same) (moved_then b own (Freed (number r) bucket false ∷ []) q r s m freed.moved))

          done : (told : KeepRowAnswer) → (AfterLooks b sought.seg sought.row cutoff TakesOneBit p s
              → TriesForRow b sought.seg sought.row cutoff (has_rows_in b.shape into (span_in (trace p) sought.seg sought.row) p) told p s)
              → IsKeptRow b sought.seg sought.row into cutoff told p s → Kept told s
          done told tried answer =
              let takes = write_takes b bucket f q goes_f.quiet begins r s own added false m elsewhere still adds freed free none in
              let one = takes.taken in let met = takes.tries in record {
                on = goes_then b p f s goes_f goes_s;
                memo = same' ∙ (same ∙ (took.memo ∙ i.memo));
                draws_nothing = draws_none_then p f s undrawn_f (write_undrawn b bucket f q goes_f.quiet begins r s own added false m elsewhere still adds freed free undrawn);
                reads_nothing = unread f s (write_peeking b bucket f q goes_f.quiet begins r s own added false m elsewhere still adds freed free) ∙ unread_f;
                tries = tries_one s goes_s.steps (omega arith) (omega arith) takes.others;
                tried = tried (looked TakesOneBit s goes_s takes);
                answer = answer;
              }

        -- no word named it any more
        pub row_went : has_rows_in b.shape into rows f ≡ true → (to : ℕ) (r s : Pass)
            → MovesRow b bucket sought into to false q r → AddsAtOnce b (Freed (number r) bucket false ∷ []) r s
            → (bucket_after b.shape (trace s) bucket).holder ≡ None → s.plain ≡ r.plain → memo s ≡ memo r
            → Kept kept.Left s
        row_went room to r s t freed free plain' same' =
            let m = t.moves.0 in let plain = t.moves.1 in
            let gone = gone_over b (Freed (number r) bucket false ∷ []) r s sought.seg sought.row freed.moved (tt, tt) (stored_q.own ∙ sym m.same) t.gone in
            let there = room_p true room in
            done r s [] [] m (λ other apart. tt) tt (λ h. refl) tt tt t.segments t.memo
            (ap (λ (y : PlainPart). y.locked) plain) (ap (λ (y : PlainPart). y.is_holding) plain) freed free
            plain' same' kept.Left
            (λ bit. inr (bit, subst (λ n. has_rows_in b.shape into n p ≡ true) rows_f there, unnamed b.shape (trace s) sought.seg sought.row freed.moved.pass.lawful gone))
            (inr (inr (
              f,
              seen_often,
              begins.tries,
              subst (λ k. AddsEvents b (under_bit (number f) k begins.tries []) f s) home
                  (events_f r s [] [] m (λ other apart. tt) tt (λ h. refl) tt tt t.segments t.memo
                  (ap (λ (y : PlainPart). y.locked) plain) (ap (λ (y : PlainPart). y.is_holding) plain) freed
                  free plain' same'),
              record {
                entries = write_adds b bucket f q goes_f.quiet begins r s [] [] false m (λ other apart. tt) tt (λ h. refl) freed free ∙ (does_nothing b p f quiet i.moved i.plain i.memo).entries;
                plain = plain' ∙ (plain ∙ (took.plain ∙ i.plain));
                memo = same' ∙ (t.memo ∙ (took.memo ∙ i.memo));
              },
              gone,
              begins.few,
              there,
            )))

        -- it was moved
        module _ (to : ℕ) (next : AreNextIn b into to rows f) (r s : Pass) (t : MovesRow b bucket sought into to true q r) where
          abbrev position_moved : ℕ
          position_moved = t.moves.1

          abbrev written : List ℕ × List ℕ
          written = t.moves.2

          same_key : t.moves.0 ≡ stored.key
          same_key = same_Some t.moves.0 stored.key (sym t.moves.4 ∙ (kept_rows.linked sought.row ∙ stored.linked))
            where
              kept_rows : KeepsGone b sought.seg f q
              kept_rows = calm_keeps_gone b sought.seg took_by f q taking (calm_in sought.seg took_by (tt, bounces_calm (number f) bucket begins.tries)) stored.own

          abbrev own : List Event
          own = moves (number f) stored.key sought.seg sought.row into to position_moved written

          m : AddsEvents b own q r
          m = subst (λ k. AddsEvents b (moves k stored.key sought.seg sought.row into to position_moved written) q r) taking.same
              (subst (λ k. AddsEvents b (moves (number q) k sought.seg sought.row into to position_moved written) q r) same_key t.moves.5)

          elsewhere : (other : ℕ) → bucket ≢ other → NoneAt b.shape other own
          elsewhere other apart = (ne_eqb (bucket_of b.shape stored.key) other (λ e. apart (home ∙ e)), fills_nowhere b.shape other (number f) into to written.0 written.1)

          abbrev added : List Entry
          added = Moved (number f) stored.key sought.seg into ∷ []

          adds : (h : List Event) → event.seen (own ++ h) ≡ added ++ event.seen h
          adds h = ap (λ e. Moved (number f) stored.key sought.seg into ∷ e) (fills_seen (number f) into to written.0 written.1 h)

          plain : r.plain ≡ with_own into (more rows) q.plain
          plain = t.moves.6 ∙ ap (λ n. with_own into (more n) q.plain) rows_q

          pub row_moved : AddsAtOnce b (Freed (number r) bucket false ∷ []) r s → (bucket_after b.shape (trace s) bucket).holder ≡ None → s.plain ≡ r.plain → memo s ≡ memo r → Kept kept.Moved s
          row_moved freed free plain' same' =
              let still : AreStill own = (tt, fills_still (number f) into to written.0 written.1) in
              let undrawn : AreUndrawn own = (tt, fills_undrawn (number f) into to written.0 written.1) in
              let none : AreNoTries own = (tt, fills_untried (number f) into to written.0 written.1) in
              let locks : r.plain.locked ≡ q.plain.locked = ap (λ (y : PlainPart). y.locked) plain in
              let holds : r.plain.is_holding ≡ q.plain.is_holding = ap (λ (y : PlainPart). y.is_holding) plain in
              let old = (does_nothing b p f quiet i.moved i.plain i.memo).entries in
              done r s own added m elsewhere still adds undrawn none t.segments t.memo locks holds freed free plain' same' kept.Moved (λ bit. bit) (
                f,
                seen_often,
                goes_s r s own added m elsewhere still adds undrawn none t.segments t.memo locks holds freed free plain' same',
                to,
                begins.tries,
                position_moved,
                written,
                sym (same_used p f into i.plain) ∙ next.used,
                next.fits,
                subst (λ k. AddsEvents b (under_bit (number f) k begins.tries own) f s) home
                    (events_f r s own added m elsewhere still adds undrawn none t.segments t.memo locks holds freed
                    free plain' same'),
                write_adds b bucket f q goes_f.quiet begins r s own added false m elsewhere still adds freed free
                    ∙ (cond-true (eqb (number f) (number f)) (Moved (number f) stored.key sought.seg into ∷ mine f) (mine f) (eq-eqb (number f) (number f) refl)
                    ∙ (λ u. Moved (i.moved.same u) stored.key sought.seg into ∷ old u)),
                plain' ∙ (plain ∙ ap (with_own into (more rows)) (took.plain ∙ i.plain)),
                gone_over b (Freed (number r) bucket false ∷ []) r s sought.seg sought.row freed.moved (tt, tt) (stored_q.own ∙ sym m.same) t.gone,
                begins.few,
              )

-- ---- in the terms of the call

pub kept_place : (b : Board) (sought : Item) (segment row into cutoff : ℕ) (told : KeepRowAnswer) (p q : Pass)
    → (sought.seg ≡ segment) × (sought.row ≡ row) → KeepsRow b sought.seg sought.row into cutoff told p q
    → KeepsRow b segment row into cutoff told p q
kept_place b sought segment row into cutoff told p q place k = subst (λ s. KeepsRow b s row into cutoff told p q) place.0 (subst (λ r. KeepsRow b sought.seg r into cutoff told p q) place.1 k)

pub target_place : (sought : Item) (segment into : ℕ) (p : Pass) → sought.seg ≡ segment → IsMoveTarget segment into p → IsMoveTarget sought.seg into p
target_place sought segment into p same target = subst (λ s. IsMoveTarget s into p) (sym same) target

-- the bit can be given back
pub may_release : (b : Board) (bucket : ℕ) (sought : Item) (into to : ℕ) (told : Bool) (q r : Pass) → MovesRow b bucket sought into to told q r → IsPassOf b r
may_release b bucket sought into to true q r t = t.moves.5.pass
may_release b bucket sought into to false q r t = t.moves.0.pass
