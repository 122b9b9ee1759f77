-- The item of a row is moved under the bit: it may be, into the pair's copy, and after that no word names the row that it left.
use Rattle.std.proofs.Common.{◌≡◌, ℕ, ◌+◌, ◌<◌, ◌≤◌, true, false, is_some, List, [], ◌∷◌, ◌++◌, Option, Some, None, option_map, refl, sym, ap, ◌∙◌, subst, append-nil, arith}
use Rattle.std.proofs.lemmas.Bool.{eq-eqb}
use Rattle.std.proofs.lemmas.Option.{none-some, same_Some}
use Rattle.segword.specs.Words.{IsKey, IsSameItem, Item}
use Rattle.segmodel.specs.Words.{after, bucket_of, IsSameAt}
use Rattle.segcore.specs.declared.event.Event.TheVariants.{Relinked}
use Rattle.segcore.specs.Event as event
use Rattle.segcore.specs.Words.{acts, AreOwnRows, bucket_after, cached, Content, Event, Fits, Holds, IsLawful, IsOwnRow, item}
use Rattle.segcore.specs.Words.{HasBit, NoneAt, NoneBy, Row, row_after, RowGone, Slot, slot, span_in}
use Rattle.segcore.proofs.Caches.{stands, stands_in}
use Rattle.segcore.proofs.Coherent.{IsStanding}
use Rattle.segcore.proofs.Quiet.{quiet_row}
use Rattle.segcore.proofs.Spans.{header_some, header_span, own_first, own_rows_same}
use Rattle.segcore.proofs.Standing.{coherent}
use Rattle.segbase.specs.declared.pass.PlainPart.{PlainPart}
use Rattle.segbase.specs.Words.{AddsAtOnce, AddsEvents, Board, deadline_of, home_bucket, number, own_segment, OwnSegment}
use Rattle.segbase.specs.Words.{Pass, Place, position, state_in, trace, used_in, used_of, deadline_in, with_own, with_used}
use Rattle.segbase.proofs.Known.{counted, own_alike, owner_counted}
use Rattle.segbase.proofs.Moves.{moved_then}
use Rattle.segbase.proofs.Owned.{moved_still}
use Rattle.segstore.specs.Rows.{HoldsAlso}
use Rattle.segstore.specs.Words.{AreRows, fills, HasCleanBit, Idles, IsReadable, KeepsSegments, memo, ReadsRow}
use Rattle.segstore.proofs.Keeping.{AreCalmIn, calm_in, in_table, keeps_named_in, keeps_plain, next_are_own}
use Rattle.segstore.proofs.Keeping.{own_linked, same_used}
use Rattle.segstore.proofs.Words.{at_place}
use Rattle.segstore.proofs.UnderBit.{did_acts, moved_at, moved_bucket}
use Rattle.segwrite.specs.Words.{IsEarlier, IsInChain, more, Target}
use Rattle.segwrite.proofs.Filling.{fills_calm, fills_nowhere}
use Rattle.segwrite.proofs.Places.{chain_later, same_position}
use Rattle.segwrite.proofs.Rising.{earlier_later}
use Rattle.segevict.specs.Moving.{moves, MovesRow}
use Rattle.segevict.specs.Target.{AreNextIn, IsMoveTarget}
use Rattle.segevict.specs.Relinking.{HasRelinked, relinked, Relinks}
use Rattle.segevict.specs.Rows.{IsNamedAt, IsStoredIn}
use Rattle.segevict.proofs.Items.{span_over}
use Rattle.segevict.proofs.Relinking.{relinked_gone}
use Rattle.segevict.proofs.StoredRows.{may_read_own}
use Rattle.segevict.proofs.Seeking.{stored_over}
use Rattle.segevict.proofs.Unlinking.{clean_over, named_home, named_key}

-- the key, the segment and the row of the item at a place
abbrev pub slot_of : Content → Slot
slot_of (item a) = a
slot_of _ = slot [] 0 0

abbrev pub slot_at : Board → Place → Pass → Slot
slot_at b place p = slot_of ((bucket_after b.shape (trace p) (home_bucket b.shape (trace p) place)).items (position b.shape (trace p) place))

-- so many rows more are used where a number of them were
rows_used : (segment row rows : ℕ) (x : PlainPart) → used_in (own_segment x segment) ≡ Some row
    → with_used segment (row + rows) x ≡ with_own segment (more rows) x
rows_used segment row rows x used = own_alike x segment (counted (row + rows)) (more rows)
    (same (own_segment x segment) used)
  where
    same : (o : Option OwnSegment) → used_in o ≡ Some row
        → option_map (counted (row + rows)) o ≡ option_map (more rows) o
    same None is = refl
    same (Some own) is = ap (λ n. Some (counted (n + rows) own)) (sym (same_Some own.used row is))

known_deadline : (o : Option OwnSegment) (used : ℕ) → used_in o ≡ Some used → (deadline : ℕ) × (deadline_in o ≡ Some deadline)
known_deadline None used is = absurd (none-some used is)
known_deadline (Some own) used is = (own.deadline, refl)

-- two own segments whose deadlines the pass knows as equal have equal ones
same_deadlines : (b : Board) (p : Pass) (s t used : ℕ) → KeepsSegments b p → used_of p t ≡ Some used → deadline_of p s ≡ deadline_of p t
    → (after b.shape (event.seen (trace p))).deadline s ≡ (after b.shape (event.seen (trace p))).deadline t
same_deadlines b p s t used k is same =
    let d = known_deadline (own_segment p.plain t) used is in
    k.deadlines s d.0 (same ∙ d.1) ∙ sym (k.deadlines t d.0 d.1)

-- with f the pass after the search under the bit
module _ (b : Board) (bucket : ℕ) (sought : Item) (into to : ℕ) (p f : Pass) (segments : KeepsSegments b p) (stored : IsStoredIn b bucket sought p) (clean : HasCleanBit b p bucket)
    (target : IsMoveTarget sought.seg into p) (next : AreNextIn b into to (span_in (trace p) sought.seg sought.row) p) (i : Idles b p f) where
  pub stored_f : IsStoredIn b bucket sought f
  stored_f = stored_over b bucket sought [] p f i.moved tt stored

  clean_f : HasCleanBit b f bucket
  clean_f = clean_over b [] p f bucket i.moved tt clean

  segments_f : KeepsSegments b f
  segments_f = keeps_plain b [] p f i.moved tt i.plain segments

  used_f : used_of f into ≡ Some to
  used_f = same_used p f into i.plain ∙ next.used

  pub moves_none : RowGone b.shape sought.seg sought.row (trace f) → MovesRow b bucket sought into to false p f
  moves_none gone = record { moves = (i.moved, i.plain); gone = gone; bit = clean_f; segments = segments_f; memo = i.memo }

  -- how many rows the item takes
  abbrev rows : ℕ
  rows = span_in (trace f) sought.seg sought.row

  rows_f : rows ≡ span_in (trace p) sought.seg sought.row
  rows_f = span_over b [] p f sought.seg sought.row i.moved tt stored.own (ap is_some stored.linked)

  fits_f : AreRows b.shape to rows
  fits_f = subst (AreRows b.shape to) (sym rows_f) next.fits

  pub own_rows : AreOwnRows b.shape (trace f) (number f) into to rows
  own_rows = next_are_own b f into to rows i.moved.pass segments_f used_f fits_f

  module _ (t : Target) (n : IsNamedAt b bucket sought t f) where
    abbrev a : Slot
    a = n.named.0

    abbrev at : ℕ
    at = position b.shape (trace f) t.place

    st : IsStanding b.shape (trace f) bucket at a
    st = (coherent b.shape (trace f) i.moved.pass.lawful).items bucket at a n.named.1

    home : bucket ≡ bucket_of b.shape stored_f.key
    home = named_home b bucket sought f i.moved.pass stored_f t n

    pub readable : IsReadable b f sought.seg sought.row
    readable = (
      in_table b f sought.seg i.moved.pass stored_f.own,
      subst (λ r. r < b.shape.rows) n.named.2.1 st.within.1,
      may_read_own b.shape (trace f) (number f) sought.seg sought.row stored_f.own,
    )

    -- with c the pass after the copy
    module _ (c : Pass) (words places : List ℕ) (m : AddsEvents b (fills (number f) into to words places) f c) (own : AreOwnRows b.shape (trace c) (number c) into to rows)
        (holds : HoldsAlso (row_after (trace f) sought.seg sought.row) (row_after (trace c) into to)) (plain : c.plain ≡ f.plain) (same : memo c ≡ memo f)
      where
        abbrev written : List Event
        written = fills (number f) into to words places

        nowhere : NoneAt b.shape bucket written
        nowhere = fills_nowhere b.shape bucket (number f) into to words places

        stored_c : IsStoredIn b bucket sought c
        stored_c = stored_over b bucket sought written f c m (calm_in sought.seg written (fills_calm (number f) into to words places)) stored_f

        clean_c : HasCleanBit b c bucket
        clean_c = clean_over b written f c bucket m nowhere clean_f

        segments_c : KeepsSegments b c
        segments_c = keeps_plain b written f c m (fills_calm (number f) into to words places) plain segments_f

        used_c : used_of c into ≡ Some to
        used_c = same_used f c into plain ∙ used_f

        abbrev pub key : List ℕ
        key = stored_f.key

        abbrev pub named : Slot
        named = slot key sought.seg sought.row

        -- the copy leaves the key in its row
        linked_c : (row_after (trace c) sought.seg sought.row).linked ≡ Some key
        linked_c = ap (λ h. (row_after h sought.seg sought.row).linked) m.goes_on ∙ (stays ∙ stored_f.linked)
          where
            stays : (row_after (m.more ++ trace f) sought.seg sought.row).linked ≡ (row_after (trace f) sought.seg sought.row).linked
            stays = own_linked b.shape m.more (trace f) (number f) sought.seg sought.row (subst (IsLawful b.shape) m.goes_on m.pass.lawful)
                (subst (AreCalmIn sought.seg) (sym m.adds) (calm_in sought.seg written (fills_calm (number f) into to words places))) stored_f.own

        abbrev at_c : ℕ
        at_c = position b.shape (trace c) t.place

        of_key : a.key ≡ key
        of_key = named_key b bucket sought f i.moved.pass stored_f t n

        is_named : a ≡ named
        is_named = λ u. slot (of_key u) (n.named.2.0 u) (n.named.2.1 u)

        here : (bucket_after b.shape (trace c) bucket).items at_c ≡ item named
        here = (λ u. (moved_bucket b written f c bucket m clean_f.bit nowhere u).items (same_position b written f c bucket t.place m n.chain u)) ∙ (n.named.1 ∙ ap item is_named)

        chain_c : IsInChain b bucket t.place c
        chain_c = chain_later b written f c bucket t.place m n.chain

        pub slot_is : slot_at b t.place c ≡ named
        slot_is = ap (λ k. slot_of ((bucket_after b.shape (trace c) k).items at_c)) (at_place b.shape (trace c) bucket at_c t.place chain_c.at.1).0 ∙ ap slot_of here

        earlier_f : IsEarlier b t.place t.word f
        earlier_f = subst (λ w. IsSameItem t.word w × (t.word ≤ w)) n.reads ((n.same.0, refl, refl), omega arith)

        earlier_c : IsEarlier b t.place t.word c
        earlier_c = earlier_later b written f c bucket t.place m clean_f.bit nowhere n.chain t.word a i.moved.pass.valid i.moved.pass.lawful n.named.1 earlier_f

        -- what stands under the key
        standing_f : stands b.shape (event.seen (trace f)) key ≡ Some (cached st.value sought.seg)
        standing_f = (λ u. stands b.shape (event.seen (trace f)) (sym of_key u)) ∙ (st.stands ∙ ap (λ s. Some (cached st.value s)) n.named.2.0)

        still : IsSameAt b.shape (after b.shape (event.seen (trace f))) (after b.shape (event.seen (trace c))) key
        still = moved_at b written f c key m (subst (λ k. HasBit b.shape (trace f) (number f) k) home clean_f.bit) (subst (λ k. NoneAt b.shape k written) home nowhere)

        standing_c : stands b.shape (event.seen (trace c)) key ≡ Some (cached st.value sought.seg)
        standing_c = still.stands ∙ standing_f

        is_key : IsKey key
        is_key = subst IsKey of_key st.valid.0

        held : Holds (row_after (trace f) sought.seg sought.row) key st.value
        held = subst (λ s. Holds (row_after (trace f) s sought.row) key st.value) n.named.2.0
            (subst (λ r. Holds (row_after (trace f) a.segment r) key st.value) n.named.2.1 (subst (λ k. Holds (row_after (trace f) a.segment a.row) k st.value) of_key st.holds))

        copied : Holds (row_after (trace c) into to) key st.value
        copied = holds key st.value is_key st.valid.1 held

        -- the copy takes as many rows
        pub rows_c : span_in (trace c) into to ≡ rows
        rows_c = header_span (row_after (trace c) into to) key st.value is_key st.valid.1 copied
            ∙ sym (header_span (row_after (trace f) sought.seg sought.row) key st.value is_key st.valid.1 held)

        own_first_c : IsOwnRow b.shape (trace c) (number c) into to
        own_first_c = own_first b.shape (trace c) (number c) into to rows (header_some ((row_after (trace f) sought.seg sought.row).words 0)) own

        fits : Fits b.shape (trace c) (relinked named into to at_c (number c))
        fits = record {
          guarded = subst (HasBit b.shape (trace c) (number c)) home clean_c.bit;
          follows = (
            stands_in b.shape (event.seen (trace c)) key sought.seg (st.value, standing_c),
            stored_c.own,
            own_first_c.2,
            target.other,
            same_deadlines b c sought.seg into to segments_c used_c
                (ap (λ (x : PlainPart). deadline_in (own_segment x sought.seg)) (plain ∙ i.plain)
                ∙ (target.deadlines ∙ sym (ap (λ (x : PlainPart). deadline_in (own_segment x into)) (plain
                ∙ i.plain)))),
          );
          suits = (
            subst (AreOwnRows b.shape (trace c) (number c) into to) (sym rows_c) own,
            (st.value, standing_c, copied),
            subst (λ k. (bucket_after b.shape (trace c) k).items at_c ≡ item named) home here,
          );
        }

        pub may_move : Relinks b named into to t.place t.word c
        may_move = record {
          bit = subst (HasBit b.shape (trace c) (number c)) home clean_c.bit;
          fits = fits;
          chain = subst (λ k. IsInChain b k t.place c) home chain_c;
          earlier = earlier_c;
        }

        -- with r the pass after the exchange, and its new rows counted as used
        module _ (r : Pass) (done : HasRelinked b named into to t.place c r) (count : ℕ) (takes : count ≡ span_in (trace c) into to) where
          abbrev e : Event
          e = relinked named into to at_c (number c)

          abbrev final : Pass
          final = record r { plain = with_used into (to + count) r.plain }

          count_f : count ≡ rows
          count_f = takes ∙ rows_c

          abbrev old : List Event
          old = done.did.others ++ trace c

          lawful : IsLawful b.shape (e ∷ old)
          lawful = subst (IsLawful b.shape) done.did.now done.did.moved.pass.lawful

          linked_old : (row_after old sought.seg sought.row).linked ≡ Some key
          linked_old = ap (λ u. u.linked) (quiet_row b.shape done.did.others (trace c) sought.seg sought.row
              done.did.before (subst (λ k. NoneBy k done.did.others) (sym stored_c.own) done.did.none)) ∙ linked_c

          gone_now : RowGone b.shape sought.seg sought.row (trace r)
          gone_now = subst (RowGone b.shape sought.seg sought.row) (sym done.did.now) (relinked_gone b.shape old (number c) named into to at_c lawful linked_old)

          bucket_now : bucket_after b.shape (trace r) bucket ≡ acts e (bucket_after b.shape (trace c) bucket)
          bucket_now = did_acts b e c r bucket done.did (eq-eqb (bucket_of b.shape key) bucket (sym home)) clean_c.bit

          events : AddsEvents b (moves (number p) key sought.seg sought.row into to at_c (words, places)) p r
          events = subst (λ k. AddsEvents b (moves k key sought.seg sought.row into to at_c (words, places)) p r) i.moved.same
              (subst (λ k. AddsEvents b (Relinked k key sought.seg sought.row into to at_c ∷ written) p r) m.same
              (subst (λ es. AddsEvents b es p r) (append-nil (e ∷ written)) (moved_then b [] (e ∷ written) p f r i.moved (moved_then b written (e ∷ []) f c r m done.did.moved))))

          pub moves_one : MovesRow b bucket sought into to true p final
          moves_one = record {
            moves = (
              key,
              at_c,
              (words, places),
              home,
              sym (ap (λ h. (row_after h sought.seg sought.row).linked) i.moved.goes_on ∙ own_linked b.shape i.moved.more (trace p) (number p) sought.seg sought.row
                  (subst (IsLawful b.shape) i.moved.goes_on i.moved.pass.lawful) (subst (AreCalmIn sought.seg) (sym i.moved.adds) tt) stored.own) ∙ stored_f.linked,
              moved_still b (moves (number p) key sought.seg sought.row into to at_c (words, places)) p r final.plain events (owner_counted r.plain into (to + count)),
              rows_used into to count r.plain (same_used c r into done.plain ∙ used_c)
                  ∙ (λ t. with_own into (more ((count_f ∙ rows_f) t)) ((done.plain ∙ (plain ∙ i.plain)) t)),
            );
            gone = gone_now;
            bit = record {
              bit = (clean_c.bit.0, ap (λ u. u.holder) bucket_now ∙ (clean_c.bit.1 ∙ ap Some (sym done.did.moved.same)));
              unwritten = ap (λ u. u.written) bucket_now ∙ clean_c.unwritten;
              undrawn = ap (λ u. u.spare) bucket_now ∙ clean_c.undrawn;
            };
            segments = keeps_named_in b e c r into to count (refl, refl) done.did done.plain
                (ap (λ (x : PlainPart). state_in (own_segment x into)) (plain ∙ i.plain)
                ∙ target.in_use) used_c (subst (AreRows b.shape to) (sym count_f) fits_f) (sym takes) m.pass segments_c;
            memo = done.memo ∙ (same ∙ i.memo);
          }

-- ---- a load between the copy and the exchange

module _ (b : Board) (f c l : Pass) (into to rows : ℕ) (some : 1 ≤ rows) (own : AreOwnRows b.shape (trace c) (number c) into to rows) where
  own_there : IsOwnRow b.shape (trace c) (number c) into to
  own_there = own_first b.shape (trace c) (number c) into to rows some own

  pub readable_there : IsReadable b c into to
  readable_there = (own_there.0, own_there.1, may_read_own b.shape (trace c) (number c) into to own_there.2)

  module _ (reads : ReadsRow b c l into to) where
    abbrev d : AddsAtOnce b [] c l
    d = reads.looked.did

    pub own_loaded : AreOwnRows b.shape (trace l) (number l) into to rows
    own_loaded = subst (λ n. AreOwnRows b.shape (trace l) n into to rows) (sym d.moved.same)
        (own_rows_same b.shape (trace c) (trace l) (number c) into to rows
        (λ i. ap (λ h. (row_after h into i).linked) d.moved.goes_on ∙ own_linked b.shape d.moved.more (trace c) (number c) into i
        (subst (IsLawful b.shape) d.moved.goes_on d.moved.pass.lawful) (subst (AreCalmIn into) (sym d.moved.adds) tt) own_there.2)
        own)

    pub copy_loaded : (words places : List ℕ) → AddsEvents b (fills (number f) into to words places) f c → AddsEvents b (fills (number f) into to words places) f l
    copy_loaded words places m = moved_then b (fills (number f) into to words places) [] f c l m d.moved

    pub holds_loaded : (row : Row) → HoldsAlso row (row_after (trace c) into to) → HoldsAlso row (row_after (trace l) into to)
    holds_loaded row holds = subst (HoldsAlso row) (sym reads.same) holds
