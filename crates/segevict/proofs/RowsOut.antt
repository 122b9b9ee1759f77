-- What an eviction of a row comes to: its key is gone before, or the bit of its bucket is taken, or can't be had.
use Rattle.std.proofs.Common.{◌≡◌, ◌≢◌, ℕ, ◌+◌, ◌≤◌, true, false, eqb, is_some, List, [], ◌∷◌, ◌++◌, Option, Some, None, refl, sym, ap, ◌∙◌, subst, inl, inr, ⊎_elim, arith}
use Rattle.std.specs.Prelude.{IsSome}
use Rattle.std.proofs.lemmas.Bool.{cond-true, eq-eqb, ne_eqb, false≢true}
use Rattle.segword.specs.Words.{Item}
use Rattle.segmodel.specs.declared.entry.Entry.TheVariants.{Evicted}
use Rattle.segmodel.specs.Words.{Begins, bucket_of, Entry, owner}
use Rattle.segcore.specs.declared.event.Event.TheVariants.{Freed, Unlinked}
use Rattle.segcore.specs.Event as event
use Rattle.segcore.specs.Words.{bounced, bucket_after, Event, IsLawful, NoneAt, row_after, RowGone}
use Rattle.segcore.specs.Words.{linked_in, taken}
use Rattle.segcore.specs.declared.event.Leaving.TheVariants.{Evicts}
use Rattle.segcore.proofs.Moments.{begins_on, seen_begins}
use Rattle.segbase.specs.declared.pass.PlainPart.{PlainPart}
use Rattle.segbase.specs.Words.{AddsAtOnce, AddsEvents, Board, count, HasStep, marked, mine, number, Pass, position}
use Rattle.segbase.specs.Words.{seen, TakesSteps, trace}
use Rattle.segbase.proofs.Moves.{moved_on, moved_count}
use Rattle.segbase.proofs.Starting.{starts_on, steps_then}
use Rattle.segstore.specs.Words.{ChangesNothing, DrawsNothing, GoesOn, Idles, IsBusy, IsQuiet}
use Rattle.segstore.specs.Words.{KeepsSegments, memo, ReadsNothing, TookToWrite}
use Rattle.segstore.proofs.Keeping.{AreCalm, AreCalmIn, calm_in, keeps_plain, own_linked}
use Rattle.segwrite.specs.Words.{Target}
use Rattle.segevict.specs.declared.eviction.EvictRowAnswer.{EvictRowAnswer}
use Rattle.segevict.specs.declared.eviction.EvictRowAnswer.TheVariants as evict_row
use Rattle.segevict.specs.Rows.{IsStoredIn, IsNamedAt, FindsRow, KeepsGone}
use Rattle.segevict.specs.Tries.{StoodAtRow, TriesFor}
use Rattle.segevict.specs.Unlinking.{TakesRow, EvictsRow, IsRowAnswer}
use Rattle.segstore.proofs.Bounces.{bounces_calm}
use Rattle.segstore.proofs.Draws.{AreUndrawn, moved_undrawn, draws_none_then}
use Rattle.segstore.proofs.Idling.{goes_nowhere, does_nothing}
use Rattle.segevict.proofs.FirstRowFacts.{named_marked}
use Rattle.segevict.proofs.Items.{span_over}
use Rattle.segevict.proofs.KeyTries.{no_tries, one_try, stood_after, tries_after, tries_then}
use Rattle.segevict.proofs.Seeking.{stored_over}
use Rattle.segstore.proofs.Still.{AreStill, no_reader}
use Rattle.segstore.proofs.TakenBits.{AreNoTries}
use Rattle.segstore.proofs.Peeking.{unread}
use Rattle.segstore.proofs.UnderWrite.{HasBegun, begun, tries, took_moved, took_keeps, write_goes_on, write_adds, write_undrawn, write_peeking, write_takes}
use Rattle.segevict.proofs.Unlinking.{named_home, named_stands}
use Rattle.segevict.proofs.Unnamed.{ahead_first, gone_over}

-- ---- calls one after another

pub goes_then : (b : Board) (p q r : Pass) → GoesOn b p q → GoesOn b q r → GoesOn b p r
goes_then b p q r i j = record {
  quiet = j.quiet;
  same = j.same ∙ i.same;
  marked = begins_on _ _ _ i.marked j.marked;
  seen = begins_on (seen p) (seen q) (seen r) i.seen j.seen;
  steps = steps_then p q r i.same i.steps j.steps;
}

-- nothing is linked in the segment, or moved there
pub calm_keeps_gone : (b : Board) (s : ℕ) (own : List Event) (p q : Pass) → AddsEvents b own p q → AreCalmIn s own → owner b.shape s ≡ number p → KeepsGone b s p q
calm_keeps_gone b s own p q m calm mine = record {
  grew = moved_on b own p q m;
  linked = λ row. ap (λ h. (row_after h s row).linked) m.goes_on
      ∙ own_linked b.shape m.more (trace p) (number p) s row (subst (IsLawful b.shape) m.goes_on m.pass.lawful) (subst (AreCalmIn s) (sym m.adds) calm) mine;
  spans = λ row. span_over b own p q s row m calm mine;
  lasts = λ row. gone_over b own p q s row m calm mine;
}

keeps_gone : (b : Board) (s : ℕ) (own : List Event) (p q : Pass) → AddsEvents b own p q → AreCalm own → owner b.shape s ≡ number p → KeepsGone b s p q
keeps_gone b s own p q m calm mine = calm_keeps_gone b s own p q m (calm_in s own calm) mine

pub keeps_gone_then : (b : Board) (s : ℕ) (p q r : Pass) → KeepsGone b s p q → KeepsGone b s q r → KeepsGone b s p r
keeps_gone_then b s p q r i j = record {
  grew = begins_on (trace p) (trace q) (trace r) i.grew j.grew;
  linked = λ row. j.linked row ∙ i.linked row;
  spans = λ row on. j.spans row (subst IsSome (sym (i.linked row)) on) ∙ i.spans row on;
  lasts = λ row gone. j.lasts row (i.lasts row gone);
}

-- ---- a row by looks alone

-- no word names the row
pub row_is_none : (b : Board) (segment row : ℕ) (p f : Pass) → IsQuiet b p → owner b.shape segment ≡ number p → Idles b p f
    → RowGone b.shape segment row (trace f) → EvictsRow b segment row evict_row.Left p f
row_is_none b segment row p f quiet own i gone = record {
  on = goes_nowhere b p f quiet i.moved i.plain i.memo;
  plain = i.plain;
  memo = i.memo;
  draws_nothing = moved_undrawn b [] p f i.moved tt;
  reads_nothing = no_reader b [] p f i.moved tt;
  tries = no_tries b (StoodAtRow b.shape segment row p f) 1 p f i.moved;
  answer = (keeps_gone b segment [] p f i.moved tt own, gone, (does_nothing b p f quiet i.moved i.plain i.memo).entries);
}

-- looks after an eviction of a row change nothing
module _ (b : Board) (segment row : ℕ) (p q r : Pass) (own : owner b.shape segment ≡ number p) (i : Idles b q r) where
  looked_after : (told : EvictRowAnswer) → EvictsRow b segment row told p q → IsRowAnswer b segment row told p r → EvictsRow b segment row told p r
  looked_after told e answer = record {
    on = goes_then b p q r e.on (goes_nowhere b q r e.on.quiet i.moved i.plain i.memo);
    plain = i.plain ∙ e.plain;
    memo = i.memo ∙ e.memo;
    draws_nothing = draws_none_then p q r e.draws_nothing (moved_undrawn b [] q r i.moved tt);
    reads_nothing = no_reader b [] q r i.moved tt ∙ e.reads_nothing;
    tries = (let IsSo = StoodAtRow b.shape segment row p r in
        tries_then b.shape (StoodAtRow b.shape segment row p q) IsSo IsSo 1 0 1 p q r
        (λ key s. (stood_after b.shape segment key p q r i.moved.steps s.0, s.1)) (λ key s. s) (omega arith) e.tries (no_tries b IsSo 0 q r i.moved));
    answer = answer;
  }

  stays_gone : GoesOn b p q → KeepsGone b segment q r
  stays_gone on = keeps_gone b segment [] q r i.moved tt (own ∙ sym on.same)

  pub evicted_looked : EvictsRow b segment row evict_row.Evicted p q → EvictsRow b segment row evict_row.Evicted p r
  evicted_looked e =
      let keeps = stays_gone e.on in let a = e.answer in let same = (does_nothing b q r e.on.quiet i.moved i.plain i.memo).entries in
      looked_after evict_row.Evicted e (keeps_gone_then b segment p q r a.0 keeps, keeps.lasts row a.1, (a.2.0, a.2.1, same ∙ a.2.2))

  pub left_looked : EvictsRow b segment row evict_row.Left p q → EvictsRow b segment row evict_row.Left p r
  left_looked e =
      let keeps = stays_gone e.on in let a = e.answer in let same = (does_nothing b q r e.on.quiet i.moved i.plain i.memo).entries in
      looked_after evict_row.Left e (keeps_gone_then b segment p q r a.0 keeps, keeps.lasts row a.1, same ∙ a.2)

-- ---- before the bit is taken

module _ (b : Board) (bucket : ℕ) (sought : Item) (p f : Pass) (quiet : IsQuiet b p) (i : Idles b p f) (first : HasStep p f) (stored : IsStoredIn b bucket sought f) where
  goes_looking : GoesOn b p f
  goes_looking = goes_nowhere b p f quiet i.moved i.plain i.memo

  pub quiet_looking : IsQuiet b f
  quiet_looking = goes_looking.quiet

  own_before : owner b.shape sought.seg ≡ number p
  own_before = stored.own ∙ i.moved.same

  undrawn_looking : DrawsNothing p f
  undrawn_looking = moved_undrawn b [] p f i.moved tt

  unread_looking : ReadsNothing p f
  unread_looking = no_reader b [] p f i.moved tt

  gone_looking : KeepsGone b sought.seg p f
  gone_looking = keeps_gone b sought.seg [] p f i.moved tt own_before

  -- the row is an item's first, and the marks know its key
  row_linked : (target : Target) → IsNamedAt b bucket sought target f → linked_in (marked p) sought.seg sought.row ≡ Some stored.key
  row_linked target n =
      let on = sym (gone_looking.linked sought.row) ∙ stored.linked in ⊎_elim
      (λ gone. absurd (gone_looking.lasts sought.row gone bucket (position b.shape (trace f) target.place) n.named.0 n.named.1 n.named.2.0 n.named.2.1))
      (λ there. named_marked b.shape (trace p) (bucket_of b.shape stored.key) there.0 sought.seg sought.row stored.key quiet.pass.lawful there.2 on)
      (ahead_first b.shape stored.key sought.seg sought.row (trace p) quiet.pass.lawful on)

  -- the row's key stood then, and the row is the key's
  stood_here : (target : Target) (q : Pass) → IsNamedAt b bucket sought target f → Begins (seen f) (seen q) → TakesSteps f q → StoodAtRow b.shape sought.seg sought.row p q stored.key
  stood_here target q n later steps = (
    (
      first.0,
      starts_on p f q first.0 first.1 steps,
      (seen f, (seen_begins first.0 (trace f) first.1.until, later), named_stands b bucket sought f i.moved.pass stored target n),
    ),
    row_linked target n,
  )

  home_here : (target : Target) → IsNamedAt b bucket sought target f → bucket ≡ bucket_of b.shape stored.key
  home_here target n = named_home b bucket sought f i.moved.pass stored target n

  -- the bit was tried for, since the key stood then
  tries_one : (target : Target) (q : Pass) → IsNamedAt b bucket sought target f → Begins (seen f) (seen q)
      → TakesSteps f q → count taken q ≤ count taken f + 1
      → count (bounced bucket) q ≤ count (bounced bucket) f + 64
      → ((other : ℕ) → other ≢ bucket → count (bounced other) q ≡ count (bounced other) f)
      → TriesFor b.shape (StoodAtRow b.shape sought.seg sought.row p q) 1 p q
  tries_one target q n later steps took met others =
      let IsSo = StoodAtRow b.shape sought.seg sought.row p q in
      tries_after b IsSo IsSo 1 p f q i.moved (λ key s. s) (one_try b.shape IsSo stored.key f q (stood_here target q n later steps) took
      (subst (λ k. count (bounced k) q ≤ count (bounced k) f + 64) (home_here target n) met) (λ other apart. others other (λ same. apart (same ∙ home_here target n))))

  -- no word names the row
  pub row_is_gone : RowGone b.shape sought.seg sought.row (trace f) → EvictsRow b sought.seg sought.row evict_row.Left p f
  row_is_gone = row_is_none b sought.seg sought.row p f quiet own_before i

  -- the bit can't be had
  pub row_is_barred : (q : Pass) (target : Target) → IsNamedAt b bucket sought target f → GoesOn b f q
      × ChangesNothing f q × IsBusy bucket f q × DrawsNothing f q × ReadsNothing f q
      → EvictsRow b sought.seg sought.row evict_row.Busy p q
  row_is_barred q target n busy = record {
    on = goes_then b p f q goes_looking busy.0;
    plain = busy.1.plain ∙ i.plain;
    memo = busy.1.memo ∙ i.memo;
    draws_nothing = draws_none_then p f q undrawn_looking busy.3;
    reads_nothing = busy.4 ∙ unread_looking;
    tries = ⊎_elim
        (λ own. let same = own.1.taken in let met = own.1.bounced bucket in tries_one target q n busy.0.seen busy.0.steps (omega arith) (omega arith) (λ other apart. own.1.bounced other))
        (λ tried. let same = tried.taken in let met = tried.tries in tries_one target q n busy.0.seen busy.0.steps (omega arith) (omega arith) tried.others)
        busy.2;
    answer = (
      busy.1.entries ∙ (does_nothing b p f quiet i.moved i.plain i.memo).entries,
      (
        stored.key,
        stood_here target q n busy.0.seen busy.0.steps,
        ⊎_elim
            (λ own. inl (sym (ap (λ (x : PlainPart). x.locked) i.plain) ∙ (own.0 ∙ ap Some (home_here target n))))
            (λ tried.
            let same : count (bounced bucket) f ≡ count (bounced bucket) p = moved_count b [] p f (bounced bucket) i.moved in
            inr (subst (λ k. count (bounced k) p + 64 ≤ count (bounced k) q) (home_here target n) (let e = tried.tries in omega arith)))
            busy.2,
      ),
    );
  }

  -- ---- under the bit

  module _ (q : Pass) (took : TookToWrite b bucket f q) where
    begins : HasBegun b bucket None f q
    begins = begun b bucket f q took

    abbrev took_by : List Event
    took_by = tries b bucket f q quiet_looking begins

    took_calm : AreCalm took_by
    took_calm = (tt, bounces_calm (number f) bucket begins.tries)

    pub stored_taken : IsStoredIn b bucket sought q
    stored_taken = stored_over b bucket sought took_by f q (took_moved b bucket f q quiet_looking begins) (calm_in sought.seg took_by took_calm) stored

    gone_taken : KeepsGone b sought.seg p q
    gone_taken = keeps_gone_then b sought.seg p f q gone_looking (keeps_gone b sought.seg took_by f q (took_moved b bucket f q quiet_looking begins) took_calm stored.own)

    -- what was done under it, and the release
    module _ (r s : Pass) (own : List Event) (added : List Entry) (m : AddsEvents b own q r) (calm : AreCalm own)
        (elsewhere : (other : ℕ) → bucket ≢ other → NoneAt b.shape other own) (still : AreStill own)
        (adds : (h : List Event) → event.seen (own ++ h) ≡ added ++ event.seen h)
        (freed : AddsAtOnce b (Freed (number r) bucket false ∷ []) r s)
        (free : (bucket_after b.shape (trace s) bucket).holder ≡ None)
        (plain : r.plain ≡ q.plain) (same : memo r ≡ memo q) (plain' : s.plain ≡ r.plain) (same' : memo s ≡ memo r) where
      plain_all : s.plain ≡ p.plain
      plain_all = plain' ∙ (plain ∙ (took.plain ∙ i.plain))

      memo_all : memo s ≡ memo p
      memo_all = same' ∙ (same ∙ (took.memo ∙ i.memo))

      keeps_all : KeepsSegments b s
      keeps_all = keeps_plain b (Freed (number r) bucket false ∷ []) r s freed.moved (tt, tt) plain' (keeps_plain b own q r m calm plain (took_keeps b bucket f q quiet_looking begins))

      goes_all : GoesOn b p s
      goes_all = goes_then b p f s goes_looking (write_goes_on b bucket f q quiet_looking begins r s own added false m elsewhere still adds freed free
          (same' ∙ (same ∙ took.memo)) (ap (λ (x : PlainPart). x.locked) (plain' ∙ (plain ∙ took.plain))) (ap (λ (x : PlainPart). x.is_holding) (plain' ∙ (plain ∙ took.plain))) keeps_all)

      undrawn_all : AreUndrawn own → DrawsNothing p s
      undrawn_all none = draws_none_then p f s undrawn_looking (write_undrawn b bucket f q quiet_looking begins r s own added false m elsewhere still adds freed free none)

      tries_all : AreNoTries own → (target : Target) → IsNamedAt b bucket sought target f → TriesFor b.shape (StoodAtRow b.shape sought.seg sought.row p s) 1 p s
      tries_all none target n =
          let on : GoesOn b f s = write_goes_on b bucket f q quiet_looking begins r s own added false m elsewhere still adds freed free
          (same' ∙ (same ∙ took.memo)) (ap (λ (x : PlainPart). x.locked) (plain' ∙ (plain ∙ took.plain))) (ap (λ (x : PlainPart). x.is_holding) (plain' ∙ (plain ∙ took.plain))) keeps_all in
          let takes = write_takes b bucket f q quiet_looking begins r s own added false m elsewhere still adds freed free none in
          let one = takes.taken in let met = takes.tries in tries_one target s n on.seen on.steps (omega arith) (omega arith) takes.others

      unread_all : ReadsNothing p s
      unread_all = unread f s (write_peeking b bucket f q quiet_looking begins r s own added false m elsewhere still adds freed free) ∙ unread_looking

      gone_all : KeepsGone b sought.seg p s
      gone_all = keeps_gone_then b sought.seg p q s gone_taken (keeps_gone_then b sought.seg q r s (keeps_gone b sought.seg own q r m calm stored_taken.own)
          (keeps_gone b sought.seg (Freed (number r) bucket false ∷ []) r s freed.moved (tt, tt) (stored_taken.own ∙ sym m.same)))

    -- the word was cleared
    pub row_is_evicted : (target : Target) → IsNamedAt b bucket sought target f → (r s : Pass)
        → TakesRow b bucket sought true q r → AddsAtOnce b (Freed (number r) bucket false ∷ []) r s
        → (bucket_after b.shape (trace s) bucket).holder ≡ None → r.plain ≡ q.plain → memo r ≡ memo q
        → s.plain ≡ r.plain → memo s ≡ memo r
        → EvictsRow b sought.seg sought.row evict_row.Evicted p s
    row_is_evicted target n r s t freed free plain same plain' same' =
        let key = t.takes.0 in let own : List Event = Unlinked (number q) key t.takes.1 (Evicts sought.seg) ∷ [] in let added : List Entry = Evicted (number q) key sought.seg ∷ [] in
        let elsewhere : (other : ℕ) → bucket ≢ other → NoneAt b.shape other own = λ other apart. (ne_eqb (bucket_of b.shape key) other (λ e. apart (t.takes.2 ∙ e)), tt) in
        let at_take = (took_moved b bucket f q quiet_looking begins).same in
        let old = (does_nothing b p f quiet i.moved i.plain i.memo).entries in record {
          on = goes_all r s own added t.takes.3 (tt, tt) elsewhere (tt, tt) (λ h. refl) freed free plain same plain' same';
          plain = plain_all r s own added t.takes.3 (tt, tt) elsewhere (tt, tt) (λ h. refl) freed free plain same plain' same';
          memo = memo_all r s own added t.takes.3 (tt, tt) elsewhere (tt, tt) (λ h. refl) freed free plain same plain' same';
          draws_nothing = undrawn_all r s own added t.takes.3 (tt, tt) elsewhere (tt, tt) (λ h. refl) freed free plain same plain' same' (tt, tt);
          reads_nothing = unread_all r s own added t.takes.3 (tt, tt) elsewhere (tt, tt) (λ h. refl) freed free plain same plain' same';
          tries = tries_all r s own added t.takes.3 (tt, tt) elsewhere (tt, tt) (λ h. refl) freed free plain same plain' same' (tt, tt) target n;
          answer = (
            gone_all r s own added t.takes.3 (tt, tt) elsewhere (tt, tt) (λ h. refl) freed free plain same plain' same',
            gone_over b (Freed (number r) bucket false ∷ []) r s sought.seg sought.row freed.moved (tt, tt) (stored_taken.own ∙ sym t.takes.3.same) t.gone,
            (
              key,
              row_linked target n ∙ (sym stored.linked ∙ (gone_looking.linked sought.row ∙ (sym (gone_taken.linked sought.row)
                  ∙ (sym ((keeps_gone b sought.seg own q r t.takes.3 (tt, tt) stored_taken.own).linked sought.row) ∙ t.takes.4)))),
              write_adds b bucket f q quiet_looking begins r s own added false t.takes.3 elsewhere (tt, tt) (λ h. refl) freed free
                  ∙ (cond-true (eqb (number q) (number f)) (Evicted (number q) key sought.seg ∷ mine f) (mine f) (eq-eqb (number q) (number f) at_take)
                  ∙ (λ u. Evicted ((at_take ∙ i.moved.same) u) key sought.seg ∷ old u)),
            ),
          );
        }

    -- it was gone meanwhile
    pub row_went : (target : Target) → IsNamedAt b bucket sought target f → (r s : Pass)
        → TakesRow b bucket sought false q r → AddsAtOnce b (Freed (number r) bucket false ∷ []) r s
        → (bucket_after b.shape (trace s) bucket).holder ≡ None → r.plain ≡ q.plain → memo r ≡ memo q
        → s.plain ≡ r.plain → memo s ≡ memo r
        → EvictsRow b sought.seg sought.row evict_row.Left p s
    row_went target n r s t freed free plain same plain' same' = record {
      on = goes_all r s [] [] t.takes tt (λ other apart. tt) tt (λ h. refl) freed free plain same plain' same';
      plain = plain_all r s [] [] t.takes tt (λ other apart. tt) tt (λ h. refl) freed free plain same plain' same';
      memo = memo_all r s [] [] t.takes tt (λ other apart. tt) tt (λ h. refl) freed free plain same plain' same';
      draws_nothing = undrawn_all r s [] [] t.takes tt (λ other apart. tt) tt (λ h. refl) freed free plain same plain' same' tt;
      reads_nothing = unread_all r s [] [] t.takes tt (λ other apart. tt) tt (λ h. refl) freed free plain same plain' same';
      tries = tries_all r s [] [] t.takes tt (λ other apart. tt) tt (λ h. refl) freed free plain same plain' same' tt target n;
      answer = (
        gone_all r s [] [] t.takes tt (λ other apart. tt) tt (λ h. refl) freed free plain same plain' same',
        gone_over b (Freed (number r) bucket false ∷ []) r s sought.seg sought.row freed.moved (tt, tt) (stored_taken.own ∙ sym t.takes.same) t.gone,
        write_adds b bucket f q quiet_looking begins r s [] [] false t.takes (λ other apart. tt) tt (λ h. refl) freed free ∙ (does_nothing b p f quiet i.moved i.plain i.memo).entries,
      );
    }

-- ---- in the terms of the call

pub found_none : (b : Board) (bucket : ℕ) (sought : Item) (o : Option Target) (p : Pass) → FindsRow b bucket sought o p → is_some o ≡ false → RowGone b.shape sought.seg sought.row (trace p)
found_none b bucket sought None p finds t = finds
found_none b bucket sought (Some target) p finds f = absurd (false≢true (sym f))

pub found_some : (b : Board) (bucket : ℕ) (sought : Item) (o : Option Target) (p : Pass) → FindsRow b bucket sought o p → is_some o ≡ true → (target : Target) × IsNamedAt b bucket sought target p
found_some b bucket sought None p finds t = absurd (false≢true t)
found_some b bucket sought (Some target) p finds t = (target, finds)

pub of_place : (b : Board) (sought : Item) (segment row : ℕ) (told : EvictRowAnswer) (p q : Pass)
    → (sought.seg ≡ segment) × (sought.row ≡ row) → EvictsRow b sought.seg sought.row told p q
    → EvictsRow b segment row told p q
of_place b sought segment row told p q place e = subst (λ s. EvictsRow b s row told p q) place.0 (subst (λ r. EvictsRow b sought.seg r told p q) place.1 e)
