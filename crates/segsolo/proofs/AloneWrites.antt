-- With one pass, a set, an add, a replace and a cas are served as the model says.
use Rattle.std.proofs.Common.{◌≡◌, ◌≢◌, ℕ, ◌≤◌, ◌&&◌, not, Bool, true, false, cond, List, [], ◌∷◌, ◌++◌, length, is_some, Some, None, option_map, refl, sym, ap, subst, ◌∙◌, ⊎_elim, eqb, eq-eqb}
use Rattle.std.specs.BTreeMap.{is_at}
use Rattle.std.proofs.lemmas.Bool.{and_from, and_left, and_right, cases_Bool, cond-true, cond-false, false≢true, ne_eqb}
use Rattle.std.proofs.lemmas.Option.{same_Some}
use Rattle.segmodel.specs.declared.entry.Entry.TheVariants.{Wrote}
use Rattle.segmodel.specs.declared.request.Request.TheVariants.{Set, Add, Replace, Cas, Delete}
use Rattle.segmodel.specs.declared.request.Reply.TheVariants as reply
use Rattle.segmodel.specs.declared.answer.WriteAnswer.TheVariants as write
use Rattle.segmodel.specs.declared.answer.Answer.TheVariants as answer
use Rattle.segmodel.specs.declared.answer.Command.TheVariants as command
use Rattle.segmodel.specs.Words.{adds_key, after, after_reply, bucket_of, chained, Entry, Filling, moment_of}
use Rattle.segmodel.specs.Words.{is_locked, is_store, key_cmp, key_of, lacks_rows, lacks_word, may_chain}
use Rattle.segmodel.specs.Words.{placed, present, put, Reply, reply_in, reply_of_write, reply_to, standing}
use Rattle.segmodel.specs.Words.{Request, ServesStore, State, stored, value_of, with_at, with_rows}
use Rattle.segmodel.specs.Words.{WriteAnswer}
use Rattle.segmodel.proofs.HistoryLemmas.{absent_unless_stands, standing-put}
use Rattle.segmodel.proofs.Keys.{at_self}
use Rattle.segmodel.proofs.Spans.{span_some}
use Rattle.segmodel.proofs.Stores.{serves_replied}
use Rattle.segmodel.proofs.Stores as stores
use Rattle.segcore.specs.Mark.{last_at, same_key}
use Rattle.segcore.specs.Words.{cached, drew, linked_in, slot}
use Rattle.segcore.proofs.Keys.{same_true}
use Rattle.segbase.specs.declared.pass.PlainPart.{PlainPart}
use Rattle.segbase.specs.Words.{Board, count, marked, Memo, number, Pass, seen, used_of}
use Rattle.segstore.specs.Words.{AddsEntry, ChangesNothing, DrawsNothing, GoesOn, has_room_for}
use Rattle.segstore.specs.Words.{RaisesNothing}
use Rattle.segstore.proofs.Idling.{unchanged}
use Rattle.segwrite.specs.Words.{AddsReply, rows_of, UsesRows as StoresRows, Writes}
use Rattle.segindex.proofs.Since.{full_since}
use Rattle.segevict.specs.Words.{UsesRows}
use Rattle.segevict.proofs.AfterRow.{uses_more}
use Rattle.segsolo.specs.Alone.{frequencies_in, item_of, state_at, CountsRows, IsAlone, NamesLastRows, ServesAlone}
use Rattle.segsolo.specs.Stored.{items_stored_in, keys_stored_in}
use Rattle.segindex.proofs.OnePass.{busy_by_lock}
use Rattle.segindex.proofs.QuietPass.{owned}
use Rattle.segsolo.proofs.AloneBrought.{counts as brought_counts, frequencies_then, keys_then, named, state_then, used_more}
use Rattle.segsolo.proofs.AlonePass.{same_seen, more_seen, at_state, as_replied, counts_replied, reply_then, left, locked_here, free_here}
use Rattle.segsolo.proofs.AloneRows.{frequencies_replied, frequencies_still, item_brought, row_in, served, served_still, still_named, reply_unstored}
use Rattle.segsolo.proofs.AloneRefusals.{lacks_for, none_left, rows_of as used_rows}
use Rattle.segsolo.proofs.Marks.{BringsItem}
use Rattle.segsolo.proofs.NextRow.{next_row}
use Rattle.segsolo.proofs.Rows.{at_other}
use Rattle.segsolo.proofs.AloneWidths.{same_widths, Grows, grown}

-- a request that is answered otherwise than Stored would put no new key
adds_nothing : (request : Request) (here stands : Bool) (version : ℕ) → (stands ≡ false → here ≡ false)
    → is_store request ≡ true → reply_to request here version ≢ reply.Stored → adds_key request stands ≡ false
adds_nothing (Set key value now) here stands version there store other = absurd (other refl)
adds_nothing (Add key value now) true true version there store other = refl
adds_nothing (Add key value now) true false version there store other = absurd (false≢true (sym (there refl)))
adds_nothing (Add key value now) false stands version there store other = absurd (other refl)
adds_nothing (Replace key value now) here stands version there store other = refl
adds_nothing (Cas key value expected now) here stands version there store other = refl
adds_nothing (Delete key now) here stands version there store other = refl

-- ---- a request that is stored

module _ (b : Board) (p q : Pass) (request : Request) (segment : ℕ) (was : IsAlone b p)
    (more : seen q ≡ Wrote (number p) request reply.Stored (Some segment) ∷ seen p) (uses : StoresRows segment (rows_of request) p q)
  where
    abbrev rows : ℕ
    rows = rows_of request

    some : 1 ≤ rows
    some = span_some (key_of request) (value_of request)

    stored_so : (s : ℕ) → items_stored_in b.shape (seen q) s
        ≡ cond (eqb segment s) (items_stored_in b.shape (seen p) s ++ (key_of request, rows) ∷ []) (items_stored_in b.shape (seen p) s)
    stored_so s = ap (λ h. items_stored_in b.shape h s) more

    used : used_of p segment ≡ Some (length (keys_stored_in b.shape (seen p) segment))
    used = used_rows b p segment was uses.current

    row_used : UsesRows segment rows p q
    row_used = uses_more segment p q rows uses.plain uses.memo

    abbrev filling : ℕ → Filling
    filling = with_at (state_at b.shape p).filling segment (with_rows rows (key_of request) 1 ((state_at b.shape p).filling segment))

    counts : CountsRows b.shape q
    counts = brought_counts b p q (key_of request) 1 rows segment was stored_so some used row_used

    -- the item names the first of the rows that were used
    module _ (on : GoesOn b p q) (adds : AddsEntry (Wrote (number p) request reply.Stored (Some segment)) p q) (unraised : RaisesNothing p q) where
      abbrev added : Entry
      added = Wrote (number p) request reply.Stored (Some segment)

      brought : BringsItem (key_of request) segment 1 (marked p) (marked q)
      brought = item_brought b p q was on added (key_of request) segment adds refl unraised

      stands_now : (key : List ℕ) → standing (after b.shape (seen q)) key
          ≡ cond (is_at (key_cmp key) (key_of request)) (Some (cached (value_of request) segment)) (standing (after b.shape (seen p)) key)
      stands_now key = ap (λ h. standing (after b.shape h) key) more ∙ standing-put b.shape (key_of request) (value_of request) segment (after b.shape (seen p)) key

      row_is : brought.row ≡ length (keys_stored_in b.shape (seen p) segment)
      row_is = next_row b p q on was.quiet (key_of request) segment brought.row (length (keys_stored_in b.shape (seen p) segment)) rows (added ∷ []) adds
          ((λ pass deadline same. cc), tt)
          ((owned b p segment was.quiet).0 (ap is_some (was.quiet.segments.in_use segment uses.current)))
          (row_in b q (key_of request) (value_of request) segment brought.row on.quiet
          (stands_now (key_of request) ∙ cond-true (is_at (key_cmp (key_of request)) (key_of request))
          (Some (cached (value_of request) segment)) (standing (after b.shape (seen p)) (key_of request))
          (at_self (key_of request)))
          (brought.lasts (key_of request) ∙ cond-true (same_key (key_of request) (key_of request))
          (Some (slot (key_of request) segment brought.row)) (last_at (marked p) (key_of request))
          (same_true (key_of request) (key_of request) refl)))
          some used (used_more b p q (key_of request) 1 rows segment was stored_so some used row_used) brought.unlinked
          (brought.rows segment brought.row ∙ cond-true (eqb segment segment && eqb brought.row brought.row) (Some (key_of request)) (linked_in (marked p) segment brought.row)
          (and_from (eqb segment segment) (eqb brought.row brought.row) (eq-eqb segment segment refl) (eq-eqb brought.row brought.row refl)))
          (λ r apart. brought.rows segment r ∙ cond-false (eqb segment segment && eqb brought.row r) (Some (key_of request)) (linked_in (marked p) segment r)
          (ap (λ t. eqb segment segment && t) (ne_eqb brought.row r (λ e. apart (sym e))) ∙ and_right (eqb segment segment) false refl))

      frequencies_as_model : (s : ℕ) → frequencies_in b.shape q s ≡ (filling s).frequencies
      frequencies_as_model = frequencies_then b p q (key_of request) 1 rows segment was stored_so some used row_used on.quiet brought row_is

      stored_named : NamesLastRows b.shape q
      stored_named = named b p q (key_of request) 1 rows segment was stored_so some used row_used on.quiet brought row_is
          (λ other ne. stands_now other ∙ cond-false (is_at (key_cmp other) (key_of request))
          (Some (cached (value_of request) segment)) (standing (after b.shape (seen p)) other)
          (at_other other (key_of request) (λ e. ne (sym e))))

    -- the state with one bucket more in the chain, where a word lacks
    longer : Bool → State
    longer lacks = chained (bucket_of b.shape (key_of request)) lacks (state_at b.shape p)

    placed_alike : (lacks : Bool) → ◌≡◌ {A = State} (record (state_at b.shape p) {
      cache = put b.shape (key_of request) (value_of request) segment (after b.shape (seen p));
      filling = filling;
      width = (longer lacks).width;
      drawn = (longer lacks).drawn;
    }) (chained (bucket_of b.shape (key_of request)) lacks (placed b.shape (key_of request) (value_of request) segment (state_at b.shape p)))
    unfolding longer
    placed_alike true = refl
    placed_alike false = refl

    at_stored : ((s : ℕ) → frequencies_in b.shape q s ≡ (filling s).frequencies) → Grows b.shape p q request → state_at b.shape q ≡ after_reply b.shape request reply.Stored (state_at b.shape p)
    unfolding longer
    at_stored frequencies grows =
        at_state b.shape q (record (state_at b.shape p) {
          cache = put b.shape (key_of request) (value_of request) segment (after b.shape (seen p));
          filling = filling;
          width = (longer (lacks_word b.shape (state_at b.shape p) request)).width;
          drawn = (longer (lacks_word b.shape (state_at b.shape p) request)).drawn;
        })
        (ap (after b.shape) more) (state_then b p q (key_of request) 1 rows segment was stored_so some used row_used)
        (keys_then b p q (key_of request) 1 rows segment was stored_so some used row_used) frequencies
        (ap (λ (x : PlainPart). x.current) uses.plain) grows.wide grows.drawn
        (ap (λ (m : Memo). option_map item_of m.holding) uses.memo) (ap (λ (x : PlainPart). x.locked) uses.plain)
        ∙ (placed_alike (lacks_word b.shape (state_at b.shape p) request) ∙ sym (ap (λ current. stored b.shape request current (state_at b.shape p)) uses.current))

-- ---- any request to store

module _ (b : Board) (p q : Pass) (request : Request) (store : is_store request ≡ true) (was : IsAlone b p) where
  -- whether too few rows are left for the model
  abbrev lacks : Bool
  lacks = lacks_rows b.shape (rows_of request) (state_at b.shape p).filling (state_at b.shape p).current

  -- why the model refuses
  refused_rows : lacks ≡ true → ServesStore b.shape (state_at b.shape p) request write.NoRoom (state_at b.shape p)
  refused_rows out = rw out (refl, refl)

  refused_lock : lacks ≡ false → is_locked b.shape (state_at b.shape p) (key_of request) ≡ true
      → ServesStore b.shape (state_at b.shape p) request write.Busy (state_at b.shape p)
  refused_lock out locked = rw (out, locked) (refl, refl)

  refused_word : lacks ≡ false → is_locked b.shape (state_at b.shape p) (key_of request) ≡ false
      → (lacks_word b.shape (state_at b.shape p) request && not (may_chain b.shape (state_at b.shape p) (bucket_of b.shape (key_of request)))) ≡ true
      → ServesStore b.shape (state_at b.shape p) request write.BucketFull (state_at b.shape p)
  refused_word out locked full = rw (out, locked, full) (refl, refl)

  -- only a pair that is stored may need an overflow bucket
  undrawn : (told : WriteAnswer) → Writes b request told p q → told ≢ write.Stored → DrawsNothing p q
  undrawn write.Stored is unstored = absurd (unstored refl)
  undrawn write.NotStored is unstored = is.costs.of_answer.1
  undrawn write.Exists is unstored = is.costs.of_answer.1
  undrawn write.NotFound is unstored = is.costs.of_answer.1
  undrawn write.NoRoom is unstored = λ bucket. ap (λ x. count (drew bucket) x) is.answer
  undrawn write.BucketFull is unstored = is.costs.of_answer.1
  undrawn write.Busy is unstored = is.costs.of_answer.0

  module _ (told : WriteAnswer) (is : Writes b request told p q) where
    rows_left : told ≢ write.NoRoom → has_room_for b.shape (rows_of request) p ≡ true
    rows_left other = ⊎_elim (λ room. room) (λ out. absurd (other (is.no_room.1 out))) (cases_Bool (has_room_for b.shape (rows_of request) p))

    has_rows : told ≢ write.NoRoom → lacks ≡ false
    has_rows other = lacks_for b p (rows_of request) was ∙ ap not (rows_left other)

    unlocked : told ≢ write.NoRoom → told ≢ write.Busy → is_locked b.shape (state_at b.shape p) (key_of request) ≡ false
    unlocked rows other = free_here b.shape p (key_of request) (λ locked. other (is.locked (rows_left rows) locked))

    refused : told ≢ write.Stored → ChangesNothing p q → ServesStore b.shape (state_at b.shape p) request told (state_at b.shape p) → ServesAlone b (command.Write request) (answer.Write told) p q
    refused unstored nothing serves = served_still b (command.Write request) (answer.Write told) p q was is.on nothing
        (stores.serves_write b.shape (state_at b.shape p) (state_at b.shape q) request told store
        (subst (ServesStore b.shape (state_at b.shape p) request told)
        (sym (left b p q was is.on nothing (same_widths b p q was is.on (undrawn told is unstored))
        (frequencies_still b p q was is.on nothing.entries is.costs.enters.raises_nothing))) serves))

    -- replied by an entry that stores nothing
    replied : (r : Reply) → told ≢ write.NoRoom → told ≢ write.Busy → r ≢ reply.Stored → reply_of_write told ≡ Some r → AddsReply request r p q
        → ((s : ℕ) → items_stored_in b.shape (Wrote (number p) request r None ∷ seen p) s ≡ items_stored_in b.shape (seen p) s)
        → after b.shape (Wrote (number p) request r None ∷ seen p) ≡ after b.shape (seen p)
        → after_reply b.shape request r (state_at b.shape p) ≡ state_at b.shape p → ServesAlone b (command.Write request) (answer.Write told) p q
    replied r rows other unstored is_reply answered keeps leaves stays =
        served b (command.Write request) (answer.Write told) p q was is.on.quiet
        (counts_replied b p q (Wrote (number p) request r None) was is.on.quiet answered.0 answered.1 keeps)
        (still_named b p q (Wrote (number p) request r None ∷ []) was is.on answered.0 (reply_unstored (number p) request r, tt))
        (stores.serves_write b.shape (state_at b.shape p) (state_at b.shape q) request told store
        (serves_replied b.shape (state_at b.shape p) request told (state_at b.shape q) (has_rows rows) (unlocked rows other)
        (and_left (lacks_word b.shape (state_at b.shape p) request) (not (may_chain b.shape (state_at b.shape p) (bucket_of b.shape (key_of request))))
        (and_left (adds_key request (is_some (standing (after b.shape (seen p)) (key_of request)))) _
        (adds_nothing request (is_some (present (after b.shape (seen p)) (moment_of request) (key_of request))) (is_some (standing (after b.shape (seen p)) (key_of request)))
        ((after b.shape (seen p)).version (bucket_of b.shape (key_of request)))
        (absent_unless_stands (after b.shape (seen p)) (moment_of request) (key_of request)) store
        (λ e. unstored (was_replied ∙ e)))))
        r was_replied is_reply (same_state ∙ sym stays)))
      where
        was_replied : r ≡ reply_in b.shape (after b.shape (seen p)) request
        was_replied = reply_then b p q request r None is.on.quiet (more_seen b p q (Wrote (number p) request r None ∷ []) was is.on.quiet answered.0)

        same_state : state_at b.shape q ≡ state_at b.shape p
        same_state = as_replied b p q (Wrote (number p) request r None) was is.on.quiet answered.0 answered.1 answered.2 keeps
            (same_widths b p q was is.on (undrawn told is (λ e. unstored (same_Some r reply.Stored (sym is_reply ∙ ap reply_of_write e)))))
            (frequencies_replied b p q was is.on (Wrote (number p) request r None) answered.0 (reply_unstored (number p) request r).0 is.costs.enters.raises_nothing)
            ∙ ap (λ cache. record (state_at b.shape p) { cache = cache }) leaves

  write_serves : (told : WriteAnswer) → Writes b request told p q → ServesAlone b (command.Write request) (answer.Write told) p q
  write_serves write.Stored is =
      let segment = is.answer.0 in let uses = is.answer.2 in
      let more : seen q ≡ Wrote (number p) request reply.Stored (Some segment) ∷ seen p = more_seen b p q (Wrote (number p) request reply.Stored (Some segment) ∷ []) was is.on.quiet is.answer.1 in
      let grows = grown b p q request segment was is.on more is.costs.grows in
      served b (command.Write request) (answer.Write write.Stored) p q was is.on.quiet (counts b p q request segment was more uses)
      (stored_named b p q request segment was more uses is.on is.answer.1 is.costs.enters.raises_nothing)
      (stores.serves_write b.shape (state_at b.shape p) (state_at b.shape q) request write.Stored store
      (serves_replied b.shape (state_at b.shape p) request write.Stored (state_at b.shape q) (has_rows write.Stored is (λ e. cc)) (unlocked write.Stored is (λ e. cc) (λ e. cc)) grows.fits
      reply.Stored (reply_then b p q request reply.Stored (Some segment) is.on.quiet more) refl
      (at_stored b p q request segment was more uses
      (frequencies_as_model b p q request segment was more uses is.on is.answer.1
      is.costs.enters.raises_nothing) grows)))
  write_serves write.NotStored is = replied write.NotStored is reply.NotStored (λ e. cc) (λ e. cc) (λ e. cc) refl is.answer (λ s. refl) refl refl
  write_serves write.Exists is = replied write.Exists is reply.Exists (λ e. cc) (λ e. cc) (λ e. cc) refl is.answer (λ s. refl) refl refl
  write_serves write.NotFound is = replied write.NotFound is reply.NotFound (λ e. cc) (λ e. cc) (λ e. cc) refl is.answer (λ s. refl) refl refl
  write_serves write.NoRoom is = refused write.NoRoom is (λ e. cc) (unchanged p q is.answer) (refused_rows (lacks_for b p (rows_of request) was ∙ ap not (is.no_room.0 refl)))
  write_serves write.BucketFull is =
      refused write.BucketFull is (λ e. cc) is.answer.0 (refused_word (has_rows write.BucketFull is (λ e. cc)) (unlocked write.BucketFull is (λ e. cc) (λ e. cc))
      (none_left b.shape p q request (same_seen b p q was is.on.quiet is.answer.0.entries)
      (same_widths b p q was is.on (undrawn write.BucketFull is (λ e. cc)))
      (full_since b.shape (key_of request) p q is.answer.2) is.answer.1))
  write_serves write.Busy is =
      refused write.Busy is (λ e. cc) is.answer.0
      (refused_lock (has_rows write.Busy is (λ e. cc))
      (locked_here b.shape p (key_of request) (busy_by_lock b p q (bucket_of b.shape (key_of request)) was.quiet
      is.on.quiet was.one is.answer.1)))

-- ---- served

pub serves_write : (b : Board) (p q : Pass) (request : Request) (told : WriteAnswer) → is_store request ≡ true → IsAlone b p
    → Writes b request told p q → ServesAlone b (command.Write request) (answer.Write told) p q
serves_write b p q request told store was is = write_serves b p q request store was told is
