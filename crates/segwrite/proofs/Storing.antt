-- Storing under the bit: the item's rows, the item word that names the first of them, and the count of used rows.
use Rattle.std.proofs.Common.{◌≡◌, ℕ, ◌+◌, ◌^◌, ◌<◌, ◌≤◌, List, [], ◌∷◌, Option, Some, None, option_map, refl, sym, ap, ◌∙◌, subst, inl, inr, ⊎_elim, arith}
use Rattle.std.proofs.lemmas.Bool.{eq-eqb}
use Rattle.std.proofs.lemmas.Option.{same_Some}
use Rattle.std.specs.Prelude.{is_some, length}
use Rattle.segword.specs.Words.{IsKey, IsValid, IsValue, row_of, Shape, span_of}
use Rattle.segmodel.specs.declared.request.Reply.TheVariants.{Stored}
use Rattle.segmodel.specs.Words.{after, bucket_of, IsSameAt, key_of, moment_of, reply_in, reply_to, Request}
use Rattle.segmodel.specs.Words.{value_of}
use Rattle.segcore.specs.declared.event.Event.TheVariants.{Linked}
use Rattle.segcore.specs.Words.{acts, AreOwnRows, bucket_after, Event, Fits, HasBit, Holds, NoneAt}
use Rattle.segcore.specs.Words.{row_after}
use Rattle.segcore.proofs.Spans.{header_span, own_first, span_some}
use Rattle.segmodel.proofs.Spans.{left_rows}
use Rattle.segbase.specs.declared.pass.PlainPart.{PlainPart}
use Rattle.segbase.specs.Words.{AddsAtOnce, AddsEvents, Board, IsPassOf, number, own_segment}
use Rattle.segbase.specs.Words.{OwnSegment, Pass, position, seen, trace, used_in, with_own}
use Rattle.segbase.specs.Words.{with_used}
use Rattle.segbase.proofs.Moves.{moved_then}
use Rattle.segbase.proofs.Known.{counted, own_alike, owner_counted}
use Rattle.segbase.proofs.Owned.{moved_still}
use Rattle.segstore.specs.Words.{AreRows, fills, HasCleanBit, KeepsSegments, memo}
use Rattle.segstore.proofs.Keeping.{same_used, keeps_plain, keeps_named}
use Rattle.segwrite.specs.Words.{Target}
use Rattle.segwrite.specs.FirstEmpty.{AreTakenBefore}
use Rattle.segwrite.specs.Spans.{rows_of}
use Rattle.segwrite.specs.Writes.{more, UsesRows}
use Rattle.segwrite.specs.Writing.{IsTarget}
use Rattle.segwrite.specs.Storing.{IsNextRow, Requests, StoresUnderBit, stores, HasWritten}
use Rattle.segwrite.proofs.Filling.{fills_calm}
use Rattle.segwrite.proofs.FirstEmpty.{took_first}
use Rattle.segwrite.proofs.Linking.{linked_by}
use Rattle.segwrite.proofs.Places.{same_position, chain_later}
use Rattle.segwrite.proofs.Rising.{earlier_later}
use Rattle.segstore.proofs.UnderBit.{moved_bucket, moved_bit, moved_at, did_acts}

-- ---- how many rows

-- an item takes one at least
pub some_rows : (request : Request) → 1 ≤ rows_of request
some_rows request = span_some (length (key_of request)) (length (value_of request))

-- a request to store a pair takes as many as the pair's item
pub rows_asked : (b : Board) (request : Request) (key value : List ℕ) (p : Pass) → Requests b request key value p → rows_of request ≡ span_of key value
rows_asked b request key value p asks = λ t. span_of (asks.of.0 t) (asks.of.1 t)

-- where the rows of a request's item are in the table, they end at a number of 32 bits
pub rows_end : (z : Shape) (request : Request) (row rows : ℕ) → IsValid z → AreRows z row (rows_of request) → rows ≡ rows_of request
    → row + rows < 2 ^ 32
rows_end z request row rows valid fits is =
    let within = left_rows (rows_of request) row z.rows fits in let most = valid.0.1.1 in
    subst (λ n. row + n < 2 ^ 32) (sym is) (omega (arith, within, most))

-- ---- what stays so while the rows are written

module _ (b : Board) (own : List Event) (p q : Pass) (key : List ℕ) (m : AddsEvents b own p q) (is : IsPassOf b p)
    (bit : HasBit b.shape (trace p) (number p) (bucket_of b.shape key))
    (none : NoneAt b.shape (bucket_of b.shape key) own) where
  abbrev k : ℕ
  k = bucket_of b.shape key

  pub target_later : (target : Target) → IsTarget b key target p → IsTarget b key target q
  target_later target found = record {
    chain = chain_later b own p q k target.place m found.chain;
    is = ⊎_elim
        (λ free. inl (
          free.0,
          (λ t. (moved_bucket b own p q k m bit none t).items (same_position b own p q k target.place m found.chain t)) ∙ free.1,
          (moved_at b own p q key m bit none).stands ∙ free.2,
          subst (AreTakenBefore (bucket_after b.shape (trace q) k))
              (sym (same_position b own p q k target.place m found.chain))
              (subst (λ u. AreTakenBefore u (position b.shape (trace p) target.place))
              (sym (moved_bucket b own p q k m bit none)) free.3),
        ))
        (λ has. inr (
          (has.0.0, (λ t. (moved_bucket b own p q k m bit none t).items (same_position b own p q k target.place m found.chain t)) ∙ has.0.1, has.0.2),
          earlier_later b own p q k target.place m bit none found.chain target.word has.0.0 is.valid is.lawful has.0.1 has.1,
        ))
        found.is;
  }

  pub clean_later : HasCleanBit b p k → HasCleanBit b q k
  clean_later clean = let same = moved_bucket b own p q k m bit none in
      record { bit = moved_bit b own p q k m bit none; unwritten = ap (λ u. u.written) same ∙ clean.unwritten; undrawn = ap (λ u. u.spare) same ∙ clean.undrawn }

  pub reply_later : (request : Request) → key_of request ≡ key → Stored ≡ reply_in b.shape (after b.shape (seen p)) request → Stored ≡ reply_in b.shape (after b.shape (seen q)) request
  reply_later request of stored =
      let same = subst (IsSameAt b.shape (after b.shape (seen p)) (after b.shape (seen q))) (sym of) (moved_at b own p q key m bit none) in
      stored ∙ (λ i. reply_to request (is_some ((sym (same.finds (moment_of request))) i)) ((sym same.version) i))

-- ---- the link of the rows that were written

module _ (b : Board) (request : Request) (target : Target) (segment row : ℕ) (q : Pass) where
  abbrev key : List ℕ
  key = key_of request

  pub may_store : HasCleanBit b q (bucket_of b.shape key) → IsTarget b key target q → Stored ≡ reply_in b.shape (after b.shape (seen q)) request
      → AreOwnRows b.shape (trace q) (number q) segment row (rows_of request)
      → Holds (row_after (trace q) segment row) key (value_of request) → IsKey key → IsValue (value_of request) → Fits b.shape (trace q) (linked_by b request segment row target.place q)
  may_store clean found stored own holds is_key is_value = record {
    guarded = clean.bit;
    follows = (stored, (own_first b.shape (trace q) (number q) segment row (rows_of request) (some_rows request) own).2);
    suits = (own, holds, clean.unwritten, found.chain.at.0, ⊎_elim (λ free. inl (free.1, free.2)) (λ has. inr has.0) found.is, is_key, is_value);
  }

  module _ (r : Pass) (d : AddsAtOnce b (linked_by b request segment row target.place q ∷ []) q r) (clean : HasCleanBit b q (bucket_of b.shape key)) where
    abbrev home : ℕ
    home = bucket_of b.shape key

    linked_bucket : bucket_after b.shape (trace r) home ≡ acts (linked_by b request segment row target.place q) (bucket_after b.shape (trace q) home)
    linked_bucket = did_acts b (linked_by b request segment row target.place q) q r home d (eq-eqb home home refl) clean.bit

    -- what is so once the rows are counted as used
    pub has_written : (x : PlainPart) → HasWritten b (record r { plain = x }) home
    has_written x = record {
      bit = (clean.bit.0, ap (λ u. u.holder) linked_bucket ∙ (clean.bit.1 ∙ ap Some (sym d.moved.same)));
      written = ap (λ u. u.written) linked_bucket;
      undrawn = ap (λ u. u.spare) linked_bucket ∙ clean.undrawn;
    }

-- ---- all of it

-- so many rows more are used where a number of them were
rows_used : (segment row rows : ℕ) (x : PlainPart) → used_in (own_segment x segment) ≡ Some row
    → with_used segment (row + rows) x ≡ with_own segment (more rows) x
rows_used segment row rows x used = own_alike x segment (counted (row + rows)) (more rows)
    (same (own_segment x segment) used)
  where
    same : (o : Option OwnSegment) → used_in o ≡ Some row
        → option_map (counted (row + rows)) o ≡ option_map (more rows) o
    same None is = refl
    same (Some own) is = ap (λ n. Some (counted (n + rows) own)) (sym (same_Some own.used row is))

pub used_all : (request : Request) (segment row rows : ℕ) (k v : List ℕ) (r s : Pass)
    → s ≡ record r { plain = with_used segment (row + rows) r.plain } → rows ≡ span_of k v
    → key_of request ≡ k → value_of request ≡ v
    → record r { plain = with_used segment (row + rows_of request) r.plain } ≡ s
used_all request segment row rows k v r s is takes same_key same_value =
    sym (is ∙ ap (λ n. record r { plain = with_used segment (row + n) r.plain })
    (takes ∙ (λ t. span_of (sym same_key t) (sym same_value t))))

module _ (b : Board) (request : Request) (target : Target) (segment row : ℕ) (p q r : Pass) (next : IsNextRow b request segment row p)
    (places : List ℕ) (m : AddsEvents b (fills (number p) segment row (row_of (key_of request) (value_of request))
    places) p q) (d : AddsAtOnce b (linked_by b request segment row target.place q ∷ []) q r) where
  abbrev at : ℕ
  at = position b.shape (trace q) target.place

  -- with the item's rows counted as used
  abbrev after_all : Pass
  after_all = record r { plain = with_used segment (row + rows_of request) r.plain }

  pub stores_all : HasCleanBit b q (bucket_of b.shape (key_of request)) → IsTarget b (key_of request) target q → StoresUnderBit b request segment row p after_all
  stores_all clean found =
      let own = fills (number p) segment row (row_of (key_of request) (value_of request)) places in
      let both : AddsEvents b (stores (number p) request segment row at places) p r =
      subst (λ n. AddsEvents b (Linked n request segment row at ∷ own) p r) m.same
      (moved_then b own (linked_by b request segment row target.place q ∷ []) p q r m d.moved) in (
        at,
        places,
        moved_still b (stores (number p) request segment row at places) p r after_all.plain both
            (owner_counted r.plain segment (row + rows_of request)),
        took_first b request target segment row own p q r after_all m m.pass clean.bit found d refl,
      )

  module _ (first : q.plain ≡ p.plain) (second : r.plain ≡ q.plain) where
    pub keeps_all : Holds (row_after (trace q) segment row) (key_of request) (value_of request) → IsKey (key_of request) → IsValue (value_of request)
        → KeepsSegments b p → KeepsSegments b after_all
    keeps_all holds is_key is_value k =
        let kq = keeps_plain b (fills (number p) segment row (row_of (key_of request) (value_of request)) places) p
        q m (fills_calm (number p) segment row (row_of (key_of request) (value_of request)) places) first k in
        keeps_named b _ q r segment row (rows_of request) (refl, refl) d second (ap (λ (x : PlainPart). x.current) first ∙ next.current) (same_used p q segment first ∙ next.used) next.fits
        (header_span (row_after (trace q) segment row) (key_of request) (value_of request) is_key is_value holds) m.pass kq

    pub uses_all : memo q ≡ memo p → memo r ≡ memo q → UsesRows segment (rows_of request) p after_all
    uses_all minds same = record {
      current = next.current;
      plain = rows_used segment row (rows_of request) r.plain (same_used p r segment (second ∙ first) ∙ next.used)
          ∙ ap (with_own segment (more (rows_of request))) (second ∙ first);
      memo = same ∙ minds;
    }
