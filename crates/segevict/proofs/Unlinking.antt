-- The key of a row leaves its word under the bit: it may, and after that no word names the row.
use Rattle.std.proofs.Common.{◌≡◌, ℕ, ◌≤◌, eqb, true, false, List, [], ◌∷◌, ◌++◌, Some, None, refl, sym, ap, ◌∙◌, subst, arith}
use Rattle.std.proofs.lemmas.Bool.{cond-true, eq-eqb}
use Rattle.std.proofs.lemmas.Option.{none-some, same_Some}
use Rattle.segword.specs.Words.{IsSameItem, Item, Shape}
use Rattle.segmodel.specs.Words.{after, bucket_of, StandsIn}
use Rattle.segcore.specs.declared.event.Event.TheVariants.{Unlinked}
use Rattle.segcore.specs.Words.{acts, bucket_after, cached, Content, Event, Fits, HasBit, IsLawful, Leaving}
use Rattle.segcore.specs.Words.{item as holds, NoneAt, NoneBy, row_after, RowGone, same_key, Slot}
use Rattle.segcore.specs.Event as event
use Rattle.segcore.specs.declared.event.Leaving.TheVariants.{Evicts}
use Rattle.segcore.proofs.Caches.{stands, stands_in}
use Rattle.segcore.proofs.Coherent.{IsStanding}
use Rattle.segcore.proofs.Keys.{same_true}
use Rattle.segcore.proofs.Quiet.{quiet, quiet_row}
use Rattle.segcore.proofs.Standing.{coherent, gone}
use Rattle.segbase.specs.Words.{AddsAtOnce, AddsEvents, Board, HasItemOf, home_bucket, IsPassOf}
use Rattle.segbase.specs.Words.{number, Pass, Place, position, trace}
use Rattle.segbase.proofs.Moves.{moved_then}
use Rattle.segstore.specs.Words.{HasCleanBit, Idles}
use Rattle.segstore.proofs.Words.{at_place}
use Rattle.segwrite.specs.Words.{IsEarlier, IsInChain, Target}
use Rattle.segevict.specs.Rows.{IsStoredIn, IsNamedAt}
use Rattle.segevict.specs.Unlinking.{TakesRow}
use Rattle.segevict.proofs.Seeking.{stored_over}
use Rattle.segstore.proofs.UnderBit.{moved_bucket, moved_bit}

pub clean_over : (b : Board) (own : List Event) (p q : Pass) (bucket : ℕ) → AddsEvents b own p q → NoneAt b.shape bucket own → HasCleanBit b p bucket → HasCleanBit b q bucket
clean_over b own p q bucket m none clean = let same = moved_bucket b own p q bucket m clean.bit none in
    record { bit = moved_bit b own p q bucket m clean.bit none; unwritten = ap (λ u. u.written) same ∙ clean.unwritten; undrawn = ap (λ u. u.spare) same ∙ clean.undrawn }

-- the key and the segment of the item at a place, as it leaves
abbrev pub left_of : Content → List ℕ × Leaving
left_of (holds a) = (a.key, Evicts a.segment)
left_of _ = ([], Evicts 0)

abbrev pub left_at : Board → Place → Pass → List ℕ × Leaving
left_at b place p = left_of ((bucket_after b.shape (trace p) (home_bucket b.shape (trace p) place)).items (position b.shape (trace p) place))

-- an eviction leaves no word that names the row of its key
evicted_gone : (z : Shape) (h : List Event) (p n s r : ℕ) (key : List ℕ) (why : Leaving)
    → IsLawful z (Unlinked p key n why ∷ h) → (row_after h s r).linked ≡ Some key
    → RowGone z s r (Unlinked p key n why ∷ h)
evicted_gone z h p n s r key why l on b m a is es er =
    let i = (coherent z (Unlinked p key n why ∷ h) l).items b m a is in
    let same : a.key ≡ key = same_Some a.key key (sym i.linked ∙ ((λ t. (row_after h (es t) (er t)).linked) ∙ on)) in
    none-some (cached i.value a.segment) (sym (gone z p key why h a.key ∙ cond-true (same_key key a.key) None (stands z (event.seen h) a.key) (same_true key a.key (sym same))) ∙ i.stands)

-- ---- the key of a word that was found

module _ (b : Board) (bucket : ℕ) (sought : Item) (f : Pass) (is : IsPassOf b f) (stored : IsStoredIn b bucket sought f) (target : Target) (n : IsNamedAt b bucket sought target f) where
  abbrev at : ℕ
  at = position b.shape (trace f) target.place

  abbrev a : Slot
  a = n.named.0

  st : IsStanding b.shape (trace f) bucket at a
  st = (coherent b.shape (trace f) is.lawful).items bucket at a n.named.1

  pub named_key : a.key ≡ stored.key
  named_key = same_Some a.key stored.key (sym st.linked ∙ ((λ t. (row_after (trace f) (n.named.2.0 t) (n.named.2.1 t)).linked) ∙ stored.linked))

  -- the bucket is that of the key
  pub named_home : bucket ≡ bucket_of b.shape stored.key
  named_home = sym st.here ∙ ap (bucket_of b.shape) named_key

  pub left_is : left_at b target.place f ≡ (stored.key, Evicts sought.seg)
  left_is = ap (λ k. left_of ((bucket_after b.shape (trace f) k).items at)) (at_place b.shape (trace f) bucket at target.place n.chain.at.1).0
      ∙ (ap left_of n.named.1 ∙ (λ t. (named_key t, Evicts (n.named.2.0 t))))

  -- it stands in the segment
  pub named_stands : StandsIn (after b.shape (event.seen (trace f))) stored.key sought.seg
  named_stands =
      let stood : stands b.shape (event.seen (trace f)) stored.key ≡ Some (cached st.value sought.seg) =
      (λ t. stands b.shape (event.seen (trace f)) (sym named_key t))
      ∙ (st.stands ∙ ap (λ s. Some (cached st.value s)) n.named.2.0) in
      stands_in b.shape (event.seen (trace f)) stored.key sought.seg (st.value, stood)

  -- under the bit it may leave its word
  abbrev pub Clears : List ℕ × Leaving → Type 0
  Clears left = Fits b.shape (trace f) (Unlinked (number f) left.0 at left.1)
      × IsInChain b (bucket_of b.shape left.0) target.place f × HasItemOf b left.0 target.place f
      × IsEarlier b target.place target.word f

  clears : HasBit b.shape (trace f) (number f) bucket → Clears (stored.key, Evicts sought.seg)
  clears bit =
      let here : (bucket_after b.shape (trace f) (bucket_of b.shape stored.key)).items at ≡ holds a = subst (λ k. (bucket_after b.shape (trace f) k).items at ≡ holds a) named_home n.named.1 in (
        record {
          guarded = subst (HasBit b.shape (trace f) (number f)) named_home bit;
          follows = (named_stands, stored.own);
          suits = (a, here, named_key, sym n.named.2.0);
        },
        subst (λ k. IsInChain b k target.place f) named_home n.chain,
        (a, here, named_key),
        subst (λ w. IsSameItem target.word w × (target.word ≤ w)) n.reads ((n.same.0, refl, refl), omega arith),
      )

  pub clears_left : HasBit b.shape (trace f) (number f) bucket → Clears (left_at b target.place f)
  clears_left bit = subst Clears (sym left_is) (clears bit)

-- ---- it leaves its word

-- with f the pass after the search
module _ (b : Board) (bucket : ℕ) (sought : Item) (p f : Pass) (stored : IsStoredIn b bucket sought p) (clean : HasCleanBit b p bucket) (i : Idles b p f) where
  pub stored_now : IsStoredIn b bucket sought f
  stored_now = stored_over b bucket sought [] p f i.moved tt stored

  clean_now : HasCleanBit b f bucket
  clean_now = clean_over b [] p f bucket i.moved tt clean

  pub takes_none : RowGone b.shape sought.seg sought.row (trace f) → TakesRow b bucket sought false p f
  takes_none none = record { takes = i.moved; gone = none; bit = clean_now }

  module _ (target : Target) (n : IsNamedAt b bucket sought target f) where
    abbrev k : List ℕ
    k = stored_now.key

    home : bucket ≡ bucket_of b.shape k
    home = named_home b bucket sought f i.moved.pass stored_now target n

    abbrev there : ℕ
    there = position b.shape (trace f) target.place

    abbrev e : Event
    e = Unlinked (number f) k there (Evicts sought.seg)

    pub may_clear : Clears b bucket sought f i.moved.pass stored_now target n (left_at b target.place f)
    may_clear = clears_left b bucket sought f i.moved.pass stored_now target n clean_now.bit

    module _ (q : Pass) (done : AddsAtOnce b (Unlinked (number f) (left_at b target.place f).0 there (left_at b target.place f).1 ∷ []) f q) where
      d : AddsAtOnce b (e ∷ []) f q
      d = subst (λ (left : List ℕ × Leaving). AddsAtOnce b (Unlinked (number f) left.0 there left.1 ∷ []) f q) (left_is b bucket sought f i.moved.pass stored_now target n) done

      linked_before : (row_after (d.others ++ trace f) sought.seg sought.row).linked ≡ Some k
      linked_before = ap (λ u. u.linked) (quiet_row b.shape d.others (trace f) sought.seg sought.row d.before (subst (λ m. NoneBy m d.others) (sym stored_now.own) d.none)) ∙ stored_now.linked

      bucket_now : bucket_after b.shape (trace q) bucket ≡ acts e (bucket_after b.shape (trace f) bucket)
      bucket_now = let u = bucket_after b.shape (d.others ++ trace f) bucket in
          ap (λ h. bucket_after b.shape h bucket) d.now ∙ (cond-true (eqb (bucket_of b.shape k) bucket) (acts e u) u (eq-eqb (bucket_of b.shape k) bucket (sym home))
          ∙ ap (acts e) (quiet b.shape d.others (trace f) (number f) bucket d.before d.none clean_now.bit.1))

      pub takes_one : TakesRow b bucket sought true p q
      takes_one = record {
        takes = (
          k,
          there,
          home,
          subst
              (λ m. AddsEvents b (Unlinked m k there (Evicts sought.seg) ∷ []) p q) i.moved.same
              (moved_then b [] (e ∷ []) p f q i.moved d.moved),
          ap (λ h. (row_after h sought.seg sought.row).linked) d.now ∙ linked_before,
        );
        gone = subst (RowGone b.shape sought.seg sought.row) (sym d.now)
            (evicted_gone b.shape (d.others ++ trace f) (number f) there sought.seg sought.row k (Evicts sought.seg)
            (subst (IsLawful b.shape) d.now d.moved.pass.lawful) linked_before);
        bit = record {
          bit = (clean_now.bit.0, ap (λ u. u.holder) bucket_now ∙ (clean_now.bit.1 ∙ ap Some (sym d.moved.same)));
          unwritten = ap (λ u. u.written) bucket_now ∙ clean_now.unwritten;
          undrawn = ap (λ u. u.spare) bucket_now ∙ clean_now.undrawn;
        };
      }
