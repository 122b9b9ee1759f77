-- What a look at the deadline of a key's segment, under the bit of its bucket, tells of the key, and what it leaves.
use Rattle.std.proofs.Common.{◌≡◌, ◌≢◌, ℕ, ◌/◌, ◌^◌, ◌<◌, ◌≤◌, true, false, is_some, List, [], ◌∷◌, ◌++◌, Option, Some, None, Bool, cond, append-nil, refl, sym, ap, ◌∙◌, subst, inl, inr, arith}
use Rattle.std.specs.Prelude.{IfSome, IsSomeAnd, nat_lt}
use Rattle.std.specs.Bool.{then_some}
use Rattle.std.proofs.lemmas.Bool.{false≢true, ltb-true, ltb-false}
use Rattle.segword.specs.Words.{Item, item_word, Shape}
use Rattle.segmodel.specs.Words.{after, Begins, bucket_of, IsSameAt, present, Request, standing, unless_expired}
use Rattle.segmodel.proofs.HistoryLemmas.{stands_present, stands_absent}
use Rattle.segcore.specs.Event as event
use Rattle.segcore.proofs.Moments.{begins_on}
use Rattle.segcore.specs.declared.event.Event.TheVariants.{Entered, Left, Took}
use Rattle.segcore.specs.Bucket as buckets
use Rattle.segcore.specs.Words.{bucket_after, cached, enter, Event, HasBit, inside, IsItemAt, IsSegment, May, NoneAt, was_used}
use Rattle.segcore.proofs.Chains.{same_item}
use Rattle.segbase.specs.Words.{AddsEvents, Board, cell_at, HasItemOf, holding, home_bucket, IsPassOf, number, Pass, position, seen, trace}
use Rattle.segbase.proofs.Moves.{moved_inside, moved_on, moved_then}
use Rattle.segstore.specs.Reading.{Enters, LeavesSegment}
use Rattle.segstore.specs.Words.{HasCleanBit, Idles, is_held_in, IsChained, IsQuiet, MayEnterAny}
use Rattle.segstore.specs.Words.{peek, ReadsNothing, segment_part, TookToWrite, WasLinked}
use Rattle.segstore.specs.Words.{word_of_place}
use Rattle.segstore.proofs.Refills.{idles}
use Rattle.segstore.proofs.Seconds.{segment_of_item}
use Rattle.segstore.proofs.Used.{linked_used}
use Rattle.segstore.proofs.Words.{at_place, same_segment, stood_item}
use Rattle.segstore.specs.Taking.{bounces}
use Rattle.segstore.proofs.Bounces.{bounces_still}
use Rattle.segstore.proofs.Still.{still_inside}
use Rattle.segstore.proofs.UnderWrite.{HasBegun}
use Rattle.segstore.proofs.Peeking.{PeeksInto, unread}
use Rattle.segstore.proofs.UnderBit.{moved_at, moved_bit, moved_bucket}
use Rattle.segwrite.specs.Words.{Target}
use Rattle.segwrite.specs.Presence.{CameIn, depends_on_key, IsPresentWord, Peeks, PeeksFor}
use Rattle.segwrite.specs.Refusing.{request_of}
use Rattle.segwrite.specs.declared.condition.Condition.{Condition}
use Rattle.segwrite.specs.declared.condition.Condition.TheVariants as condition
use Rattle.segwrite.specs.Writes.{EntersForKey}
use Rattle.segwrite.specs.Writing.{IsEarlier, IsTarget, own_word}
use Rattle.segwrite.proofs.Linking.{own_item}

-- ---- the segment in which a key stands

module _ (b : Board) (key : List ℕ) (target : Target) (p : Pass) (is : IsPassOf b p) (t : IsTarget b key target p) (some : target.word ≢ 0) where
  abbrev z : Shape
  z = b.shape

  abbrev at : ℕ
  at = position z (trace p) target.place

  abbrev now_word : ℕ
  now_word = word_of_place z (trace p) target.place

  own : HasItemOf b key target.place p × IsEarlier b target.place target.word p
  own = own_item b key target p t some

  home : home_bucket z (trace p) target.place ≡ bucket_of z key
  home = (at_place z (trace p) (bucket_of z key) at target.place t.chain.at.1).0

  chained : IsChained z (trace p) target.place
  chained = record { in_table = t.chain.in_table; at = subst (λ k. IsItemAt z (trace p) k at (cell_at z target.place)) (sym home) t.chain.at }

  tagged : 1 ≤ now_word / 2 ^ 52
  tagged = subst (λ n. 1 ≤ n) own.1.0.1 own.1.0.0

  pub linked : (other : List ℕ) × (value : List ℕ) × WasLinked z target.place now_word other value (trace p)
  linked = stood_item z (trace p) target.place now_word is.valid is.lawful chained refl tagged

  key_is : linked.0 ≡ key
  key_is =
      let o = linked.2.here.1 in
      let bucket : bucket_of z linked.0 ≡ bucket_of z key = linked.2.here.0 ∙ home in
      let there : (bucket_after z (trace p) (bucket_of z key)).items at ≡ buckets.item o.0 = subst (λ m. (bucket_after z (trace p) m).items at ≡ buckets.item o.0) bucket o.1 in
      sym o.2 ∙ (ap (λ a. a.key) (same_item o.0 own.0.0 (sym there ∙ own.0.1)) ∙ own.0.2)

  module _ (item : Item) (word : item_word item ≡ target.word) where
    segment_is : segment_part now_word ≡ item.seg
    segment_is = sym (segment_of_item item ∙ (ap segment_part word ∙ same_segment target.word now_word own.1.0))

    stands : standing (after z (seen p)) key ≡ Some (cached linked.1 item.seg)
    stands = subst (λ k. standing (after z (seen p)) k ≡ Some (cached linked.1 item.seg)) key_is
        (subst (λ s. standing (after z (seen p)) linked.0 ≡ Some (cached linked.1 s)) segment_is linked.2.stands)

    -- it may come into that segment
    pub may_look : MayEnterAny p → May z (trace p) (number p) (enter item.seg)
    may_look outside = record {
      guarded = tt;
      follows = tt;
      suits = (
        is.one_of,
        subst (IsSegment z) segment_is linked.2.in_segment.0,
        outside item.seg,
        subst (λ s. was_used (trace p) s ≡ true) segment_is (linked_used (trace p) _ _ linked.0 linked.2.linked),
      );
    }

    -- with e in the segment, and l after it left
    module _ (e l : Pass) (bit : HasBit z (trace p) (number p) (bucket_of z key)) (comes : Enters b p e item.seg)
        (deadline : ℕ) (told : deadline ≡ (after z (seen e)).deadline item.seg)
        (gone : LeavesSegment b e l item.seg) where
      at_e : IsSameAt z (after z (seen p)) (after z (seen e)) key
      at_e = moved_at b (Entered (number p) item.seg ∷ []) p e key comes.did.moved bit (refl, tt)

      bit_e : HasBit z (trace e) (number e) (bucket_of z key)
      bit_e = moved_bit b (Entered (number p) item.seg ∷ []) p e (bucket_of z key) comes.did.moved bit (refl, tt)

      at_l : IsSameAt z (after z (seen e)) (after z (seen l)) key
      at_l = moved_at b (Left (number e) item.seg ∷ []) e l key gone.moved bit_e (refl, tt)

      came : CameIn z key (number p) item.seg (trace p) (trace l)
      came = record {
        at = comes.did.others ++ trace p;
        since = (comes.did.others, refl);
        until = subst (λ h. Begins h (trace l)) comes.did.now (moved_on b _ e l gone.moved);
        stood = subst (λ o. IsSomeAnd o (λ item'. item'.segment ≡ item.seg)) (sym (ap (λ h. standing (after z (event.seen h)) key) (sym comes.did.now) ∙ (at_e.stands ∙ stands))) refl;
      }

      pub peeks : Peeks b key p l
      peeks = record {
        into = Some item.seg;
        moved = subst (λ n. AddsEvents b (Left n item.seg ∷ Entered (number p) item.seg ∷ []) p l) comes.did.moved.same
            (moved_then b (Entered (number p) item.seg ∷ []) (Left (number e) item.seg ∷ []) p e l comes.did.moved gone.moved);
        came = came;
        plain = gone.plain ∙ comes.plain;
        memo = gone.memo ∙ comes.memo;
      }

      pub is_present : (now : ℕ) → now < deadline → present (after z (seen l)) now key ≡ Some (cached linked.1 item.seg)
      is_present now before = at_l.finds now ∙ stands_present (after z (seen e)) key linked.1 item.seg deadline now (at_e.stands ∙ stands) (sym told) before

      pub is_absent : (now : ℕ) → deadline ≤ now → present (after z (seen l)) now key ≡ None
      is_absent now past = at_l.finds now ∙ stands_absent (after z (seen e)) key linked.1 item.seg deadline now (at_e.stands ∙ stands) (sym told) past

      -- so the word is told if the key is present
      pub tells_word : (now : ℕ) (found : Option Target) → own_word found ≡ Some target → IsPresentWord b key now found (then_some (nat_lt now deadline) target) l
      tells_word now found of = by (nat_lt now deadline) refl
        where
          by : (over : Bool) → nat_lt now deadline ≡ over → IsPresentWord b key now found (then_some over target) l
          by true is = (of, ap is_some (is_present now (ltb-true now deadline is)))
          by false is = is_absent now (ltb-false now deadline is)

-- what doesn't stand is absent
pub none_present : (b : Board) (key : List ℕ) (now : ℕ) (p : Pass) → standing (after b.shape (seen p)) key ≡ None → present (after b.shape (seen p)) now key ≡ None
none_present b key now p none = ap (unless_expired (after b.shape (seen p)).deadline now) none

-- a word is told exactly if the key is present
pub word_tells : (b : Board) (key : List ℕ) (now : ℕ) (found word : Option Target) (q : Pass) → IsPresentWord b key now found word q → is_some word ≡ is_some (present (after b.shape (seen q)) now key)
word_tells b key now found None q none = sym (ap is_some none)
word_tells b key now found (Some target) q known = sym known.1

-- a request that may store in some cases alone depends on its key
pub depends : (w : Condition) (request : Request) (key value : List ℕ) (now : ℕ) → w ≢ condition.Always → request ≡ request_of w key value now → depends_on_key request ≡ false → ⊥
depends condition.Always request key value now other is none = other refl
depends condition.IfAbsent request key value now other is none = false≢true (sym none ∙ ap depends_on_key is)
depends condition.IfPresent request key value now other is none = false≢true (sym none ∙ ap depends_on_key is)
depends (condition.IfVersion n) request key value now other is none = false≢true (sym none ∙ ap depends_on_key is)

-- ---- looks

-- where the pass came in, seen between wider traces
pub came_wider : (shape : Shape) (key : List ℕ) (n m : ℕ) (into : Option ℕ) (first old new last : List Event) → n ≡ m → Begins first old → Begins new last
    → IfSome into (λ segment. CameIn shape key n segment old new) → IfSome into (λ segment. CameIn shape key m segment first last)
came_wider shape key n m None first old new last same up on came = tt
came_wider shape key n m (Some segment) first old new last same up on came = record {
  at = came.at;
  since = begins_on first old came.at up came.since;
  until = subst (λ k. Begins (Entered k segment ∷ came.at) last) same (begins_on (Entered n segment ∷ came.at) new last came.until on);
  stood = came.stood;
}

pub peeks_none : (b : Board) (key : List ℕ) (p : Pass) → IsPassOf b p → Peeks b key p p
peeks_none b key p is = let i = idles b p is in record { into = None; moved = i.moved; came = tt; plain = i.plain; memo = i.memo }

pub peeks_for_none : (b : Board) (request : Request) (p : Pass) → IsPassOf b p → PeeksFor b request p p
peeks_for_none b request p is = let i = idles b p is in record { peeks = record { into = None; moved = i.moved; came = tt; plain = i.plain; memo = i.memo }; none = λ set. refl }

pub peeks_then : (b : Board) (key : List ℕ) (p q r : Pass) → Peeks b key p q → Idles b q r → Peeks b key p r
peeks_then b key p q r x i = record {
  into = x.into;
  moved = moved_then b (peek (number p) x.into) [] p q r x.moved i.moved;
  came = came_wider b.shape key (number p) (number p) x.into (trace p) (trace p) (trace q) (trace r) refl (
    [],
    refl,
  ) (moved_on b [] q r i.moved) x.came;
  plain = i.plain ∙ x.plain;
  memo = i.memo ∙ x.memo;
}

-- they are of no bucket
pub peek_nowhere : (z : Shape) (bucket n : ℕ) (into : Option ℕ) → NoneAt z bucket (peek n into)
peek_nowhere z bucket n None = tt
peek_nowhere z bucket n (Some segment) = (refl, (refl, tt))

-- a clean bit stays so
pub clean_still : (b : Board) (own : List Event) (bucket : ℕ) (p q : Pass) → HasCleanBit b p bucket → AddsEvents b own p q → NoneAt b.shape bucket own → HasCleanBit b q bucket
clean_still b own bucket p q clean m none = let same = moved_bucket b own p q bucket m clean.bit none in
    record { bit = moved_bit b own p q bucket m clean.bit none; unwritten = ap (λ u. u.written) same ∙ clean.unwritten; undrawn = ap (λ u. u.spare) same ∙ clean.undrawn }

-- from p, where the bit was taken, to f, where the search ended, and to g after the look
pub peeks_after : (b : Board) (key : List ℕ) (p f g : Pass) → Idles b p f → Peeks b key f g → Peeks b key p g
peeks_after b key p f g i x = record {
  into = x.into;
  moved = subst (λ n. AddsEvents b (peek n x.into) p g) i.moved.same
      (subst (λ es. AddsEvents b es p g) (append-nil (peek (number f) x.into))
      (moved_then b [] (peek (number f) x.into) p f g i.moved x.moved));
  came = came_wider b.shape key (number f) (number p) x.into (trace p) (trace f) (trace g) (trace g) i.moved.same (moved_on b [] p f i.moved) ([], refl) x.came;
  plain = x.plain ∙ i.plain;
  memo = x.memo ∙ i.memo;
}

-- a pass that only looked is in each segment as often as before
pub may_enter_idle : (b : Board) (p f : Pass) → Idles b p f → MayEnterAny p → MayEnterAny f
may_enter_idle b p f i outside segment = subst (λ n. inside (trace f) n segment < 2) (sym i.moved.same) (subst (λ n. n < 2) (sym (moved_inside b [] p f segment i.moved)) (outside segment))

module _ (b : Board) (bucket : ℕ) (p q f : Pass) (quiet : IsQuiet b p) (took : TookToWrite b bucket p q) (search : Idles b q f) where
  abbrev taking : List Event
  taking = Took (number p) bucket ∷ bounces (number p) bucket took.takes.0

  pub taken_moved : AddsEvents b taking p f
  taken_moved = moved_then b taking [] p q f took.takes.2 search.moved

  -- the pass may come into any segment
  pub may_enter : MayEnterAny f
  may_enter segment =
      let at_most : (held : Bool) → (let n : ℕ = cond held 1 0 in n) < 2 = λ held. elim held as (λ h. (let n : ℕ = cond h 1 0 in n) < 2) [ true ↦ omega arith | false ↦ omega arith ] in
      subst (λ n. inside (trace f) n segment < 2) (sym taken_moved.same)
      (subst (λ n. n < 2) (sym (moved_inside b taking p f segment taken_moved
      ∙ (still_inside taking (trace p) (number p) segment (tt, bounces_still (number p) bucket took.takes.0)
      ∙ quiet.inside segment)))
      (at_most (is_held_in (holding p) segment)))

  -- the write goes on from there
  pub began : (key : List ℕ) (g : Pass) → (x : Peeks b key f g) → HasBegun b bucket x.into p g
  began key g x = record {
    unlocked = took.unlocked;
    tries = took.takes.0;
    few = took.takes.1;
    moved = subst (λ n. AddsEvents b (peek n x.into ++ taking) p g) taken_moved.same (moved_then b taking (peek (number f) x.into) p f g taken_moved x.moved);
    clean = clean_still b (peek (number f) x.into) bucket f g (clean_still b [] bucket q f took.takes.3 search.moved tt) x.moved (peek_nowhere b.shape bucket (number f) x.into);
    plain = x.plain ∙ (search.plain ∙ took.plain);
    memo = x.memo ∙ (search.memo ∙ took.memo);
  }

-- ---- what they cost

pub enters_for : (shape : Shape) (key : List ℕ) (into : Option ℕ) (p q : Pass) → PeeksInto into p q
    → IfSome into (λ segment. CameIn shape key (number p) segment (trace p) (trace q)) → EntersForKey shape key p q
enters_for shape key None p q x came = record { raises_nothing = x.raised; glanced = x.glanced; entered = inl (let e = x.entered in omega (arith, e)) }
enters_for shape key (Some segment) p q x came = record { raises_nothing = x.raised; glanced = x.glanced; entered = inr (x.entered, (segment, came)) }

-- where it came into none, it read nothing
pub unread_if : (into : Option ℕ) (p q : Pass) → into ≡ None → PeeksInto into p q → ReadsNothing p q
unread_if into p q none x = unread p q (subst (λ o. PeeksInto o p q) none x)

-- a call that reads nothing comes into none
pub enters_none : (shape : Shape) (key : List ℕ) (p q : Pass) → ReadsNothing p q → EntersForKey shape key p q
enters_none shape key p q none = record {
  raises_nothing = ap (λ (x : ℕ × ℕ × (ℕ → ℕ)). x.0) none;
  glanced = λ bucket. ap (λ (x : ℕ × ℕ × (ℕ → ℕ)). x.2 bucket) none;
  entered = inl (ap (λ (x : ℕ × ℕ × (ℕ → ℕ)). x.1) none);
}
