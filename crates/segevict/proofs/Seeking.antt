-- The search for the word that names a row of the pass's own, along a chain, under the bucket's bit or without it.
use Rattle.std.proofs.Common.{◌≡◌, ℕ, ◌+◌, ◌*◌, ◌/◌, ◌%◌, ◌^◌, ◌<◌, ◌≤◌, ltb, List, [], ◌++◌, Option, Some, None, sym, ap, ◌∙◌, subst, inl, inr, ⊎_elim, arith}
use Rattle.std.proofs.lemmas.Bool.{cases_lt, cond-true, lt-ltb}
use Rattle.std.proofs.lemmas.Option.{none-some, same_Some}
use Rattle.std.specs.Prelude.{MatchOption}
use Rattle.segword.specs.Words.{IsSameItem, IsValid, Item, item_word, Shape}
use Rattle.segmodel.specs.Words.{bucket_of, tag_of}
use Rattle.segcore.specs.Words.{bucket_after, Event, IsItemAt, IsLawful}
use Rattle.segcore.specs.Words.{item, row_after, RowAt, RowGone}
use Rattle.segcore.proofs.Chains.{chain_of}
use Rattle.segcore.proofs.Limits.{low_row, low_segment}
use Rattle.segcore.proofs.Moments.{lawful_before}
use Rattle.segcore.proofs.Standing.{coherent}
use Rattle.segbase.specs.Words.{AddsEvents, Board, cell_at, IsPassOf, IsWordOfContent}
use Rattle.segbase.specs.Words.{number, own_of, Pass, Place, position, trace}
use Rattle.segbase.proofs.Standing.{tag_of_word, place_of_word}
use Rattle.segstore.specs.Words.{Idles}
use Rattle.segstore.proofs.Keeping.{AreCalmIn, own_linked}
use Rattle.segstore.proofs.Refills.{idles}
use Rattle.segstore.specs.Words.{IsNext, LeadsNowhere, LeadsTo, next_word}
use Rattle.segwrite.specs.Words.{IsInChain}
use Rattle.segevict.specs.Rows.{IfNamed, IsStoredIn}
use Rattle.segwrite.proofs.Items.{item_here}
use Rattle.segwrite.proofs.Onward.{chain_ends}
use Rattle.segwrite.proofs.Places.{idles_then}
use Rattle.segwrite.proofs.Searching.{begins_at}
use Rattle.segevict.proofs.Walking.{chain_looked, ComesNext, depth, onward, reads_looked, same_looked}
use Rattle.segevict.proofs.Unnamed.{gone_over, IsAhead, ahead_first, ahead_over, ahead_passed, ahead_skipped, ahead_ended}

-- ---- a word and a row

-- a word of the item names its row
pub names_row : (z : Shape) (h : List Event) (b n word : ℕ) (sought : Item) → IsValid z → IsLawful z h
    → IsWordOfContent ((bucket_after z h b).items n) word → IsSameItem word (item_word sought)
    → RowAt z b sought.seg sought.row h n
names_row z h b n word sought v l reads same =
    let found = item_here z h b n word ((bucket_after z h b).items n) v l ((chain_of z h l b).contents n) reads same.0 in
    let a = found.0 in let stands = (coherent z h l).items b n a found.1 in
    let ls = low_segment z a.segment v stands.within.0 in let lr = low_row z a.row v stands.within.1 in
    let place : a.segment * 2 ^ 20 + a.row ≡ sought.seg * 2 ^ 20 + sought.row =
    sym (place_of_word (tag_of a.key) found.2.0 a.segment a.row ls lr)
    ∙ (ap (λ w. w % 2 ^ 44) (sym found.2.2) ∙ (same.2
    ∙ place_of_word sought.tag sought.freq sought.seg sought.row sought.seg_in_range sought.row_in_range)) in
    let low = sought.row_in_range in
    (a, found.1, (omega (arith, place, lr, low), omega (arith, place, lr, low)))

-- and no other does, where the key was linked to the row
pub names_no_row : (z : Shape) (h : List Event) (b n word : ℕ) (sought : Item) (key : List ℕ) → IsValid z
    → IsLawful z h → (row_after h sought.seg sought.row).linked ≡ Some key → IfNamed z h sought.seg sought.row (sought.tag ≡ tag_of key)
    → IsWordOfContent ((bucket_after z h b).items n) word → ¬ (IsSameItem word (item_word sought)) → ¬ (RowAt z b sought.seg sought.row h n)
names_no_row z h b n word sought key v l on tag reads other at =
    let a = at.0 in let stands = (coherent z h l).items b n a at.1 in
    let ls = low_segment z a.segment v stands.within.0 in let lr = low_row z a.row v stands.within.1 in
    let same : a.key ≡ key = same_Some a.key key (sym stands.linked ∙ ((λ t. (row_after h (at.2.0 t) (at.2.1 t)).linked) ∙ on)) in
    let here : IsWordOfContent (item a) word = subst (λ x. IsWordOfContent x word) at.1 reads in
    let tagged = tag b n at in
    let is = here.0.2 in let few : here.0.0 < 2 ^ 8 = (let lt = here.0.1 in omega arith) in
    other (
      here.1,
      ap (λ w. w / 2 ^ 52) is ∙ (tag_of_word (tag_of a.key) here.0.0 a.segment a.row few ls lr
          ∙ (ap tag_of same ∙ (sym tagged ∙ sym (tag_of_word sought.tag sought.freq sought.seg sought.row
          sought.freq_in_range sought.seg_in_range sought.row_in_range)))),
      ap (λ w. w % 2 ^ 44) is ∙ (place_of_word (tag_of a.key) here.0.0 a.segment a.row ls lr
          ∙ ((λ t. at.2.0 t * 2 ^ 20 + at.2.1 t) ∙ sym
          (place_of_word sought.tag sought.freq sought.seg sought.row sought.seg_in_range sought.row_in_range))),
    )

-- ---- the search

pub record Seeking (b : Board) (bucket : ℕ) (sought : Item) (first p : Pass) (place : Place) : Type 0 where
  pub idles : Idles b first p
  pub stored : IsStoredIn b bucket sought p
  pub chain : IsInChain b bucket place p
  pub ahead : IsAhead b.shape bucket sought.seg sought.row (position b.shape (trace p) place) (trace p)

pub seeking_first : (b : Board) (bucket : ℕ) (sought : Item) (p : Pass) → IsPassOf b p → IsStoredIn b bucket sought p → Seeking b bucket sought p p (record { bucket = bucket; word = 1 })
seeking_first b bucket sought p is stored =
    let z = b.shape in let place : Place = record { bucket = bucket; word = 1 } in
    let lt : bucket < z.buckets = stored.home.0 in
    let one : position z (trace p) place ≡ 1 = cond-true (ltb bucket z.buckets) 1 _ (lt-ltb bucket z.buckets lt) in record {
      idles = idles b p is;
      stored = stored;
      chain = begins_at b p bucket lt;
      ahead = subst (λ n. IsAhead z bucket sought.seg sought.row n (trace p)) (sym one)
          (⊎_elim
          (λ gone. inl gone)
          (λ there. inr (
            there.0,
            there.1,
            subst (λ k. RowAt z k sought.seg sought.row (trace p) there.0)
                (sym (stored.home.1 (bucket_of z stored.key) there.0 there.2)) there.2,
          ))
          (ahead_first z stored.key sought.seg sought.row (trace p) is.lawful stored.linked));
    }

pub stored_over : (b : Board) (bucket : ℕ) (sought : Item) (own : List Event) (p q : Pass) → AddsEvents b own p q
    → AreCalmIn sought.seg own → IsStoredIn b bucket sought p → IsStoredIn b bucket sought q
stored_over b bucket sought own p q m calm stored =
    let l : IsLawful b.shape (m.more ++ trace p) = subst (IsLawful b.shape) m.goes_on m.pass.lawful in
    let c : AreCalmIn sought.seg (own_of (number p) m.more) = subst (AreCalmIn sought.seg) (sym m.adds) calm in
    let there : (k n : ℕ) → RowAt b.shape k sought.seg sought.row (trace q) n → (bucket : ℕ) × (m : ℕ) × RowAt b.shape bucket sought.seg sought.row (trace p) m = λ k n at. ⊎_elim
    (λ gone. absurd (gone_over b own p q sought.seg sought.row m calm stored.own gone k n at.0 at.1 at.2.0 at.2.1))
    (λ on. (bucket_of b.shape stored.key, on.0, on.2))
    (ahead_first b.shape stored.key sought.seg sought.row (trace p) (lawful_before b.shape m.more (trace p) l) stored.linked) in record {
      key = stored.key;
      own = stored.own ∙ sym m.same;
      linked = ap (λ h. (row_after h sought.seg sought.row).linked) m.goes_on ∙ (own_linked b.shape m.more (trace p) (number p) sought.seg sought.row l c stored.own ∙ stored.linked);
      home = (stored.home.0, λ k n at. let was = there k n at in stored.home.1 was.0 was.1 was.2);
      tag = λ k n at. let was = there k n at in stored.tag was.0 was.1 was.2;
    }

-- a look at the word of the place
module _ (b : Board) (bucket : ℕ) (sought : Item) (first p q : Pass) (place : Place) (word : ℕ) (s : Seeking b bucket sought first p place) (look : Idles b p q)
    (tells : (k n : ℕ) → IsItemAt b.shape (trace q) k n (cell_at b.shape place) → IsWordOfContent ((bucket_after b.shape (trace q) k).items n) word) where
  abbrev z : Shape
  z = b.shape

  abbrev h : List Event
  h = trace q

  abbrev n : ℕ
  n = position z (trace q) place

  is : IsPassOf b q
  is = look.moved.pass

  pub idles_looked : Idles b first q
  idles_looked = idles_then b first p q s.idles look

  stored_looked : IsStoredIn b bucket sought q
  stored_looked = stored_over b bucket sought [] p q look.moved tt s.stored

  here : IsInChain b bucket place q
  here = chain_looked b bucket p q place word s.chain look tells

  same : position z (trace q) place ≡ position z (trace p) place
  same = same_looked b bucket p q place word s.chain look tells

  ahead_looked : IsAhead z bucket sought.seg sought.row n h
  ahead_looked = subst (λ m. IsAhead z bucket sought.seg sought.row m h) (sym same) (ahead_over b [] p q bucket sought.seg sought.row (position z (trace p) place) look.moved tt s.stored.own s.ahead)

  reads : IsWordOfContent ((bucket_after z h bucket).items n) word
  reads = reads_looked b bucket p q place word s.chain look tells

  -- it names the row
  pub named_here : IsSameItem word (item_word sought) → RowAt z bucket sought.seg sought.row h n
  named_here same' = names_row z h bucket n word sought is.valid is.lawful reads same'

  -- or it doesn't, and the chain goes on or ends
  module _ (following : Option Place) (other : ¬ (IsSameItem word (item_word sought))) (next : IsNext z place word following) where
    passed : IsAhead z bucket sought.seg sought.row (n + 1) h
    passed = ahead_passed z bucket sought.seg sought.row n h
        (names_no_row z h bucket n word sought stored_looked.key is.valid is.lawful stored_looked.linked
        stored_looked.tag reads other) ahead_looked

    -- what comes next is passed to
    ahead_to : (after : Place) → ComesNext b bucket p q place word s.chain look tells after → IsAhead z bucket sought.seg sought.row (position z h after) h
    ahead_to after on = ⊎_elim
        (λ one. subst (λ m. IsAhead z bucket sought.seg sought.row m h) (sym one) passed)
        (λ two. subst (λ m. IsAhead z bucket sought.seg sought.row m h) (sym two.0)
        (ahead_skipped z bucket sought.seg sought.row (n + 1) h is.lawful (let e = two.2 in omega (arith, e)) passed))
        on.at

    pub seeking_on : (after : Place) → following ≡ Some after → Seeking b bucket sought first q after
    seeking_on after is' = let on = onward b bucket p q place word s.chain look tells following next after is' in record {
      idles = idles_looked;
      stored = stored_looked;
      chain = on.there;
      ahead = ahead_to after on;
    }

    -- no word names the row
    pub gone_at_end : following ≡ None → RowGone z sought.seg sought.row h
    gone_at_end is' =
        let le : 7 ≤ place.word = ⊎_elim (λ lt. absurd (none-some (next_word place) (sym is' ∙ next.inner lt))) (λ x. x) (cases_lt place.word 7) in
        let nowhere = subst (λ o. MatchOption o (LeadsNowhere word) (LeadsTo z word)) is' (next.last le) in
        let w = here.in_table in let d = depth b bucket p q place word s.chain look tells in
        let e : n ≡ 8 * d.0 + 7 = omega (arith, d.1, le, w.2) in
        ahead_ended z bucket sought.seg sought.row d.0 h is.lawful
        (chain_ends z h bucket n d.0 word is.valid is.lawful e reads nowhere)
        (subst (λ m. IsAhead z bucket sought.seg sought.row m h) (let f : n + 1 ≡ 8 * d.0 + 8 =
        omega (arith, e) in f) passed)
