-- One scan for a value with its version: what is known once the item's word was looked at again, and what the scan comes to.
use Rattle.std.proofs.Common.{◌≡◌, ◌≢◌, ℕ, ◌+◌, ◌%◌, ◌^◌, ◌<◌, ◌≤◌, Bool, true, false, List, [], Some, None, refl, sym, ◌∙◌, subst, arith}
use Rattle.segword.specs.Words.{Info, IsSameItem, IsValid, item_word, Shape}
use Rattle.segword.specs.Words.{tag_part}
use Rattle.segmodel.specs.Words.{Begins, bucket_of, entries_of, tag_of}
use Rattle.segcore.specs.Event as event
use Rattle.segcore.specs.Words.{bucket_after, inside, IsLawful, IsSegment}
use Rattle.segcore.proofs.Moments.{begins_on, seen_begins}
use Rattle.segcore.proofs.Searches.{key_later}
use Rattle.segbase.specs.Words.{Board, Glances, number, Pass, Place, position, seen, sight}
use Rattle.segbase.specs.Words.{trace}
use Rattle.segbase.proofs.Moves.{moved_on, is_inside}
use Rattle.segstore.specs.Words.{segment_part, FoundItem, FoundKey, IsReader, IsReaderIn}
use Rattle.segstore.specs.Words.{IsNext, LeavesSegment, OnlyLooks, RaisesNothing, word_of_place}
use Rattle.segstore.proofs.Words.{same_place, chained_later}
use Rattle.segstore.proofs.Seconds.{segment_of_item}
use Rattle.segstore.proofs.Readers.{looks, reader_then, then_reader, leave_then}
use Rattle.segread.specs.declared.scan.Hit.{Hit}
use Rattle.segread.specs.Hits.{GlancesOnce}
use Rattle.segread.specs.Scanning.{HasDeadline, words_below, IsPlaceOf, ComesIn, CountsTries, AdvancesSearch, HasPassed, IsHit, IsEnded}
use Rattle.segread.specs.Gets.{Attempts, ReadsVersionBetween, HasNoBit, HasVersion, Disturbs, IsMissed, IsSeen, MovesOn}
use Rattle.segread.proofs.Answered.{gone_reads}
use Rattle.segread.proofs.Deadlines.{by_word, found_reads, found_expired}
use Rattle.segread.proofs.ComingIn.{StaysOut, LooksOnce, looked, leaves, glances_none, glances_one, glances_then, glance_once, once_then, out_then, scans_once, tries_out, at_most, attempts, attempts_once, attempts_out, attempts_at_most, word_more, words_few}
use Rattle.segread.proofs.Disturbing.{still_no_bit, glances_grow, set_reads, clear_reads, by_entries, by_bit}
use Rattle.segread.proofs.Hits.{key_on}
use Rattle.segread.proofs.OneMoment.{one_moment}
use Rattle.segread.proofs.Scans.{in_chain, place_later, hit_place, next_of, end_of}
use Rattle.segread.proofs.Tries.{has_tag, counts_later, hit_from, one_entry, passed_word}

-- with p the pass before the scan, q in the item's segment, g after the look at the information, and l after the third look
module _ (b : Board) (key : List ℕ) (now from tries : ℕ) (hit : Hit) (info : Info) (third : ℕ)
    (p q g l : Pass) (valid : IsValid b.shape) (few : b.shape.first_version < 2 ^ 32)
    (free : HasNoBit b.shape key p)
    (scan : IsReaderIn b p q hit.item.seg) (x : IsHit b.shape key from tries hit p q)
    (glance : Glances b (bucket_of b.shape key) info q g) (plain : g.plain ≡ q.plain) (memo : (sight g).memo ≡ (sight q).memo)
    (version : info.version ≡ (b.shape.first_version +
    (bucket_after b.shape (trace g) (bucket_of b.shape key)).version) % 2 ^ 32) (look : OnlyLooks b g l)
    (stands : third ≡ word_of_place b.shape (trace l) hit.place) (before : now < hit.deadline) where
  abbrev z : Shape
  z = b.shape

  abbrev c : ℕ
  c = bucket_of b.shape key

  abbrev value : List ℕ
  value = x.found.value

  found_q : FoundItem z hit.place (item_word hit.item) key value (trace p) (trace q)
  found_q = x.found.found

  there : 0 < inside (trace q) (number q) hit.item.seg
  there = is_inside b p q hit.item.seg scan.reads

  deadline_q : HasDeadline z (segment_part (item_word hit.item)) hit.deadline (trace q)
  deadline_q = by_word z hit.item hit.deadline (trace q) x.deadline

  still_free : HasNoBit z key q
  still_free = still_no_bit b key scan.reads.own p q scan.reads.moved scan.reads.only free

  glance_by : (held : Bool) → info.held ≡ held → IsReader b q g
  glance_by true is = (set_reads b key q g info valid still_free glance is plain memo).0
  glance_by false is = (clear_reads b c q g info glance is plain memo).0

  at_g : IsReader b q g
  at_g = glance_by info.held refl

  at_l : IsReader b g l
  at_l = looks b g l look

  from_q : IsReader b q l
  from_q = reader_then b q g l at_g at_l

  in_l : IsReaderIn b p l hit.item.seg
  in_l = then_reader b p q l hit.item.seg scan from_q

  lawful : IsLawful z (trace l)
  lawful = in_l.reads.moved.pass.lawful

  up : Begins (trace p) (trace q)
  up = moved_on b scan.reads.own p q scan.reads.moved

  on : Begins (trace q) (trace l)
  on = moved_on b from_q.reads.own q l from_q.reads.moved

  at_q : IsPlaceOf z (trace q) key hit.place
  at_q = hit_place z key from tries hit p q scan.reads.moved.pass.lawful x

  same_at : position z (trace q) hit.place ≡ position z (trace l) hit.place
  same_at = sym (same_place z (trace q) (trace l) hit.place lawful on at_q.0).1

  once : LooksOnce q l
  once = once_then q g l (glance_once b c info q g glance) (looked b g l look.did.moved)

  -- the bit was clear
  out : info.held ≡ false → StaysOut q l
  out clear = out_then q g l (looked b q g (glance.0 clear).0.moved) (looked b g l look.did.moved)

  -- another item came in since this one stood
  one_more : ¬ (IsSameItem (item_word hit.item) third) → 1 ≤ tag_part third → CountsTries z key tries (hit.tries + 1) (trace p) (trace l)
  one_more ne tag =
      let saw = x.found.found.saw in
      let more = one_entry z hit.place (item_word hit.item) third saw.at (trace l) valid saw.was.lawful lawful
      (begins_on saw.at (trace q) (trace l) saw.between.1 on) saw.was.chained saw.was.stood (sym stands)
      (has_tag hit.item) tag ne in
      let more' : entries_of z c (event.seen saw.at) + 1 ≤ entries_of z c (seen l) = subst (λ n. entries_of z n (event.seen saw.at) + 1 ≤ entries_of z n (seen l)) (sym saw.was.here.0) more in
      let counted = x.counted in omega (arith, more', counted)

  found_l : info.held ≡ false → FoundKey z hit.place hit.item hit.header key (trace p) (trace l)
  found_l clear = key_on b g l hit.place hit.item hit.header key (trace p) (is_inside b p g hit.item.seg (then_reader b p q g hit.item.seg scan at_g).reads) look.did.moved
      (key_on b q g hit.place hit.item hit.header key (trace p) there (glance.0 clear).0.moved x.found)

  one_version : info.held ≡ false → IsSameItem (item_word hit.item) third → ReadsVersionBetween z key now (seen p) (seen l) (Some (value, info.version))
  one_version clear same = let i = clear_reads b c q g info glance clear plain memo in (
    seen g,
    (
      seen_begins (trace p) (trace g) (begins_on (trace p) (trace q) (trace g) up (moved_on b at_g.reads.own q g at_g.reads.moved)),
      seen_begins (trace g) (trace l) (moved_on b at_l.reads.own g l at_l.reads.moved),
    ),
    one_moment b p q g l hit.place (item_word hit.item) third key value now info.version hit.deadline deadline_q before few valid found_q
        (subst (λ s. 0 < inside (trace q) (number q) s) (segment_of_item hit.item) there) at_g at_l
        (chained_later z (trace q) (trace l) hit.place lawful on at_q.0) (sym stands) same i.1 version,
  )

  pub is_seen : IsSeen b key now from tries hit info third p l
  unfolding found_l key_on
  is_seen = record {
    reads = in_l;
    in_table = subst (IsSegment z) (sym (segment_of_item hit.item)) found_q.saw.was.in_segment.0;
    few = x.few;
    up = x.up;
    glances = glances_one p q l x.tried.only_scans once;
    unset = λ clear bucket. glances_none q l (out clear).1 bucket ∙ glances_none p q x.tried.only_scans bucket;
    place = place_later z key hit.place (trace q) (trace l) lawful on at_q;
    tried = subst (λ n. Attempts from n tries (hit.tries + 1) p l) same_at (attempts_once from (position z (trace q) hit.place) tries hit.tries p q l x.tried once);
    onward = subst (λ n. words_below from + tries ≤ words_below n + hit.tries) same_at x.onward;
    brings = subst (λ n. AdvancesSearch z key from n (trace p) (trace l)) same_at
        (λ start here ahead. key_later z key (position z (trace q) hit.place) start (trace q) (trace l) lawful
        (begins_on start (trace p) (trace q) here up) on (x.brings start here ahead));
    counted = counts_later z key tries hit.tries (trace p) x.found.found.saw.at (trace l) (begins_on x.found.found.saw.at (trace q) (trace l) x.found.found.saw.between.1 on) x.counted;
    stood = (
      value,
      found_reads z hit.place (item_word hit.item) key value (trace p) (trace q) found_q hit.deadline
          deadline_q (trace l) on now before,
    );
    stands = stands;
    glanced = λ held. let one = (set_reads b key q g info valid still_free glance held plain memo).1 in
        let before = glances_grow b scan.reads.own p q c scan.reads.moved in
        let after = glances_grow b at_l.reads.own g l c at_l.reads.moved in
        omega (arith, one, before, after);
    changed = one_more;
    found = found_l;
    version = one_version;
  }

-- the chain ended
pub ends_missed : (b : Board) (key : List ℕ) (now from tries : ℕ) (p q : Pass) → IsEnded b.shape key from tries p q → IsMissed b.shape key now from tries p q
ends_missed b key now from tries p q x = record {
  missed =
      λ start here ahead. gone_reads b.shape key now start (trace q) (x.gone start here ahead);
  tried = attempts from 32 tries 63 p q x.tried;
  glances = scans_once p q x.tried.only_scans;
}

-- the deadline of what was found had come, and the pass left the segment
pub expires_missed : (b : Board) (key : List ℕ) (now from tries : ℕ) (hit : Hit) (p q r : Pass)
    → IsReaderIn b p q hit.item.seg → IsHit b.shape key from tries hit p q → LeavesSegment b q r hit.item.seg
    → hit.deadline ≤ now
    → IsReader b p r × IsMissed b.shape key now from tries p r
expires_missed b key now from tries hit p q r i x gone past =
    let z = b.shape in
    let at = position z (trace q) hit.place in
    let chained = (in_chain z (trace q) hit.place i.reads.moved.pass.lawful (hit_place z key from tries hit p q i.reads.moved.pass.lawful x).0).1 in
    let read = found_expired z hit.place (item_word hit.item) key x.found.value (trace p) (trace q) x.found.found
    hit.deadline (by_word z hit.item hit.deadline (trace q) x.deadline) (trace r) (moved_on b _ q r gone.moved)
    now past in (
      leave_then b p q r hit.item.seg i gone,
      record {
        missed = λ start here ahead. (read.0, (begins_on (event.seen start) (seen p) read.0 (seen_begins start (trace p) here) read.1.0, read.1.1), read.2);
        tried = attempts from 32 tries 63 p r (at_most from at 32 tries (hit.tries + 1) 63 p r (let few = x.few in
            let most = words_few at chained in omega (arith, few, most))
            (tries_out from at tries (hit.tries + 1) p q r x.tried (leaves b hit.item.seg q r gone.moved)));
        glances = glances_then p q r (scans_once p q x.tried.only_scans) (leaves b hit.item.seg q r gone.moved);
      },
    )

-- with l after the third look, and r after it left the segment
module _ (b : Board) (key : List ℕ) (now from tries : ℕ) (hit : Hit) (info : Info) (third : ℕ)
    (p l r : Pass) (s : IsSeen b key now from tries hit info third p l)
    (gone : LeavesSegment b l r hit.item.seg) where
  pub left : IsReader b p r
  left = leave_then b p l r hit.item.seg s.reads gone

  out_r : StaysOut l r
  out_r = leaves b hit.item.seg l r gone.moved

  lawful_r : IsLawful b.shape (trace r)
  lawful_r = left.reads.moved.pass.lawful

  to_l : Begins (trace p) (trace l)
  to_l = moved_on b s.reads.reads.own p l s.reads.reads.moved

  to_r : Begins (trace l) (trace r)
  to_r = moved_on b _ l r gone.moved

  same_r : position b.shape (trace l) hit.place ≡ position b.shape (trace r) hit.place
  same_r = sym (same_place b.shape (trace l) (trace r) hit.place lawful_r to_r s.place.0).1

  -- from its place, with a try more
  again : Disturbs b.shape key now tries (hit.tries + 1) p r → MovesOn b.shape key now from tries hit.place (hit.tries + 1) p r
  again disturbs = record {
    few = let few = s.few in omega arith;
    place = place_later b.shape key hit.place (trace l) (trace r) lawful_r to_r s.place;
    disturbs = disturbs;
    tried = subst (λ n. Attempts from n tries (hit.tries + 1) p r) same_r (attempts_out from (position b.shape (trace l) hit.place) tries (hit.tries + 1) p l r s.tried out_r);
    glances = λ bucket. let one = glances_then p l r s.glances out_r bucket in let up = s.up in omega arith;
    brings = subst (λ n. AdvancesSearch b.shape key from n (trace p) (trace r)) same_r
        (λ start here ahead. key_later b.shape key (position b.shape (trace l) hit.place) start (trace l) (trace r)
        lawful_r (begins_on start (trace p) (trace l) here to_l) to_r (s.brings start here ahead));
    onward = let on = s.onward in omega (arith, on, same_r);
  }

  pub again_held : info.held ≡ true → MovesOn b.shape key now from tries hit.place (hit.tries + 1) p r
  again_held held = again (by_bit b key now tries hit.tries p r left (counts_later b.shape key tries hit.tries (trace p) (trace l) (trace r) to_r s.counted)
      (let one = s.glanced held in let more = glances_grow b _ l r (bucket_of b.shape key) gone.moved in omega (arith, one, more))
      (let stood = s.stood in let at = stood.1 in (stood.0, (at.0, (at.1.0, begins_on at.0 (seen l) (seen r) at.1.1 (seen_begins (trace l) (trace r) to_r)), at.2))))

  pub again_changed : ¬ (IsSameItem (item_word hit.item) third) → 1 ≤ tag_part third → MovesOn b.shape key now from tries hit.place (hit.tries + 1) p r
  again_changed ne tag = again (by_entries b key now tries (hit.tries + 1) p r left (counts_later b.shape key tries (hit.tries + 1) (trace p) (trace l) (trace r) to_r (s.changed ne tag)))

  -- past it, where no item with the tag stood there
  module _ (valid : IsValid b.shape) (tag : ℕ) (is : tag ≡ tag_of key) (other : tag_part third ≢ tag) (clear : info.held ≡ false) where
    abbrev at : ℕ
    at = position b.shape (trace l) hit.place

    passed : HasPassed b.shape key at (at + 1) hit.place third (trace l) (trace r)
    passed = passed_word b.shape key hit.place third tag (trace l) (trace l) (trace r) valid s.place ([], refl)
        (record {
          at = trace l;
          between = (([], refl), to_r);
          lawful = s.reads.reads.moved.pass.lawful;
          stood = sym s.stands;
        }) is other

    in' : (0 < at % 8) × (at < 32)
    in' = in_chain b.shape (trace l) hit.place s.reads.reads.moved.pass.lawful s.place.0

    pub goes_past : (next : Place) → IsNext b.shape hit.place third (Some next) → MovesOn b.shape key now from tries next hit.tries p r
    goes_past next after =
        let n = next_of b.shape key hit.place at third (trace l) (trace r) valid lawful_r s.place passed next after in
        let words : words_below (position b.shape (trace r) next) ≡ words_below at + 1 = sym n.words ∙ word_more at in'.0 in record {
          few = let few = s.few in omega arith;
          place = n.place;
          disturbs = by_entries b key now tries hit.tries p r left (counts_later b.shape key tries hit.tries (trace p) (trace l) (trace r) to_r s.counted);
          tried = attempts_at_most from at (position b.shape (trace r) next) tries (hit.tries + 1) hit.tries p r
              (omega (arith, words)) (attempts_out from at tries (hit.tries + 1) p l r s.tried out_r);
          glances = λ bucket. let none = s.unset clear bucket in let left = glances_none l r out_r.1 bucket in let up = s.up in omega arith;
          brings = λ start here ahead. n.brings start (begins_on start (trace p) (trace l) here to_l) (s.brings start here ahead);
          onward = let on = s.onward in omega (arith, on, words);
        }

    pub past_words : (next : Place) → IsNext b.shape hit.place third (Some next) → words_below (position b.shape (trace r) hit.place) ≤ words_below (position b.shape (trace r) next)
    past_words next after =
        let n = next_of b.shape key hit.place at third (trace l) (trace r) valid lawful_r s.place passed next after in
        let words : words_below (position b.shape (trace r) next) ≡ words_below at + 1 = sym n.words ∙ word_more at in'.0 in
        subst (λ k. words_below k ≤ words_below (position b.shape (trace r) next)) same_r (omega (arith, words))

    pub ends_past : IsNext b.shape hit.place third None → IsMissed b.shape key now from tries p r
    ends_past after = record {
      missed = λ start here ahead. gone_reads b.shape key now start (trace r)
          (end_of b.shape key hit.place at third (trace l) (trace r) valid lawful_r s.place passed after start (begins_on start (trace p) (trace l) here to_l) (s.brings start here ahead));
      tried = attempts_at_most from at 32 tries (hit.tries + 1) 63 p r (let few = s.few in
          let most = words_few at in'.1 in omega (arith, few, most))
          (attempts_out from at tries (hit.tries + 1) p l r s.tried out_r);
      glances = glances_then p l r s.glances out_r;
    }

-- a hit: with l after the third look
pub hit_told : (b : Board) (key : List ℕ) (now from tries : ℕ) (hit : Hit) (info : Info) (third : ℕ) (p l : Pass)
    → IsSeen b key now from tries hit info third p l → info.held ≡ false → IsSameItem (item_word hit.item) third
    → IsReaderIn b p l hit.item.seg × HasVersion b key now hit info.version p l × ComesIn from 32 tries 63 p l
    × GlancesOnce p l
hit_told b key now from tries hit info third p l s clear same = (
  s.reads,
  record { found = s.found clear; told = s.version clear same; raises_nothing = s.tried.raises_nothing },
  (let few = s.few in let came = s.tried.comes_in in
      let most = words_few (position b.shape (trace l) hit.place)
      (in_chain b.shape (trace l) hit.place s.reads.reads.moved.pass.lawful s.place.0).1 in
      omega (arith, few, came, most)),
  s.glances,
)

-- the same from an earlier moment on
pub version_from : (b : Board) (key : List ℕ) (now : ℕ) (hit : Hit) (version : ℕ) (p m q : Pass) → Begins (trace p) (trace m) → RaisesNothing p m
    → HasVersion b key now hit version m q → HasVersion b key now hit version p q
version_from b key now hit version p m q up none x = record {
  found = hit_from b.shape hit.place hit.item hit.header key (trace m) (trace q) (trace p) up x.found;
  told = (x.told.0, (begins_on (seen p) (seen m) x.told.0 (seen_begins (trace p) (trace m) up) x.told.1.0, x.told.1.1), x.told.2);
  raises_nothing = x.raises_nothing ∙ none;
}
