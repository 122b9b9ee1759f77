-- Looks at the words of a chain in turn, and what comes after each: the next word, or the next bucket, or the chain's end.
use Rattle.std.proofs.Common.{◌≡◌, ◌≢◌, ℕ, ◌+◌, ◌-◌, ◌*◌, ◌%◌, ◌^◌, ◌<◌, ◌≤◌, Bool, true, false, cond, ltb, ◌⊎◌, List, [], Some, None, refl, sym, ap, ◌∙◌, subst, inl, inr, ⊎_elim, arith}
use Rattle.std.proofs.lemmas.Bool.{cases_lt, lt-ltb, le-ltb}
use Rattle.std.proofs.lemmas.Option.{none-some, same_Some}
use Rattle.segword.specs.Words.{chain_word, IsChainWord, IsValid, Item, Shape}
use Rattle.segmodel.specs.Words.{Begins, bucket_of}
use Rattle.segcore.specs.declared.cell.Cell.TheVariants.{OfBucket, OfOverflow}
use Rattle.segcore.specs.Words.{bucket_after, Cell, Event, home, home_of, IsAt, IsItemAt, IsLawful}
use Rattle.segcore.specs.Words.{KeyAhead, KeyGone, WasGone}
use Rattle.segcore.proofs.Moments.{begins_on}
use Rattle.segcore.proofs.Limits.{bucket_in, few_drawn}
use Rattle.segcore.proofs.Chains.{chain_of}
use Rattle.segcore.proofs.ChainWords.{leads_on, ends_there}
use Rattle.segcore.proofs.Searches.{key_first, key_later, key_skipped, key_ended}
use Rattle.segbase.specs.Words.{Board, cell_at, depth_of, home_bucket, IsPassOf, IsPlace, Pass}
use Rattle.segbase.specs.Words.{Place, position, trace}
use Rattle.segbase.proofs.Moves.{moved_on}
use Rattle.segstore.specs.Words.{FoundKey, IsChained, IsNext, IsReader, IsReaderIn, next_word, word_of_place}
use Rattle.segstore.proofs.Words.{at_place, same_place, chained_later}
use Rattle.segstore.proofs.Readers.{stays, reader_then, enter_then}
use Rattle.segread.specs.declared.scan.Hit.{Hit}
use Rattle.segread.specs.declared.scan.Scan.{Scan}
use Rattle.segread.specs.declared.scan.Scan.TheVariants.{Found, Passed, Busy}
use Rattle.segread.specs.Scanning.{HasDeadline, place_of, words_below, IsPlaceOf, IsScanner, IsTry, ComesIn, Tries, CountsTries, AdvancesSearch, HasPassed, IsHit, IsPast, GivesUp, IsEnded, IsWay, IsScanFrom, IsScanAnswer}
use Rattle.segread.specs.Hits.{OnlyScans, TriesFew}
use Rattle.segread.proofs.ComingIn.{tries_none, tries_once, tries_then, at_most, word_more, words_few, words_most}
use Rattle.segread.proofs.Tries.{Trying, hit_from, word_wider, counts_none, counts_later, counts_then}

-- ---- places of a chain

-- how deep in its chain a bucket is
abbrev bucket_depth : Shape → List Event → ℕ → ℕ
bucket_depth z h bucket = cond (ltb bucket z.buckets) 0 (depth_of (home_of h (bucket - z.buckets)))

position_cases : (t : Bool) (w d : ℕ) → (let n : ℕ = cond t w (8 * d + w) in n) ≡ 8 * (let m : ℕ = cond t 0 d in m) + w
position_cases true w d = omega arith
position_cases false w d = refl

pub at_depth : (z : Shape) (h : List Event) (place : Place) → position z h place ≡ 8 * bucket_depth z h place.bucket + place.word
at_depth z h place = position_cases (ltb place.bucket z.buckets) place.word (depth_of (home_of h (place.bucket - z.buckets)))

-- a word at a position of the key's chain
place_at : (z : Shape) (key : List ℕ) (place : Place) (n : ℕ) (h : List Event) → IsPlace z place
    → IsItemAt z h (bucket_of z key) n (cell_at z place) → IsPlaceOf z h key place × (position z h place ≡ n)
place_at z key place n h within is = let e = at_place z h (bucket_of z key) n place is.1 in (
  (record { in_table = within; at = subst (λ b. IsItemAt z h b (position z h place) (cell_at z place)) (sym e.0) (subst (λ m. IsItemAt z h (bucket_of z key) m (cell_at z place)) (sym e.1) is) }, e.0),
  e.1,
)

-- the one that the chain begins with
pub first_place : (z : Shape) (key : List ℕ) (bucket : ℕ) (h : List Event) → IsValid z → bucket ≡ bucket_of z key → IsPlaceOf z h key (place_of bucket 1) × (position z h (place_of bucket 1) ≡ 1)
first_place z key bucket h v is =
    let lt = bucket_in z key v in
    let t : ltb bucket z.buckets ≡ true = let lt' : bucket < z.buckets = omega arith in lt-ltb bucket z.buckets lt' in
    place_at z key (place_of bucket 1) 1 h ((omega arith), (omega arith), (omega arith)) (((omega arith), (omega arith)), rw t (is, refl, (omega arith)))

-- the next word of the same bucket
pub inner_next : (z : Shape) (place : Place) (w : ℕ) → place.word < 7 → IsNext z place w (Some (next_word place))
inner_next z place w lt = record { inner = λ more. refl; last = λ seven. absurd (omega arith) }

-- the one that a chain word leads to
chained_place : (z : Shape) (key : List ℕ) (depth number : ℕ) (h : List Event) → number < z.overflow
    → depth < (bucket_after z h (bucket_of z key)).chained
    → home_of h number ≡ Some (home (bucket_of z key) (depth + 1))
    → IsPlaceOf z h key (place_of (z.buckets + number) 1) × (position z h (place_of (z.buckets + number) 1) ≡ 8 * (depth + 1) + 1)
chained_place z key depth number h few in' of =
    let t : ltb (z.buckets + number) z.buckets ≡ false = le-ltb (z.buckets + number) z.buckets (omega arith) in
    let e : z.buckets + number - z.buckets ≡ number = omega arith in
    place_at z key (place_of (z.buckets + number) 1) (8 * (depth + 1) + 1) h (
      (omega arith),
      (omega arith),
      (omega arith),
    ) (((omega arith), (omega arith)), rw (t, e) (depth + 1, of, refl, (omega arith)))

other_cases : (z : Shape) (h : List Event) (b n bucket w other : ℕ) (t : Bool) → IsAt h b n (cond t (OfBucket bucket w) (OfOverflow (bucket - z.buckets) w)) → other < 8
    → IsAt h b (8 * (let d : ℕ = cond t 0 (depth_of (home_of h (bucket - z.buckets))) in d) + other) (cond t (OfBucket bucket other) (OfOverflow (bucket - z.buckets) other))
other_cases z h b n bucket w other true at few = (at.0, omega arith, few)
other_cases z h b n bucket w other false at few = (at.0, at.1, ap (λ o. 8 * depth_of o + other) at.1, few)

-- another word of the same bucket
other_word : (z : Shape) (key : List ℕ) (place : Place) (w : ℕ) (h : List Event) → IsPlaceOf z h key place → 0 < w
    → w < 8 → IsItemAt z h (bucket_of z key) (8 * bucket_depth z h place.bucket + w)
    (cell_at z (place_of place.bucket w))
other_word z key place w h of low high =
    let e = at_depth z h place in let most = of.0.in_table.2 in
    let at : IsItemAt z h (bucket_of z key) (position z h place) (cell_at z place) = subst (λ b. IsItemAt z h b (position z h place) (cell_at z place)) of.1 of.0.at in
    let within = at.0.0 in ((omega arith, omega arith), other_cases z h (bucket_of z key) (position z h place) place.bucket place.word w (ltb place.bucket z.buckets) at.1 high)

other_place : (z : Shape) (key : List ℕ) (place : Place) (w : ℕ) (h : List Event) → IsPlaceOf z h key place → 0 < w
    → w < 8 → IsPlaceOf z h key (place_of place.bucket w)
    × (position z h (place_of place.bucket w) ≡ 8 * bucket_depth z h place.bucket + w)
other_place z key place w h of low high = place_at z key (place_of place.bucket w) (8 * bucket_depth z h place.bucket + w) h (of.0.in_table.0, low, high) (other_word z key place w h of low high)

-- its last word is a place of the chain, and stays at its position
pub last_of : (b : Board) (key : List ℕ) (place : Place) (p q : Pass) → IsReader b p q → IsPlaceOf b.shape (trace p) key place
    → IsPlaceOf b.shape (trace p) key (place_of place.bucket 7) × (position b.shape (trace q) (place_of place.bucket 7) ≡ position b.shape (trace p) (place_of place.bucket 7))
last_of b key place p q i of = let z = b.shape in
    let last = other_place z key place 7 (trace p) of (omega arith) (omega arith) in
    (last.0, (same_place z (trace p) (trace q) (place_of place.bucket 7) i.reads.moved.pass.lawful (moved_on b i.reads.own p q i.reads.moved) last.0.0).1)

-- no chain is longer
pub in_chain : (z : Shape) (h : List Event) (place : Place) → IsLawful z h → IsChained z h place → (0 < position z h place % 8) × (position z h place < 32)
in_chain z h place l c = let within = c.at.0.0 in let short = (chain_of z h l (home_bucket z h place)).short in (c.at.0.1, omega arith)

-- the place is still one of the key's chain
pub place_later : (z : Shape) (key : List ℕ) (place : Place) (h g : List Event) → IsLawful z g → Begins h g → IsPlaceOf z h key place → IsPlaceOf z g key place
place_later z key place h g l up of = (chained_later z h g place l up of.0, (same_place z h g place l up of.0).0 ∙ of.1)

-- ---- one look after another

pub scan_later : (b : Board) (w : Scan) (p q r : Pass) → IsReader b p q → IsScanner b w q r → IsScanner b w p r
scan_later b (Found hit) p q r i j = enter_then b p q r hit.item.seg i j
scan_later b (Passed word tries) p q r i j = reader_then b p q r i j
scan_later b Busy p q r i j = reader_then b p q r i j

passed_then : (z : Shape) (key : List ℕ) (from mid to : ℕ) (place : Place) (w : ℕ) (h g f : List Event) → Begins h g
    → AdvancesSearch z key from mid h g → HasPassed z key mid to place w g f → HasPassed z key from to place w h f
passed_then z key from mid to place w h g f up b p = record {
  last = word_wider z place w g f h f up ([], refl) p.last;
  brings = λ start s ahead. p.brings start (begins_on start h g s up) (b start s ahead);
}

-- ---- at one word

-- a word that wasn't the key's is passed
pub word_passed : (at some more : ℕ) (p q : Pass) → 0 < at % 8 → Tries at at some more p q → Tries at (at + 1) some more p q
word_passed at some more p q in' i = at_most at at (at + 1) some more more p q (let e = word_more at in' in omega (arith, e)) i

-- also one at which it came into a segment
pub word_tried : (at some count : ℕ) (p q r : Pass) → 0 < at % 8 → Tries at at some count p q → IsTry q r → Tries at (at + 1) some count p r
word_tried at some count p q r in' i once = at_most at at (at + 1) some (count + 1) count p r (let e = word_more at in' in omega (arith, e)) (tries_once at at some count p q r i once)

-- all tries were counted there
pub word_given_up : (at some count : ℕ) (p q : Pass) → at < 32 → count ≤ 64 → Tries at at some count p q → Tries at 32 some 63 p q
word_given_up at some count p q in' few i = at_most at at 32 some count 63 p q (let e = words_few at in' in omega (arith, e, few)) i

-- with p the pass before the looks at a word, q before the last try, and r in the item's segment
pub hit_here : (b : Board) (key : List ℕ) (place : Place) (seen item : Item) (header deadline tries count : ℕ)
    (p q r : Pass) → IsPlaceOf b.shape (trace p) key place → IsReader b p q → IsReaderIn b p r item.seg → count < 64
    → Tries (position b.shape (trace p) place) (position b.shape (trace p) place) tries count p q
    → Trying b.shape key place tries seen count (trace p) (trace q) → IsTry q r
    → FoundKey b.shape place item header key (trace q) (trace r)
    → HasDeadline b.shape item.seg deadline (trace r)
    → IsHit b.shape key (position b.shape (trace p) place) tries (record { place = place; item = item; header = header; deadline = deadline; tries = count }) p r
hit_here b key place seen item header deadline tries count p q r of i j few tried y once found told =
    let z = b.shape in let m = moved_on b j.reads.own p r j.reads.moved in let up = moved_on b i.reads.own p q i.reads.moved in
    let e : position z (trace p) place ≡ position z (trace r) place = sym (same_place z (trace p) (trace r) place j.reads.moved.pass.lawful m of.0).1 in record {
      found = hit_from z place item header key (trace q) (trace r) (trace p) up found;
      deadline = told;
      few = few;
      up = let on = tried.onward in omega arith;
      counted = counts_later z key tries count (trace p) y.saw.at found.found.saw.at (begins_on y.saw.at (trace q) found.found.saw.at y.saw.between.1 found.found.saw.between.0) y.counted;
      onward = let on = tried.onward in omega (arith, on, e);
      tried = subst (λ n. Tries (position z (trace p) place) n tries (count + 1) p r) e (tries_once (position z (trace p) place) (position z (trace p) place) tries count p q r tried once);
      brings = subst (λ n. AdvancesSearch z key (position z (trace p) place) n (trace p) (trace r)) e
          (λ start here ahead. key_later z key (position z (trace p) place) start (trace p) (trace r)
          j.reads.moved.pass.lawful here m ahead);
    }

-- looks from one position up to another: none of the words was the key's
pub record HasScanned (b : Board) (key : List ℕ) (from to some more : ℕ) (p q : Pass) : Type 0 where
  pub reads : IsReader b p q
  pub few : more < 64
  pub up : some ≤ more
  pub counted : CountsTries b.shape key some more (trace p) (trace q)
  pub tried : Tries from to some more p q
  pub brings : AdvancesSearch b.shape key from to (trace p) (trace q)

pub scanned_none : (b : Board) (key : List ℕ) (at tries : ℕ) (p : Pass) → IsPassOf b p → tries < 64 → HasScanned b key at at tries tries p p
scanned_none b key at tries p is few = record {
  reads = stays b p is;
  few = few;
  up = omega arith;
  counted = counts_none b.shape key tries (trace p) (trace p) ([], refl);
  tried = tries_none at tries p;
  brings = λ start s ahead. ahead;
}

-- the place after one that was passed, at which a search may go on
pub record CanGoOn (z : Shape) (key : List ℕ) (from after : ℕ) (next : Place) (g f : List Event) : Type 0 where
  pub place : IsPlaceOf z f key next
  pub brings : AdvancesSearch z key from (position z f next) g f
  pub words : words_below after ≡ words_below (position z f next)
  pub on : after ≤ position z f next

module _ (b : Board) (key : List ℕ) (from mid some tries : ℕ) (p q r : Pass) (s : HasScanned b key from mid some tries p q) where
  up : Begins (trace p) (trace q)
  up = moved_on b s.reads.reads.own p q s.reads.reads.moved

  pub scanned_next : (after counted : ℕ) (last next : Place) (w : ℕ) → IsReader b q r
      → IsPast b.shape key mid after tries counted last w q r
      → CanGoOn b.shape key mid after next (trace q) (trace r)
      → HasScanned b key from (position b.shape (trace r) next) some counted p r
  scanned_next after counted last next w i x n = record {
    reads = reader_then b p q r s.reads i;
    few = x.few;
    up = let before = s.up in let more = x.up in omega arith;
    counted = counts_then b.shape key some tries counted (trace p) (trace q) (trace r) s.counted x.counts;
    tried = at_most from after (position b.shape (trace r) next) some counted counted p r (let e = n.words in omega (arith, e)) (tries_then from mid after some tries counted p q r s.tried x.tried);
    brings = λ start here ahead. n.brings start (begins_on start (trace p) (trace q) here up) (s.brings start here ahead);
  }

  pub ended_then : (after counted : ℕ) (last : Place) (w : ℕ) → after ≤ 32 → IsPast b.shape key mid after tries counted last w q r
      → ((start : List Event) → Begins start (trace q) → KeyAhead b.shape key mid start (trace q) → WasGone (KeyGone b.shape key) start (trace r)) → IsEnded b.shape key from some p r
  ended_then after counted last w most x gone = record {
    gone = λ start here ahead. gone start (begins_on start (trace p) (trace q) here up) (s.brings start here ahead);
    tried = at_most from after 32 some counted 63 p r (let few = x.few in let e = words_most after most in omega (arith, few, e)) (tries_then from mid after some tries counted p q r s.tried x.tried);
  }

  pub hit_then : (hit : Hit) → IsHit b.shape key mid tries hit q r → IsHit b.shape key from some hit p r
  hit_then hit x = record {
    found = hit_from b.shape hit.place hit.item hit.header key (trace q) (trace r) (trace p) up x.found;
    deadline = x.deadline;
    few = x.few;
    up = let before = s.up in let more = x.up in omega arith;
    counted = counts_then b.shape key some tries hit.tries (trace p) (trace q) x.found.found.saw.at s.counted x.counted;
    tried = tries_then from mid (position b.shape (trace r) hit.place) some tries (hit.tries + 1) p q r s.tried x.tried;
    onward = let before = s.tried.onward in let on = x.onward in omega arith;
    brings = λ start here ahead. x.brings start (begins_on start (trace p) (trace q) here up) (s.brings start here ahead);
  }

  pub gives_up_then : GivesUp b.shape key mid tries q r → GivesUp b.shape key from some p r
  gives_up_then x = record {
    counts = counts_then b.shape key some tries 64 (trace p) (trace q) (trace r) s.counted x.counts;
    tried = tries_then from mid 32 some tries 63 p q r s.tried x.tried;
  }

  pub way_then : (to : ℕ) (last : Place) (w : Scan) → IsWay b.shape key mid to last tries w q r → IsWay b.shape key from to last some w p r
  way_then to last (Found hit) x = hit_then hit x
  way_then to last (Passed word counted) x = record {
    few = x.few;
    up = let before = s.up in let more = x.up in omega arith;
    counts = counts_then b.shape key some tries counted (trace p) (trace q) (trace r) s.counted x.counts;
    tried = tries_then from mid to some tries counted p q r s.tried x.tried;
    passed = passed_then b.shape key from mid to last word (trace p) (trace q) (trace r) up s.brings x.passed;
  }
  way_then to last Busy x = gives_up_then x

-- looks that ended before the last place
pub way_else : (z : Shape) (key : List ℕ) (from to to' : ℕ) (last last' : Place) (tries : ℕ) (w : Scan) (p q : Pass)
    → ((word counted : ℕ) → w ≢ Passed word counted) → IsWay z key from to last tries w p q
    → IsWay z key from to' last' tries w p q
way_else z key from to to' last last' tries (Found hit) p q ne x = x
way_else z key from to to' last last' tries (Passed word counted) p q ne x = absurd (ne word counted refl)
way_else z key from to to' last last' tries Busy p q ne x = x

-- looks that ended before the chain did
pub scan_else : (z : Shape) (key : List ℕ) (from to : ℕ) (last : Place) (tries : ℕ) (w : Scan) (p q : Pass)
    → ((word counted : ℕ) → w ≢ Passed word counted) → IsWay z key from to last tries w p q
    → IsScanFrom z key from tries w p q
scan_else z key from to last tries (Found hit) p q ne x = x
scan_else z key from to last tries (Passed word counted) p q ne x = absurd (ne word counted refl)
scan_else z key from to last tries Busy p q ne x = x

-- ---- the place after one that was passed

-- with g before it was passed, and f after that
module _ (z : Shape) (key : List ℕ) (place : Place) (from w : ℕ) (g f : List Event) (v : IsValid z)
    (l : IsLawful z f) (of : IsPlaceOf z g key place)
    (p : HasPassed z key from (position z g place + 1) place w g f) where
  abbrev at : List Event
  at = p.last.at

  abbrev after : ℕ
  after = position z g place + 1

  to_now : Begins g f
  to_now = begins_on g p.last.at f p.last.between.0 p.last.between.1

  there : IsPlaceOf z p.last.at key place
  there = place_later z key place g p.last.at p.last.lawful p.last.between.0 of

  -- a search that is at the place after the word when that was looked at
  moves : (n : ℕ) → ((start : List Event) → KeyAhead z key after start p.last.at → KeyAhead z key n start p.last.at) → AdvancesSearch z key from n g f
  moves n step start up ahead = key_later z key n start p.last.at f l (begins_on start g p.last.at up p.last.between.0) p.last.between.1 (step start (p.brings start up ahead))

  in_bucket : place.word < 7 → CanGoOn z key from after (place_of place.bucket (place.word + 1)) g f
  in_bucket more =
      let d = bucket_depth z g place.bucket in let next = place_of place.bucket (place.word + 1) in
      let x = other_place z key place (place.word + 1) g of (omega arith) (omega (arith, more)) in
      let is = at_depth z g place in
      let e : position z f next ≡ after = (same_place z g f next l to_now x.0.0).1 ∙ (x.1 ∙ (let a : 8 * d + (place.word + 1) ≡ position z g place + 1 = omega arith in a)) in record {
        place = place_later z key next g f l to_now x.0;
        brings = subst (λ n. AdvancesSearch z key from n g f) (sym e) (moves after (λ start ahead. ahead));
        words = ap words_below (sym e);
        on = omega (arith, e);
      }

  module _ (seven : 7 ≤ place.word) where
    abbrev d : ℕ
    d = bucket_depth z p.last.at place.bucket

    abbrev cell : Cell
    cell = cell_at z (place_of place.bucket 7)

    here : IsItemAt z p.last.at (bucket_of z key) (8 * d + 7) cell
    here = other_word z key place 7 p.last.at there (omega arith) (omega arith)

    is_seven : place.word ≡ 7
    is_seven = let most = of.0.in_table.2 in omega (arith, seven)

    stood : word_of_place z p.last.at (place_of place.bucket 7) ≡ w
    stood = subst (λ n. word_of_place z p.last.at (place_of place.bucket n) ≡ w) is_seven p.last.stood

    after_is : after ≡ 8 * d + 8
    after_is = let same = (same_place z g p.last.at place p.last.lawful p.last.between.0 of.0).1 in let is = at_depth z p.last.at place in let e = is_seven in omega arith

    -- the last word leads on
    in_next : (number : ℕ) → chain_word number ≡ w → number < 65536 → CanGoOn z key from after (place_of (z.buckets + number) 1) g f
    in_next number is few =
        let low : 0 < word_of_place z p.last.at (place_of place.bucket 7) = subst (λ n. 0 < n) (is ∙ sym stood) (omega arith) in
        let high : word_of_place z p.last.at (place_of place.bucket 7) < 2 ^ 52 = subst (λ n. n < 2 ^ 52) (is ∙ sym stood) (omega (arith, few)) in
        let on = leads_on z p.last.at (bucket_of z key) d cell v p.last.lawful (bucket_in z key v) here low high in
        let same : on.1.0 ≡ number = let a : chain_word on.1.0 ≡ chain_word number = sym on.1.1 ∙ (stood ∙ sym is) in omega arith in
        let x = chained_place z key d number p.last.at (subst (λ n. n < z.overflow) same on.1.3) on.0 (subst (λ n. home_of p.last.at n ≡ Some (home (bucket_of z key) (d + 1))) same on.1.2) in
        let next = place_of (z.buckets + number) 1 in
        let e : position z f next ≡ 8 * (d + 1) + 1 = (same_place z p.last.at f next l p.last.between.1 x.0.0).1 ∙ x.1 in
        let ended = after_is in record {
          place = place_later z key next p.last.at f l p.last.between.1 x.0;
          brings = subst (λ n. AdvancesSearch z key from n g f) (sym e)
              (moves (8 * (d + 1) + 1) (λ start ahead. subst (λ n. KeyAhead z key n start p.last.at) (let a : 8 * d + 8 + 1 ≡ 8 * (d + 1) + 1 = omega arith in a)
              (key_skipped z key (8 * d + 8) start p.last.at p.last.lawful (omega arith) (subst (λ n. KeyAhead z key n start p.last.at) after_is ahead))));
          words = ap words_below after_is ∙ ((let a : words_below (8 * d + 8) ≡ words_below (8 * (d + 1) + 1) = omega arith in a) ∙ ap words_below (sym e));
          on = omega (arith, e, ended);
        }

    -- or ends the chain
    ended : ¬ (IsChainWord w) → (start : List Event) → Begins start g → KeyAhead z key from start g → WasGone (KeyGone z key) start f
    ended none start up ahead =
        let out : (word_of_place z p.last.at (place_of place.bucket 7) ≡ 0) ⊎ (2 ^ 52 ≤ word_of_place z p.last.at (place_of place.bucket 7)) = ⊎_elim
        (λ lt. ⊎_elim
        (λ low. let on = leads_on z p.last.at (bucket_of z key) d cell v p.last.lawful (bucket_in z key v) here low lt in
        let most = few_drawn z v in let few = on.1.3 in let is : chain_word on.1.0 ≡ w = sym on.1.1 ∙ stood in
        absurd (none ((let a : 1 ≤ w = omega arith in a), (let a : w ≤ 65536 = omega arith in a))))
        (λ le. inl (let a : word_of_place z p.last.at (place_of place.bucket 7) ≡ 0 = omega arith in a))
        (cases_lt 0 (word_of_place z p.last.at (place_of place.bucket 7))))
        (λ le. inr le)
        (cases_lt (word_of_place z p.last.at (place_of place.bucket 7)) (2 ^ 52)) in
        let le = ends_there z p.last.at (bucket_of z key) d cell v p.last.lawful here.1 out in
        let gone = key_ended z key d start p.last.at p.last.lawful le (subst (λ n. KeyAhead z key n start p.last.at) after_is (p.brings start up ahead)) in
        (gone.0, gone.1, begins_on gone.0 p.last.at f gone.2 p.last.between.1, gone.3)

  pub next_of : (next : Place) → IsNext z place w (Some next) → CanGoOn z key from after next g f
  next_of next x = ⊎_elim
      (λ more. subst (λ n. CanGoOn z key from after n g f) (sym (same_Some next (next_word place) (x.inner more))) (in_bucket more))
      (λ seven. let to = x.last seven in subst (λ n. CanGoOn z key from after n g f) (sym to.3) (in_next seven to.0 (sym to.2) to.1))
      (cases_lt place.word 7)

  pub end_of : IsNext z place w None → (start : List Event) → Begins start g → KeyAhead z key from start g → WasGone (KeyGone z key) start f
  end_of x = ⊎_elim
      (λ more. absurd (none-some (next_word place) (x.inner more)))
      (λ seven. ended seven (λ chain. x.last seven (w - 1) (let most = chain.1 in omega arith) (let least = chain.0 in let e : w ≡ chain_word (w - 1) = omega arith in e)))
      (cases_lt place.word 7)

-- ---- a whole chain

-- the place of a hit is one of the key's chain
pub hit_place : (z : Shape) (key : List ℕ) (from tries : ℕ) (hit : Hit) (p q : Pass) → IsLawful z (trace q) → IsHit z key from tries hit p q → IsPlaceOf z (trace q) key hit.place
hit_place z key from tries hit p q l x = let saw = x.found.found.saw in
    place_later z key hit.place saw.at (trace q) l saw.between.1 (saw.was.chained, sym saw.was.here.0)

-- so often it came into segments at most
few_times : (from to tries : ℕ) (p q : Pass) → from ≡ 1 → words_below to + tries ≤ 91 → Tries from to 0 tries p q → TriesFew p q
few_times from to tries p q first most i = let few = subst (λ n. ComesIn n to 0 tries p q) first i.comes_in in omega (arith, few, most)

pub whole_scan : (b : Board) (key : List ℕ) (from : ℕ) (w : Scan) (p q : Pass) → from ≡ 1 → IsPassOf b p
    → IsScanner b w p q → IsScanFrom b.shape key from 0 w p q → IsScanAnswer b.shape key w (trace p) (trace q)
    × TriesFew p q × OnlyScans p q
whole_scan b key from (Found hit) p q first is i x =
    let l = i.reads.moved.pass.lawful in let in' = (in_chain b.shape (trace q) hit.place l (hit_place b.shape key from 0 hit p q l x).0).1 in (
      (x.found, x.deadline),
      few_times from (position b.shape (trace q) hit.place) (hit.tries + 1) p q first
          (let few = x.few in let most = words_few (position b.shape (trace q) hit.place) in' in
          omega (arith, few, most)) x.tried,
      x.tried.only_scans,
    )
whole_scan b key from (Passed word counted) p q first is i x = (
  x.gone (trace p) ([], refl) (subst (λ n. KeyAhead b.shape key n (trace p) (trace p)) (sym first)
      (key_first b.shape key (trace p) is.lawful)),
  few_times from 32 63 p q first (omega arith) x.tried,
  x.tried.only_scans,
)
whole_scan b key from Busy p q first is i x = (x.counts, few_times from 32 63 p q first (omega arith) x.tried, x.tried.only_scans)
