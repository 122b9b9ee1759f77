-- Readers begin with a look: what is so from right after it, and what that says of the whole call.
use Rattle.std.proofs.Common.{◌≡◌, ℕ, ◌+◌, ◌<◌, ◌⊎◌, List, [], ◌∷◌, refl, sym, ap, ◌∙◌, subst, inl, inr, arith}
use Rattle.segmodel.specs.Words.{Begins, bucket_of}
use Rattle.segcore.specs.Words.{Event, IsLawful, look, View}
use Rattle.segcore.proofs.Moments.{begins_on}
use Rattle.segcore.proofs.Changed.{entries_begin}
use Rattle.segcore.proofs.Searches.{key_later}
use Rattle.segbase.specs.Words.{Board, cell_at, looks, Pass, Place, position, SinceFirst, StartsAt}
use Rattle.segbase.specs.Words.{Stepped, trace}
use Rattle.segbase.proofs.Moves.{moved_on}
use Rattle.segbase.proofs.Starting.{starts_on}
use Rattle.segstore.specs.Words.{IsReader}
use Rattle.segstore.proofs.Readers as readers
use Rattle.segstore.proofs.Seconds.{looked_at}
use Rattle.segstore.proofs.Words.{same_place}
use Rattle.segread.specs.declared.scan.Scan.{Scan}
use Rattle.segread.specs.declared.scan.Scan.TheVariants as scan
use Rattle.segread.specs.Looking.{AfterLook, LooksFirst}
use Rattle.segread.specs.Scanning.{AdvancesSearch, ComesIn, CountsTries, GoesAlong, HasPassed, IsPlaceOf, IsScanFrom, IsScanner, IsWay, place_of, ScansOn, Tries}
use Rattle.segread.proofs.ComingIn.{StaysOut, looked}
use Rattle.segread.proofs.Scans.{HasScanned, last_of, scan_later, place_later, scanned_none}
use Rattle.segread.proofs.Tries.{hit_from, word_wider}

-- ---- the first look

pub looks_first : (b : Board) (p m : Pass) (place : Place) (found : ℕ) → Stepped b (look (cell_at b.shape place)) found p m → LooksFirst b p m
looks_first b p m place found st = record {
  look = looked_at b p m place found st;
  saw = ap (λ (v : View). v.looks) st.told.now ∙ ap (λ h. h ∷ looks p) (sym (ap (λ (v : View). v.trace) st.told.now));
}

-- it saw what the pass has seen right after it
pub look_starts : (b : Board) (p m : Pass) → LooksFirst b p m → StartsAt p m (trace m)
look_starts b p m l = record { later = []; looked = l.saw; others = l.look.did.others; since = l.look.did.now; none = l.look.did.none; until = ([], refl) }

pub since_look : (b : Board) (p m q : Pass) (Is : List Event → Type 0) → LooksFirst b p m → IsReader b m q → Is (trace m) → SinceFirst p q Is
since_look b p m q Is l i is = (trace m, starts_on p m q (trace m) (look_starts b p m l) i.reads.moved.steps, is)

-- with m the pass right after the first look: what is so from there on, is so from p on
module _ (b : Board) (key : List ℕ) (p m : Pass) (l : LooksFirst b p m) where
  pub up : Begins (trace p) (trace m)
  up = moved_on b [] p m l.look.did.moved

  lawful : IsLawful b.shape (trace m)
  lawful = l.look.did.moved.pass.lawful

  pub out : StaysOut p m
  out = looked b p m l.look.did.moved

  pub reads_from : (q : Pass) → IsReader b m q → IsReader b p q
  reads_from q i = readers.reader_then b p m q (readers.looks b p m l.look) i

  pub same_at : (place : Place) → IsPlaceOf b.shape (trace p) key place → position b.shape (trace m) place ≡ position b.shape (trace p) place
  same_at place of = (same_place b.shape (trace p) (trace m) place lawful up of.0).1

  pub still_of : (place : Place) → IsPlaceOf b.shape (trace p) key place → IsPlaceOf b.shape (trace m) key place
  still_of place of = place_later b.shape key place (trace p) (trace m) lawful up of

  pub comes_from : (from to some more : ℕ) (q : Pass) → ComesIn from to some more m q → ComesIn from to some more p q
  comes_from from to some more q i = let same = out.0 in omega (arith, i, same)

  tries_from : (from to some more : ℕ) (q : Pass) → Tries from to some more m q → Tries from to some more p q
  tries_from from to some more q i = record { comes_in = comes_from from to some more q i.comes_in; onward = i.onward; only_scans = i.only_scans ∙ out.1 }

  counts_from : (some more : ℕ) (g : List Event) → CountsTries b.shape key some more (trace m) g → CountsTries b.shape key some more (trace p) g
  counts_from some more g c = let a = entries_begin b.shape (bucket_of b.shape key) (trace p) (trace m) up in omega (arith, a, c)

  pub ahead_from : (from to : ℕ) (g : List Event) → AdvancesSearch b.shape key from to (trace m) g → AdvancesSearch b.shape key from to (trace p) g
  ahead_from from to g x start before ahead = x start (begins_on start (trace p) (trace m) before up) (key_later b.shape key from start (trace p) (trace m) lawful before up ahead)

  passed_from : (from to : ℕ) (place : Place) (word : ℕ) (g : List Event) → HasPassed b.shape key from to place word (trace m) g → HasPassed b.shape key from to place word (trace p) g
  passed_from from to place word g x = record {
    last = word_wider b.shape place word (trace m) g (trace p) g up ([], refl) x.last;
    brings = ahead_from from to x.last.at x.brings;
  }

  way_from : (from to : ℕ) (last : Place) (tries : ℕ) (w : Scan) (q : Pass) → IsWay b.shape key from to last tries w m q → IsWay b.shape key from to last tries w p q
  way_from from to last tries (scan.Found hit) q x = record {
    found = hit_from b.shape hit.place hit.item hit.header key (trace m) (trace q) (trace p) up x.found;
    deadline = x.deadline;
    few = x.few;
    up = x.up;
    counted = counts_from tries hit.tries x.found.found.saw.at x.counted;
    tried = tries_from from (position b.shape (trace q) hit.place) tries (hit.tries + 1) q x.tried;
    onward = x.onward;
    brings = ahead_from from (position b.shape (trace q) hit.place) (trace q) x.brings;
  }
  way_from from to last tries (scan.Passed word counted) q x = record {
    few = x.few;
    up = x.up;
    counts = counts_from tries counted (trace q) x.counts;
    tried = tries_from from to tries counted q x.tried;
    passed = passed_from from to last word (trace q) x.passed;
  }
  way_from from to last tries scan.Busy q x = record { counts = counts_from tries 64 (trace q) x.counts; tried = tries_from from 32 tries 63 q x.tried }

  -- looks along words
  pub along_from : (from last : Place) (tries : ℕ) (w : Scan) (q : Pass) → IsPlaceOf b.shape (trace p) key from
      → IsPlaceOf b.shape (trace p) key last → GoesAlong b key from last tries w m q
      → GoesAlong b key from last tries w p q
  along_from from last tries w q at end x = (
    scan_later b w p m q (readers.looks b p m l.look) x.0,
    subst (λ n. IsWay b.shape key n (position b.shape (trace p) last + 1) last tries w p q) (same_at from at)
        (subst (λ n. IsWay b.shape key (position b.shape (trace m) from) (n + 1) last tries w p q)
        (same_at last end) (way_from (position b.shape (trace m) from) (position b.shape (trace m) last + 1)
        last tries w q x.1)),
  )

-- ---- loops of looks

-- Looks of a loop, from one position up to another: none yet, or some, of which the first looked first.
pub record HasBegun (b : Board) (key : List ℕ) (from to some more : ℕ) (p q : Pass) : Type 0 where
  pub reads : IsReader b p q
  pub few : more < 64
  pub so : ((q ≡ p) × (to ≡ from) × (more ≡ some)) ⊎ ((first : Pass) × LooksFirst b p first × HasScanned b key from to some more first q)

-- with p before all looks: after the next ones, which brought the pass from its first look or from `middle` to where it is
pub record Went (b : Board) (key : List ℕ) (from to some : ℕ) (here : Place) (tries : ℕ) (p : Pass) (Is : Pass → Type 0) : Type 0 where
  pub first : Pass
  pub look : LooksFirst b p first
  pub middle : Pass
  pub place : IsPlaceOf b.shape (trace middle) key here
  pub at : position b.shape (trace middle) here ≡ to
  pub scanned : HasScanned b key from (position b.shape (trace middle) here) some tries first middle
  pub is : Is middle

module _ (b : Board) (key : List ℕ) where
  pub begun_none : (at tries : ℕ) (p : Pass) → IsReader b p p → tries < 64 → HasBegun b key at at tries tries p p
  begun_none at tries p i few = record { reads = i; few = few; so = inl (refl, refl, refl) }

  pub begun_by : (from to some more : ℕ) (p first q : Pass) → LooksFirst b p first → HasScanned b key from to some more first q → HasBegun b key from to some more p q
  begun_by from to some more p first q l s = record { reads = reads_from b key p first l q s.reads; few = s.few; so = inr (first, l, s) }

  went_by : (from to some tries : ℕ) (here : Place) (p q : Pass) (Is : Pass → Type 0) → tries < 64
      → ((q ≡ p) × (to ≡ from) × (tries ≡ some))
      ⊎ ((first : Pass) × LooksFirst b p first × HasScanned b key from to some tries first q)
      → to ≡ position b.shape (trace q) here → IsPlaceOf b.shape (trace q) key here → ((m : Pass) → LooksFirst b q m → Is m → Is q) → AfterLook b q Is → Went b key from to some here tries p Is
  went_by from to some tries here p q Is few (inl none) at of wider x =
      let m = x.0 in let l = x.1 in
      let z = b.shape in
      let place = still_of b key q m l here of in
      let n = position z (trace m) here in
      let same : n ≡ from = same_at b key q m l here of ∙ (sym at ∙ none.1) in record {
        first = m;
        look = subst (λ y. LooksFirst b y m) none.0 l;
        middle = m;
        place = place;
        at = same_at b key q m l here of ∙ sym at;
        scanned = subst (λ f. HasScanned b key f n some tries m m) same (subst (λ s. HasScanned b key n n s tries m m) none.2 (scanned_none b key n tries m l.look.did.moved.pass few));
        is = x.2;
      }
  went_by from to some tries here p q Is few (inr s) at of wider x = record {
    first = s.0;
    look = s.1;
    middle = q;
    place = of;
    at = sym at;
    scanned = subst (λ n. HasScanned b key from n some tries s.0 q) at s.2;
    is = wider x.0 x.1 x.2;
  }

  pub went : (from some tries : ℕ) (here : Place) (p q : Pass) (Is : Pass → Type 0) → HasBegun b key from (position b.shape (trace q) here) some tries p q → IsPlaceOf b.shape (trace q) key here
      → ((m : Pass) → LooksFirst b q m → Is m → Is q) → AfterLook b q Is → Went b key from (position b.shape (trace q) here) some here tries p Is
  went from some tries here p q Is s of wider x = went_by from (position b.shape (trace q) here) some tries here p q Is s.few s.so refl of wider x

-- ---- what looks along a bucket come to

-- with p before all looks, first right after the first, and r after all of them
pub along_to : (b : Board) (key : List ℕ) (start : Place) (tries : ℕ) (w : Scan) (p first r : Pass) → LooksFirst b p first → IsPlaceOf b.shape (trace p) key start → IsScanner b w first r
    → IsWay b.shape key (position b.shape (trace p) start) (position b.shape (trace first) (place_of start.bucket 7) + 1) (place_of start.bucket 7) tries w first r
    → AfterLook b p (λ m. GoesAlong b key start (place_of start.bucket 7) tries w m r)
along_to b key start tries w p first r l of reads x = (
  first,
  l,
  (reads, subst (λ n. IsWay b.shape key n (position b.shape (trace first) (place_of start.bucket 7) + 1) (place_of start.bucket 7) tries w first r) (sym (same_at b key p first l start of)) x),
)

-- the last word of a bucket is where it was
pub last_there : (b : Board) (key : List ℕ) (start : Place) (p first middle : Pass) (from tries : ℕ) (w : Scan)
    (r : Pass) → LooksFirst b p first → IsReader b first middle → IsPlaceOf b.shape (trace p) key start
    → IsWay b.shape key from (position b.shape (trace middle) (place_of start.bucket 7) + 1) (place_of start.bucket 7) tries w first r
    → IsWay b.shape key from (position b.shape (trace first) (place_of start.bucket 7) + 1) (place_of start.bucket 7) tries w first r
last_there b key start p first middle from tries w r l i of =
    subst (λ n. IsWay b.shape key from (n + 1) (place_of start.bucket 7) tries w first r)
    (last_of b key start first middle i (still_of b key p first l start of)).1

-- looks up to the chain's end
pub scans_to : (b : Board) (key : List ℕ) (start : Place) (tries : ℕ) (w : Scan) (p first r : Pass)
    → LooksFirst b p first → IsPlaceOf b.shape (trace p) key start → IsScanner b w first r
    → IsScanFrom b.shape key (position b.shape (trace p) start) tries w first r
    → AfterLook b p (λ m. ScansOn b key start tries w m r)
scans_to b key start tries w p first r l of reads x = (first, l, (reads, subst (λ n. IsScanFrom b.shape key n tries w first r) (sym (same_at b key p first l start of)) x))

-- the last word of the bucket of a place
pub last_now : (b : Board) (key : List ℕ) (place : Place) (q : Pass) → IsReader b q q → IsPlaceOf b.shape (trace q) key place → IsPlaceOf b.shape (trace q) key (place_of place.bucket 7)
last_now b key place q i of = (last_of b key place q q i of).0
