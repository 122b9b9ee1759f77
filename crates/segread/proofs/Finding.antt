-- Scans for a value with its version, one after another: what they add up to, and the answer.
use Rattle.std.proofs.Common.{◌≡◌, ℕ, ◌+◌, ◌-◌, ◌<◌, ◌≤◌, ◌⊎◌, List, refl, sym, ◌∙◌, subst, inl, inr, arith}
use Rattle.segmodel.specs.Words.{Begins, bucket_of}
use Rattle.segcore.specs.Words.{glanced, KeyAhead}
use Rattle.segcore.proofs.Searches.{key_first}
use Rattle.segbase.specs.Words.{Board, count, IsPassOf, Pass, Place, position, trace}
use Rattle.segbase.proofs.Moves.{moved_on}
use Rattle.segstore.specs.Words.{IsReader}
use Rattle.segstore.proofs.Readers.{enter_then, reader_then, stays}
use Rattle.segread.specs.declared.version.Attempt.TheVariants.{Answered}
use Rattle.segread.specs.declared.version.Versioned.{Versioned}
use Rattle.segread.specs.declared.version.Versioned.TheVariants as versioned
use Rattle.segread.specs.Hits.{GlancesFew, GlancesOnce, TriesFew}
use Rattle.segread.specs.Scanning.{ComesIn, place_of, words_below, IsPlaceOf}
use Rattle.segread.specs.Looking.{AfterLook, LooksFirst}
use Rattle.segread.specs.Gets.{Attempts, FindsVersion, Disturbs, MovesOn, IsAttempt}
use Rattle.segread.proofs.Looking.{reads_from, same_at}
use Rattle.segread.proofs.ComingIn.{attempts, attempts_then, tries_none, words_few}
use Rattle.segread.proofs.Disturbing.{disturbs_none, disturbs_then, is_disturbed}
use Rattle.segread.proofs.Versions.{version_from}
use Rattle.segread.proofs.Scans.{in_chain, first_place}

-- the next scan begins at this place, with so many tries counted
pub record HasTried (b : Board) (key : List ℕ) (now : ℕ) (next : Place) (tries : ℕ) (p q : Pass) : Type 0 where
  pub reads : IsReader b p q
  pub few : tries ≤ 64
  pub place : IsPlaceOf b.shape (trace q) key next
  pub disturbs : Disturbs b.shape key now 0 tries p q
  pub glances : (bucket : ℕ) → count (glanced bucket) q ≤ count (glanced bucket) p + tries
  pub tried : Attempts 1 (position b.shape (trace q) next) 0 tries p q
  pub ahead : KeyAhead b.shape key (position b.shape (trace q) next) (trace p) (trace q)

-- the scans of a loop: none yet, or some, of which the first looked first
pub record HasBegun (b : Board) (key : List ℕ) (now home : ℕ) (next : Place) (tries : ℕ) (p q : Pass) : Type 0 where
  pub reads : IsReader b p q
  pub few : tries ≤ 64
  pub place : IsPlaceOf b.shape (trace q) key next
  pub so : ((q ≡ p) × (next ≡ place_of home 1) × (tries ≡ 0)) ⊎ ((first : Pass) × LooksFirst b p first × HasTried b key now next tries first q)

-- how many words are left to pass, and tries to count
abbrev pub left_of : Board → Place → ℕ → Pass → ℕ
left_of b next tries q = 92 - (tries + words_below (position b.shape (trace q) next))

pub tried_none : (b : Board) (key : List ℕ) (now bucket : ℕ) (p : Pass) → IsPassOf b p → bucket ≡ bucket_of b.shape key → HasTried b key now (place_of bucket 1) 0 p p
tried_none b key now bucket p is home = let first = first_place b.shape key bucket (trace p) is.valid home in record {
  reads = stays b p is;
  few = omega arith;
  place = first.0;
  disturbs = disturbs_none b key now 0 p p (stays b p is);
  glances = λ bucket. omega arith;
  tried = subst (λ n. Attempts 1 n 0 0 p p) (sym first.1) (attempts 1 1 0 0 p p (tries_none 1 0 p));
  ahead = subst (λ n. KeyAhead b.shape key n (trace p) (trace p)) (sym first.1) (key_first b.shape key (trace p) is.lawful);
}

-- so often it came into segments at most
few_attempts : (from to tries : ℕ) (p q : Pass) → from ≡ 1 → words_below to + tries ≤ 91 → Attempts from to 0 tries p q → TriesFew p q
few_attempts from to tries p q first most i = let few = subst (λ n. ComesIn n to 0 tries p q) first i.comes_in in omega (arith, few, most)

module _ (b : Board) (key : List ℕ) (now : ℕ) (next : Place) (tries : ℕ) (p q r : Pass) (t : HasTried b key now next tries p q) (i : IsReader b q r) where
  abbrev at : ℕ
  at = position b.shape (trace q) next

  up : Begins (trace p) (trace q)
  up = moved_on b t.reads.reads.own p q t.reads.reads.moved

  pub reads_on : IsReader b p r
  reads_on = reader_then b p q r t.reads i

  pub tried_on : (other : Place) (counted : ℕ) → MovesOn b.shape key now at tries other counted q r → HasTried b key now other counted p r
  tried_on other counted x = record {
    reads = reads_on;
    few = x.few;
    place = x.place;
    disturbs = disturbs_then b.shape key now 0 tries counted p q r t.disturbs x.disturbs;
    glances = λ bucket. let before = t.glances bucket in let more = x.glances bucket in omega arith;
    tried = attempts_then 1 at (position b.shape (trace r) other) 0 tries counted p q r t.tried x.tried;
    ahead = x.brings (trace p) up t.ahead;
  }

  pub fewer_left : (other : Place) (counted : ℕ) → MovesOn b.shape key now at tries other counted q r → left_of b other counted r < left_of b next tries q
  fewer_left other counted x =
      let on = x.onward in let few = t.few in let most = words_few at (in_chain b.shape (trace q) next t.reads.reads.moved.pass.lawful t.place.0).1 in omega (arith, on, few, most)

-- the answer of the scan that comes next
module _ (b : Board) (key : List ℕ) (now : ℕ) (next : Place) (tries : ℕ) (p q r : Pass) (t : HasTried b key now next tries p q) (more : tries < 64) where
  abbrev from : ℕ
  from = position b.shape (trace q) next

  to_q : Begins (trace p) (trace q)
  to_q = moved_on b t.reads.reads.own p q t.reads.reads.moved

  -- one look more
  few_glances : GlancesOnce q r → GlancesFew p r
  few_glances one bucket = let before = t.glances bucket in let then = one bucket in omega (arith, before, then, more)

  few_tries : Attempts from 32 tries 63 q r → TriesFew p r
  few_tries x = few_attempts 1 32 63 p r refl (omega arith) (attempts_then 1 from 32 0 tries 63 p q r t.tried x)

  pub told_by : (told : Versioned) → IsAttempt b key now from tries (Answered told) q r → FindsVersion b key now told p r
  told_by (versioned.Found hit version) x = record {
    reads = enter_then b p q r hit.item.seg t.reads x.0;
    tries = let before = t.tried.comes_in in let then = x.2 in omega (arith, before, then);
    glances = few_glances x.3;
    answer = version_from b key now hit version p q r to_q t.tried.raises_nothing x.1;
  }
  told_by versioned.Miss x = record {
    reads = reader_then b p q r t.reads x.0;
    tries = few_tries x.1.tried;
    glances = few_glances x.1.glances;
    answer = (x.1.missed (trace p) to_q t.ahead, x.1.tried.raises_nothing ∙ t.tried.raises_nothing);
  }
  told_by versioned.Busy x = let reads = reader_then b p q r t.reads x.0 in record {
    reads = reads;
    tries = few_tries x.2;
    glances = few_glances x.3;
    answer = (inl (is_disturbed b key now p r reads (disturbs_then b.shape key now 0 tries 64 p q r t.disturbs x.1)), x.2.raises_nothing ∙ t.tried.raises_nothing);
  }

-- all tries are counted
pub tried_all : (b : Board) (key : List ℕ) (now : ℕ) (next : Place) (tries : ℕ) (p q : Pass) → HasTried b key now next tries p q → 64 ≤ tries → FindsVersion b key now versioned.Busy p q
tried_all b key now next tries p q t all =
    let few = t.few in let most = words_few (position b.shape (trace q) next) (in_chain b.shape (trace q) next t.reads.reads.moved.pass.lawful t.place.0).1 in record {
      reads = t.reads;
      tries = few_attempts 1 (position b.shape (trace q) next) tries p q refl (omega (arith, few, most)) t.tried;
      glances = λ bucket. let looks = t.glances bucket in omega (arith, few, looks);
      answer = (
        inl (is_disturbed b key now p q t.reads (subst (λ n. Disturbs b.shape key now 0 n p q) (let e : tries ≡ 64 = omega (arith, few, all) in e) t.disturbs)),
        t.tried.raises_nothing,
      );
    }

-- ---- from the first look on

pub begun_none : (b : Board) (key : List ℕ) (now home : ℕ) (p : Pass) → IsPassOf b p → home ≡ bucket_of b.shape key → HasBegun b key now home (place_of home 1) 0 p p
begun_none b key now home p is at = record { reads = stays b p is; few = omega arith; place = (first_place b.shape key home (trace p) is.valid at).0; so = inl (refl, refl, refl) }

-- after one more scan, which brought the pass from its first look or from `middle` to where it is
pub record Scanned (b : Board) (key : List ℕ) (now : ℕ) (next : Place) (tries : ℕ) (p q : Pass) (Is : Pass → Type 0) : Type 0 where
  pub first : Pass
  pub look : LooksFirst b p first
  pub middle : Pass
  pub at : position b.shape (trace middle) next ≡ position b.shape (trace q) next
  pub tried : HasTried b key now next tries first middle
  pub is : Is middle

module _ (b : Board) (key : List ℕ) (now home : ℕ) (next : Place) (tries : ℕ) (p q : Pass) (home_is : home ≡ bucket_of b.shape key) (place : IsPlaceOf b.shape (trace q) key next) where
  scanned_by : (Is : Pass → Type 0) → ((q ≡ p) × (next ≡ place_of home 1) × (tries ≡ 0))
      ⊎ ((first : Pass) × LooksFirst b p first × HasTried b key now next tries first q)
      → ((m : Pass) → LooksFirst b q m → Is m → Is q) → AfterLook b q Is → Scanned b key now next tries p q Is
  scanned_by Is (inl none) wider x = let m = x.0 in let l = x.1 in record {
    first = m;
    look = subst (λ y. LooksFirst b y m) none.0 l;
    middle = m;
    at = same_at b key q m l next place;
    tried = subst (λ t. HasTried b key now next t m m) (sym none.2) (subst (λ n. HasTried b key now n 0 m m) (sym none.1) (tried_none b key now home m l.look.did.moved.pass home_is));
    is = x.2;
  }
  scanned_by Is (inr s) wider x = record { first = s.0; look = s.1; middle = q; at = refl; tried = s.2; is = wider x.0 x.1 x.2 }

  pub scanned : (Is : Pass → Type 0) → HasBegun b key now home next tries p q → ((m : Pass) → LooksFirst b q m → Is m → Is q) → AfterLook b q Is → Scanned b key now next tries p q Is
  scanned Is s wider x = scanned_by Is s.so wider x

-- with more scans after the first look
pub begun_by : (b : Board) (key : List ℕ) (now home : ℕ) (next : Place) (tries : ℕ) (p first q : Pass)
    → LooksFirst b p first → HasTried b key now next tries first q → HasBegun b key now home next tries p q
begun_by b key now home next tries p first q l t = record { reads = reads_from b key p first l q t.reads; few = t.few; place = t.place; so = inr (first, l, t) }

pub find_none : (b : Board) (key : List ℕ) (now home : ℕ) (next : Place) (tries : ℕ) (p q : Pass) → HasBegun b key now home next tries p q → 64 ≤ tries
    → AfterLook b p (λ first. FindsVersion b key now versioned.Busy first q)
find_none b key now home next tries p q s all = found_by s.so
  where
    found_by : ((q ≡ p) × (next ≡ place_of home 1) × (tries ≡ 0))
        ⊎ ((first : Pass) × LooksFirst b p first × HasTried b key now next tries first q)
        → AfterLook b p (λ first. FindsVersion b key now versioned.Busy first q)
    found_by (inl none) = absurd (let zero = none.2 in omega (arith, zero, all))
    found_by (inr t) = (t.0, t.1, tried_all b key now next tries t.0 q t.2 all)
