-- How many steps readers take: at a word, from word to word, and in a scan.
use Rattle.std.proofs.Common.{◌≡◌, ◌≢◌, ℕ, ◌+◌, ◌*◌, ◌≤◌, List, length, refl, sym, ap, subst, arith}
use Rattle.segword.specs.Words.{Item, Shape}
use Rattle.segcore.specs.Words.{entered, IsLawful, View}
use Rattle.segbase.specs.Words.{Board, count, Pass, Place, position, trace, view}
use Rattle.segbase.proofs.Moves.{moved_on}
use Rattle.segstore.specs.Words.{IsReader, step_count}
use Rattle.segstore.proofs.Readers.{stays}
use Rattle.segstore.proofs.Words.{same_place}
use Rattle.segread.specs.declared.scan.Scan.{Scan}
use Rattle.segread.specs.declared.scan.Scan.TheVariants.{Found, Passed, Busy}
use Rattle.segstore.specs.declared.read.Keyed.{Keyed}
use Rattle.segstore.specs.declared.read.Keyed.TheVariants as keyed
use Rattle.segread.specs.Loads.{try_steps}
use Rattle.segread.specs.Scanning.{end_of_scan, IsPlaceOf, IsScanFrom, IsScanner, left_of_scan, Paces, PacesTo, place_of, TriesInSeven, words_below}
use Rattle.segread.specs.Hits.{TriesFew}
use Rattle.segread.specs.Looking.{LooksFirst}
use Rattle.segread.proofs.ComingIn.{words_most}
use Rattle.segread.proofs.Looking.{out}
use Rattle.segread.proofs.Scans.{at_depth, hit_place, in_chain, last_of}

-- ---- at one word

-- a try of which nothing is left
pub tried_and_left : (k : Keyed) (p q : Pass) → ((item : Item) (header : ℕ) → k ≢ keyed.Same item header) → step_count q ≤ step_count p + try_steps → TriesInSeven k p q
tried_and_left (keyed.Same item header) p q ne took = absurd (ne item header refl)
tried_and_left (keyed.Other item) p q ne took = omega (arith, took)
tried_and_left (keyed.Changed word) p q ne took = omega (arith, took)

-- after a look at a word, and tries there
abbrev pub AtWord : Pass → Pass → Type 0
AtWord p q =
    (step_count q + try_steps * count entered p ≤ step_count p + 1 + try_steps * count entered q)
    × (count entered p ≤ count entered q)

pub at_word : (p m : Pass) → step_count m ≡ step_count p + 1 → count entered m ≡ count entered p → AtWord p m
at_word p m one same = (omega (arith, one, same), omega (arith, same))

pub one_try : (left : ℕ) (p q r : Pass) → AtWord p q → count entered r ≡ count entered q + 1 → step_count r + left ≤ step_count q + try_steps → AtWord p r
one_try left p q r w came took = (let most = w.0 in omega (arith, most, came, took), let up = w.1 in omega (arith, up, came))

-- the word is passed, or all tries are counted
pub word_paced : (at to : ℕ) (p q : Pass) → words_below at + 1 ≤ words_below to → AtWord p q → Paces at to 0 p q
word_paced at to p q on w = record { most = (let most = w.0 in omega (arith, most, on)); came_in = (let up = w.1 in omega (arith, up)) }

-- the key's item is found there
pub word_found : (at to : ℕ) (p q r : Pass) → words_below at + 1 ≤ words_below to → AtWord p q → count entered r ≡ count entered q + 1 → step_count r + 1 ≤ step_count q + try_steps → Paces at to 1 p r
word_found at to p q r on w came took = record { most = (let most = w.0 in omega (arith, most, on, came, took)); came_in = (let up = w.1 in omega (arith, up, came)) }

-- ---- from word to word

-- the place of a hit is one of the key's chain
abbrev pub IsScanPlace : Board → List ℕ → Scan → Pass → Type 0
IsScanPlace b key (Found hit) q = IsLawful b.shape (trace q) × IsPlaceOf b.shape (trace q) key hit.place
IsScanPlace b key (Passed word counted) q = Unit {0}
IsScanPlace b key Busy q = Unit {0}

pub paces_none : (at : ℕ) (p : Pass) → Paces at at 0 p p
paces_none at p = record { most = omega arith; came_in = omega arith }

pub paces_then : (from mid to left : ℕ) (p q r : Pass) → Paces from mid 0 p q → Paces mid to left q r → Paces from to left p r
paces_then from mid to left p q r i j = record {
  most = (let a = i.most in let c = j.most in omega (arith, a, c));
  came_in = (let a = i.came_in in let c = j.came_in in omega (arith, a, c));
}

pub paces_to : (from to end left : ℕ) (p q : Pass) → words_below to ≤ words_below end → Paces from to left p q → Paces from end left p q
paces_to from to end left p q le i = record { most = (let a = i.most in omega (arith, a, le)); came_in = i.came_in }

-- a scan that ended before its last position
pub paces_else : (z : Shape) (from to end : ℕ) (w : Scan) (p q : Pass)
    → ((word counted : ℕ) → w ≢ Passed word counted) → Paces from (end_of_scan z to w q) (left_of_scan w) p q
    → Paces from (end_of_scan z end w q) (left_of_scan w) p q
paces_else z from to end (Found hit) p q ne i = i
paces_else z from to end (Passed word counted) p q ne i = absurd (ne word counted refl)
paces_else z from to end Busy p q ne i = i

-- a place of the chain stays at its position
pub later_at : (b : Board) (key : List ℕ) (place : Place) (p q : Pass) → IsReader b p q → IsPlaceOf b.shape (trace p) key place → position b.shape (trace q) place ≡ position b.shape (trace p) place
later_at b key place p q i of = (same_place b.shape (trace p) (trace q) place i.reads.moved.pass.lawful (moved_on b i.reads.own p q i.reads.moved) of.0).1

-- with p before the words, q before the next of them, and r after it
pub next_paced : (b : Board) (key : List ℕ) (from bucket word : ℕ) (p q r : Pass)
    → Paces from (position b.shape (trace q) (place_of bucket word)) 0 p q → IsReader b q r
    → IsPlaceOf b.shape (trace q) key (place_of bucket word)
    → Paces (position b.shape (trace q) (place_of bucket word))
    (position b.shape (trace q) (place_of bucket word) + 1) 0 q r
    → Paces from (position b.shape (trace r) (place_of bucket (word + 1))) 0 p r
next_paced b key from bucket word p q r before i of step =
    let z = b.shape in let here = position z (trace q) (place_of bucket word) in let next = position z (trace r) (place_of bucket (word + 1)) in
    let same = later_at b key (place_of bucket word) q r i of in let was = at_depth z (trace r) (place_of bucket word) in let is = at_depth z (trace r) (place_of bucket (word + 1)) in
    let e : next ≡ here + 1 = omega (arith, same, was, is) in
    subst (λ n. Paces from n 0 p r) (sym e) (paces_then from here (here + 1) 0 p q r before step)

-- the last word of a bucket
pub last_paced : (b : Board) (key : List ℕ) (from : ℕ) (start : Place) (w : Scan) (p q r : Pass) → IsReader b p q
    → IsPlaceOf b.shape (trace p) key start → Paces from (position b.shape (trace q) (place_of start.bucket 7)) 0 p
    q
    → PacesTo b (place_of start.bucket 7) (position b.shape (trace q) (place_of start.bucket 7) + 1) w q r
    → Paces from (end_of_scan b.shape (position b.shape (trace p) (place_of start.bucket 7) + 1) w r) (left_of_scan w) p r
last_paced b key from start w p q r i of before step =
    let z = b.shape in let last = place_of start.bucket 7 in let here = position z (trace q) last in
    let same = (last_of b key start p q i of).1 in
    subst (λ n. Paces from (end_of_scan z (n + 1) w r) (left_of_scan w) p r) same
    (paces_then from here (end_of_scan z (here + 1) w r) (left_of_scan w) p q r before step)

-- a whole bucket, after which the next place comes
pub bucket_paced : (b : Board) (from mid last then : ℕ) (next : Place) (p q r : Pass) → Paces from mid 0 p q
    → Paces mid (last + 1) 0 q r → words_below (then + 1) ≡ words_below (position b.shape (trace r) next)
    → then ≡ last → Paces from (position b.shape (trace r) next) 0 p r
bucket_paced b from mid last then next p q r before step words same =
    let on : words_below (last + 1) ≤ words_below (position b.shape (trace r) next) = omega (arith, words, same) in
    paces_to from (last + 1) (position b.shape (trace r) next) 0 p r on (paces_then from mid (last + 1) 0 p q r before step)

-- and after which the chain ends
pub end_paced : (b : Board) (key : List ℕ) (from : ℕ) (place : Place) (p q r : Pass) → IsReader b p q → IsPlaceOf b.shape (trace q) key place → Paces from (position b.shape (trace q) place) 0 p q
    → Paces (position b.shape (trace q) place) (position b.shape (trace q) (place_of place.bucket 7) + 1) 0 q r → Paces from 32 0 p r
end_paced b key from place p q r i of before step =
    let z = b.shape in let mid = position z (trace q) place in let last = place_of place.bucket 7 in
    let lawful = i.reads.moved.pass.lawful in
    let short = (in_chain z (trace q) last lawful (last_of b key place q q (stays b q i.reads.moved.pass) of).0.0).1 in
    let few : words_below (position z (trace q) last + 1) ≤ 28 = words_most (position z (trace q) last + 1) (omega (arith, short)) in
    paces_to from (position z (trace q) last + 1) 32 0 p r (omega (arith, few)) (paces_then from mid (position z (trace q) last + 1) 0 p q r before step)

-- from the first word of the chain on
pub chain_paced : (b : Board) (key : List ℕ) (from : ℕ) (w : Scan) (p q : Pass) → from ≡ 1 → IsScanPlace b key w q
    → Paces from (end_of_scan b.shape 32 w q) (left_of_scan w) p q → Paces 1 32 (left_of_scan w) p q
chain_paced b key from (Found hit) p q first of i =
    let few = words_most (position b.shape (trace q) hit.place + 1) (let short = (in_chain b.shape (trace q) hit.place of.0 of.1.0).1 in omega (arith, short)) in
    paces_to 1 (position b.shape (trace q) hit.place + 1) 32 1 p q (omega (arith, few)) (subst (λ n. Paces n (position b.shape (trace q) hit.place + 1) 1 p q) first i)
chain_paced b key from (Passed word counted) p q first of i = subst (λ n. Paces n 32 0 p q) first i
chain_paced b key from Busy p q first of i = subst (λ n. Paces n 32 0 p q) first i

pub scan_place : (b : Board) (key : List ℕ) (from : ℕ) (w : Scan) (p q : Pass) → IsScanner b w p q → IsScanFrom b.shape key from 0 w p q → IsScanPlace b key w q
scan_place b key from (Found hit) p q i x = let l = i.reads.moved.pass.lawful in (l, hit_place b.shape key from 0 hit p q l x)
scan_place b key from (Passed word counted) p q i x = tt
scan_place b key from Busy p q i x = tt

-- in all, by how often it came into segments; with m right after the first look
pub paced_from : (b : Board) (key : List ℕ) (p m q : Pass) (left : ℕ) → LooksFirst b p m → TriesFew m q → Paces 1 32 left p q → step_count q + left ≤ step_count p + (28 + try_steps * (63 + 28))
paced_from b key p m q left l few paced = let same = (out b key p m l).0 in let most = paced.most in omega (arith, few, same, most)

-- to remember takes no step
pub same_steps : (p q : Pass) → view q ≡ view p → step_count q ≡ step_count p
same_steps p q same = ap (λ (v : View). length v.looks) same
