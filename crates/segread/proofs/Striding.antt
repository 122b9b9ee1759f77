-- How many steps a gets takes, scan after scan, and that it came into a segment for each look at a set bit.
use Rattle.std.proofs.Common.{◌≡◌, ℕ, ◌+◌, ◌<◌, ◌≤◌, List, sym, subst, arith}
use Rattle.segword.specs.Words.{value_width}
use Rattle.segmodel.specs.Words.{Begins}
use Rattle.segcore.specs.Words.{IsLawful}
use Rattle.segbase.specs.Words.{Board, Pass, Place, position, trace}
use Rattle.segbase.proofs.Moves.{moved_on}
use Rattle.segstore.specs.Words.{IsReaderIn, LeavesSegment, step_count}
use Rattle.segstore.proofs.Words.{same_place}
use Rattle.segread.specs.declared.scan.Hit.{Hit}
use Rattle.segread.specs.Gets.{Strides}
use Rattle.segread.specs.Hits.{GlancesNothing, OnlyScans}
use Rattle.segread.specs.Looking.{LooksFirst}
use Rattle.segread.specs.Scanning.{IsHit, IsPlaceOf, Paces, words_below}
use Rattle.segread.proofs.ComingIn.{glances_none, leaves, LooksOnce, word_more, words_few, words_most}
use Rattle.segread.proofs.Looking.{out}
use Rattle.segread.proofs.Scans.{hit_place, in_chain}

-- with p before the scan, and m right after its first look: no look of it found a bit set
pub scan_unset : (b : Board) (key : List ℕ) (p m q : Pass) → LooksFirst b p m → OnlyScans m q → GlancesNothing p q
scan_unset b key p m q l only bucket = let first = glances_none p m (out b key p m l).1 bucket in let then = glances_none m q only bucket in omega (arith, first, then)

-- a scan that found nothing, or what it found had expired
pub strides : (from to : ℕ) (p q : Pass) → Paces from to 0 p q → words_below to ≤ 28 → GlancesNothing p q → Strides from 32 0 p q
strides from to p q i few unset = record {
  most = (let most = i.most in let up = i.came_in in omega (arith, most, up, few));
  visits = λ bucket. let same = unset bucket in let up = i.came_in in omega (arith, same, up);
}

pub strides_left : (b : Board) (from to segment : ℕ) (p q r : Pass) → Paces from to 1 p q → words_below to ≤ 28 → GlancesNothing p q → LeavesSegment b q r segment → Strides from 32 0 p r
strides_left b from to segment p q r i few unset gone = let away = leaves b segment q r gone.moved in let none = away.0 in record {
  most = (let most = i.most in let up = i.came_in in let last = gone.steps in omega (arith, most, up, few, none, last));
  visits = λ bucket. let same = unset bucket in let then = glances_none q r away.1 bucket in let up = i.came_in in omega (arith, same, then, up, none);
}

-- the place of a hit is within the chain
pub hit_end : (b : Board) (key : List ℕ) (from tries : ℕ) (hit : Hit) (m q : Pass) → IsReaderIn b m q hit.item.seg
    → IsHit b.shape key from tries hit m q → words_below (position b.shape (trace q) hit.place + 1) ≤ 28
hit_end b key from tries hit m q i x = let l = i.reads.moved.pass.lawful in let short = (in_chain b.shape (trace q) hit.place l (hit_place b.shape key from tries hit m q l x).0).1 in
    words_most (position b.shape (trace q) hit.place + 1) (omega (arith, short))

-- the item was found; then its bucket's information and its word were looked at
pub strides_seen : (b : Board) (key : List ℕ) (start from tries : ℕ) (hit : Hit) (p m q l : Pass)
    → IsReaderIn b m q hit.item.seg → IsHit b.shape key from tries hit m q → Begins (trace q) (trace l)
    → IsLawful b.shape (trace l)
    → Paces start (position b.shape (trace q) hit.place + 1) 1 p q → GlancesNothing p q → LooksOnce q l
    → step_count l ≤ step_count q + 2 → Strides start (position b.shape (trace l) hit.place) (1 + value_width) p l
strides_seen b key start from tries hit p m q l i x on lawful paced unset once took =
    let z = b.shape in let was = i.reads.moved.pass.lawful in let at_q = hit_place z key from tries hit m q was x in
    let same = (same_place z (trace q) (trace l) hit.place lawful on at_q.0).1 in let more = word_more (position z (trace q) hit.place) (in_chain z (trace q) hit.place was at_q.0).0 in
    subst (λ n. Strides start n (1 + value_width) p l) (sym same) (record {
      most = (let most = paced.most in let up = paced.came_in in let none = once.0 in omega (arith, most, up, more, none, took));
      visits = λ bucket. let before = unset bucket in let one = once.2 bucket in let up = paced.came_in in let none = once.0 in omega (arith, before, one, up, none);
    })

-- ---- with l after the third look, and r after the pass left the segment

pub strides_again : (b : Board) (key : List ℕ) (from segment : ℕ) (place : Place) (p l r : Pass)
    → Strides from (position b.shape (trace l) place) (1 + value_width) p l → LeavesSegment b l r segment
    → IsPlaceOf b.shape (trace l) key place → Strides from (position b.shape (trace r) place) 0 p r
strides_again b key from segment place p l r i gone of =
    let away = leaves b segment l r gone.moved in let none = away.0 in
    let same = (same_place b.shape (trace l) (trace r) place gone.moved.pass.lawful (moved_on b _ l r gone.moved) of.0).1 in
    subst (λ n. Strides from n 0 p r) (sym same) (record {
      most = (let most = i.most in let last = gone.steps in omega (arith, most, last, none));
      visits = λ bucket. let before = i.visits bucket in let then = glances_none l r away.1 bucket in omega (arith, before, then, none);
    })

pub strides_to : (from to end : ℕ) (p q : Pass) → words_below to ≤ words_below end → Strides from to 0 p q → Strides from end 0 p q
strides_to from to end p q le i = record { most = (let most = i.most in omega (arith, most, le)); visits = i.visits }

pub strides_then : (from mid to left : ℕ) (p q r : Pass) → Strides from mid 0 p q → Strides mid to left q r → Strides from to left p r
strides_then from mid to left p q r i j = record {
  most = (let a = i.most in let c = j.most in omega (arith, a, c));
  visits = λ bucket. let a = i.visits bucket in let c = j.visits bucket in omega (arith, a, c);
}

-- a hit: one exchange is left, too
pub strides_hit : (from at : ℕ) (p l : Pass) → at < 32 → Strides from at (1 + value_width) p l → Strides from 32 (2 + value_width) p l
strides_hit from at p l short i = record { most = (let most = i.most in let few = words_few at short in omega (arith, most, few)); visits = i.visits }

-- no scan yet
pub strides_none : (at : ℕ) (p : Pass) → at ≡ 1 → Strides 1 at 0 p p
strides_none at p first = subst (λ n. Strides 1 n 0 p p) (sym first) (record { most = omega arith; visits = λ bucket. omega arith })
