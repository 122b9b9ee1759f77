-- What tries for a value with its version add up to: entries of the key's bucket, and its bit found set.
use Rattle.std.proofs.Common.{◌≡◌, ◌≢◌, ℕ, ◌+◌, ◌≤◌, true, false, eqb, ◌&&◌, List, [], ◌∷◌, Option, Some, None, refl, ap, ◌∙◌, subst, arith, ◌⊎◌, inl, inr}
use Rattle.std.proofs.lemmas.Bool.{cond-true, and_from, eq-eqb, eqb-true, false_from_ne_true}
use Rattle.segword.specs.Words.{Info, IsValid, Shape}
use Rattle.segmodel.specs.Words.{Begins, bucket_of}
use Rattle.segcore.specs.declared.event.Event.TheVariants.{Glanced}
use Rattle.segcore.specs.Words.{bucket_after, Event, glanced, is, unless_own}
use Rattle.segcore.proofs.Counts.{count_both}
use Rattle.segcore.proofs.Moments.{begins_on, seen_begins}
use Rattle.segcore.proofs.Changed.{entries_begin}
use Rattle.segcore.proofs.Limits.{bucket_in}
use Rattle.segbase.specs.Words.{AddsAtOnce, AddsEvents, Board, count, Glances, has_bit, number}
use Rattle.segbase.specs.Words.{OnlyReads, Pass, seen, sight, trace}
use Rattle.segbase.proofs.Moves.{moved_on, moved_seen, moved_inside, moved_count}
use Rattle.segstore.specs.Words.{IsReader}
use Rattle.segstore.proofs.Readers.{looks}
use Rattle.segread.specs.Scanning.{CountsTries}
use Rattle.segread.specs.Gets.{disturbed, PresentBetween, IsDisturbed, HasNoBit, Disturbs}
use Rattle.segstore.proofs.Bits.{bit_before}
use Rattle.segstore.proofs.Quiet.{reads_none}

-- ---- the bit

-- a reader takes none
pub still_no_bit : (b : Board) (key : List ℕ) (own : List Event) (p q : Pass) → AddsEvents b own p q → OnlyReads own → HasNoBit b.shape key p → HasNoBit b.shape key q
still_no_bit b key own p q m only none bit = none (bit_before b own p q (bucket_of b.shape key) m (reads_none b.shape (bucket_of b.shape key) own only) bit)

not_the_holder : (o : Option ℕ) (n : ℕ) → o ≢ Some n → is o n ≡ false
not_the_holder None n ne = refl
not_the_holder (Some m) n ne = false_from_ne_true (eqb m n) (λ y. ne (ap Some (eqb-true m n y)))

no_bit : (b : Board) (key : List ℕ) (p : Pass) → IsValid b.shape → HasNoBit b.shape key p → has_bit b p (bucket_of b.shape key) ≡ false
no_bit b key p v none = not_the_holder (bucket_after b.shape (trace p) (bucket_of b.shape key)).holder (number p) (λ e. none (bucket_in b.shape key v, e))

-- ---- looks at the information

pub glances_grow : (b : Board) (own : List Event) (p q : Pass) (c : ℕ) → AddsEvents b own p q → count (glanced c) p ≤ count (glanced c) q
glances_grow b own p q c m = let now = moved_count b own p q (glanced c) m in let both = count_both (glanced c) (number p) own (trace p) in omega (arith, now, both)

-- a look at the information that found another's bit set only reads, and counts
glance_reads : (b : Board) (p q : Pass) (c : ℕ) → AddsEvents b (Glanced (number p) c ∷ []) p q → q.plain ≡ p.plain → (sight q).memo ≡ (sight p).memo → IsReader b p q
glance_reads b p q c m plain memo = record {
  reads = record {
    own = Glanced (number p) c ∷ [];
    moved = m;
    only = (tt, tt);
    inside = λ s. moved_inside b (Glanced (number p) c ∷ []) p q s m;
    stays = λ s there. (there, there);
  };
  plain = plain;
  memo = memo;
}

glance_counts : (b : Board) (p q : Pass) (c : ℕ) → AddsEvents b (Glanced (number p) c ∷ []) p q → count (glanced c) q ≡ count (glanced c) p + 1
glance_counts b p q c m = moved_count b (Glanced (number p) c ∷ []) p q (glanced c) m
    ∙ cond-true (eqb (number p) (number p) && eqb c c) (count (glanced c) p + 1) (count (glanced c) p)
    (and_from (eqb (number p) (number p)) (eqb c c) (eq-eqb (number p) (number p) refl) (eq-eqb c c refl))

pub set_reads : (b : Board) (key : List ℕ) (p q : Pass) (info : Info) → IsValid b.shape → HasNoBit b.shape key p
    → Glances b (bucket_of b.shape key) info p q → info.held ≡ true → q.plain ≡ p.plain
    → (sight q).memo ≡ (sight p).memo
    → IsReader b p q × (count (glanced (bucket_of b.shape key)) q ≡ count (glanced (bucket_of b.shape key)) p + 1)
set_reads b key p q info v none g held plain memo =
    let c = bucket_of b.shape key in
    let d : AddsAtOnce b (Glanced (number p) c ∷ []) p q = subst (λ t. AddsAtOnce b (unless_own t (Glanced (number p) c)) p q) (no_bit b key p v none) (g.1 held) in
    (glance_reads b p q c d.moved plain memo, glance_counts b p q c d.moved)

pub clear_reads : (b : Board) (c : ℕ) (p q : Pass) (info : Info) → Glances b c info p q → info.held ≡ false → q.plain ≡ p.plain → (sight q).memo ≡ (sight p).memo
    → IsReader b p q × ((bucket_after b.shape (trace q) c).holder ≡ None)
clear_reads b c p q info g clear plain memo = (looks b p q (record { did = (g.0 clear).0; plain = plain; memo = memo }), (g.0 clear).1)

-- ---- counts

pub disturbs_none : (b : Board) (key : List ℕ) (now : ℕ) (n : ℕ) (p q : Pass) → IsReader b p q → Disturbs b.shape key now n n p q
disturbs_none b key now n p q i = let up = moved_on b i.reads.own p q i.reads.moved in
    let e = entries_begin b.shape (bucket_of b.shape key) (trace p) (trace q) up in
    let g = glances_grow b i.reads.own p q (bucket_of b.shape key) i.reads.moved in
    (seen_begins (trace p) (trace q) up, omega arith, inl (omega arith))

stood_from : (z : Shape) (key : List ℕ) (now : ℕ) (p q r : Pass) → Begins (seen p) (seen q) → PresentBetween z key now (seen q) (seen r) → PresentBetween z key now (seen p) (seen r)
stood_from z key now p q r up (value, (history, between, is)) = (value, (history, (begins_on (seen p) (seen q) history up between.0, between.1), is))

stood_to : (z : Shape) (key : List ℕ) (now : ℕ) (p q r : Pass) → Begins (seen q) (seen r) → PresentBetween z key now (seen p) (seen q) → PresentBetween z key now (seen p) (seen r)
stood_to z key now p q r up (value, (history, between, is)) = (value, (history, (between.0, begins_on history (seen q) (seen r) between.1 up), is))

-- by entries, or where the key stood
by_both : (z : Shape) (key : List ℕ) (now : ℕ) (some more most : ℕ) (p q r : Pass) → Begins (seen p) (seen q)
    → Begins (seen q) (seen r) → CountsTries z key some more (trace p) (trace q)
    ⊎ PresentBetween z key now (seen p) (seen q) → CountsTries z key more most (trace q) (trace r)
    ⊎ PresentBetween z key now (seen q) (seen r) → CountsTries z key some most (trace p) (trace r)
    ⊎ PresentBetween z key now (seen p) (seen r)
by_both z key now some more most p q r up on (inl a) (inl b) = inl (omega (arith, a, b))
by_both z key now some more most p q r up on (inl a) (inr s) = inr (stood_from z key now p q r up s)
by_both z key now some more most p q r up on (inr s) b = inr (stood_to z key now p q r on s)

pub disturbs_then : (z : Shape) (key : List ℕ) (now : ℕ) (some more most : ℕ) (p q r : Pass) → Disturbs z key now some more p q → Disturbs z key now more most q r → Disturbs z key now some most p r
disturbs_then z key now some more most p q r c d = (
  begins_on (seen p) (seen q) (seen r) c.0 d.0,
  (let x = c.1 in let y = d.1 in omega (arith, x, y)),
  by_both z key now some more most p q r c.0 d.0 c.2 d.2,
)

-- tries that are counted by entries alone
pub by_entries : (b : Board) (key : List ℕ) (now : ℕ) (some more : ℕ) (p q : Pass) → IsReader b p q → CountsTries b.shape key some more (trace p) (trace q) → Disturbs b.shape key now some more p q
by_entries b key now some more p q i c = let g = glances_grow b i.reads.own p q (bucket_of b.shape key) i.reads.moved in (moved_seen b i.reads.own p q i.reads.moved, omega (arith, c, g), inl c)

-- and one more by the bit, which was found set
pub by_bit : (b : Board) (key : List ℕ) (now : ℕ) (some more : ℕ) (p q : Pass) → IsReader b p q
    → CountsTries b.shape key some more (trace p) (trace q)
    → count (glanced (bucket_of b.shape key)) p + 1 ≤ count (glanced (bucket_of b.shape key)) q
    → PresentBetween b.shape key now (seen p) (seen q) → Disturbs b.shape key now some (more + 1) p q
by_bit b key now some more p q i c g stood = (moved_seen b i.reads.own p q i.reads.moved, omega (arith, c, g), inr stood)

-- 64 tries: so often the pass was disturbed
is_disturbed_by : (z : Shape) (key : List ℕ) (now : ℕ) (p q : Pass) → 64 ≤ disturbed z key (seen p) p q
    → CountsTries z key 0 64 (trace p) (trace q) ⊎ PresentBetween z key now (seen p) (seen q)
    → IsDisturbed z key now (seen p) p q
is_disturbed_by z key now p q all (inl a) = inl (omega (arith, a))
is_disturbed_by z key now p q all (inr s) = inr (all, s)

pub is_disturbed : (b : Board) (key : List ℕ) (now : ℕ) (p q : Pass) → IsReader b p q → Disturbs b.shape key now 0 64 p q → IsDisturbed b.shape key now (seen p) p q
is_disturbed b key now p q i x =
    let e = entries_begin b.shape (bucket_of b.shape key) (trace p) (trace q)
    (moved_on b i.reads.own p q i.reads.moved) in
    let g = glances_grow b i.reads.own p q (bucket_of b.shape key) i.reads.moved in let c = x.1 in
    is_disturbed_by b.shape key now p q (omega (arith, e, g, c)) x.2
