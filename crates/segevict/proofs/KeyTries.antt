-- For which keys a walk over rows tried for bits, one row after another.
use Rattle.std.proofs.Common.{◌≡◌, ◌≢◌, ℕ, ◌+◌, ◌*◌, ◌≤◌, ◌==◌, List, [], ◌∷◌, ◌++◌, Bool, true, cond, count_by, ap, ◌∙◌, refl, sym, subst, ⊎_elim, length-append, arith}
use Rattle.std.proofs.lemmas.Bool.{cases_eq, eq-eqb}
use Rattle.std.proofs.lemmas.List.Elements.{All-nil, All-cons, All-append, All-weaker}
use Rattle.segword.specs.Words.{Shape}
use Rattle.segmodel.specs.Words.{after, bucket_of, Entry, IsBetween, StandsIn}
use Rattle.segmodel.proofs.Counts.{count_by-cons}
use Rattle.segmodel.proofs.LawLemmas.{count_by-append}
use Rattle.segcore.specs.Event as event
use Rattle.segcore.specs.Words.{bounced, taken}
use Rattle.segcore.proofs.Moments.{begins_on, seen_begins}
use Rattle.segbase.specs.Words.{AddsEvents, Board, count, number, Pass, seen, TakesSteps, trace}
use Rattle.segbase.proofs.Starting.{since_before, since_then, steps_grew}
use Rattle.segstore.specs.Words.{GoesOn}
use Rattle.segbase.proofs.Moves.{moved_count}
use Rattle.segevict.specs.Tries.{StoodAtRow, StoodIn, TriesFor}

pub no_tries : (b : Board) (IsSo : List ℕ → Type 0) (most : ℕ) (p q : Pass) → AddsEvents b [] p q → TriesFor b.shape IsSo most p q
no_tries b IsSo most p q m = record {
  keys = [];
  few = omega arith;
  stood = All-nil IsSo;
  taken = (let same : count taken q ≡ count taken p = moved_count b [] p q taken m in omega arith);
  bounced = λ bucket. let same : count (bounced bucket) q ≡ count (bounced bucket) p = moved_count b [] p q (bounced bucket) m in omega arith;
}

counted_once : (p : List ℕ → Bool) (key : List ℕ) → p key ≡ true → count_by p (key ∷ []) ≡ 1
counted_once p key is = count_by-cons p key [] ∙ ap (λ t. cond t 1 0 + 0) is

-- it tried for one key
pub one_try : (shape : Shape) (IsSo : List ℕ → Type 0) (key : List ℕ) (p q : Pass) → IsSo key
    → count taken q ≤ count taken p + 1 → count (bounced (bucket_of shape key)) q ≤ count
    (bounced (bucket_of shape key)) p + 64
    → ((other : ℕ) → other ≢ bucket_of shape key → count (bounced other) q ≡ count (bounced other) p) → TriesFor shape IsSo 1 p q
one_try shape IsSo key p q stood took met others =
    let home = bucket_of shape key in record {
      keys = key ∷ [];
      few = omega arith;
      stood = All-cons IsSo key [] stood (All-nil IsSo);
      taken = took;
      bounced = λ bucket. ⊎_elim
          (λ same. subst (λ k. count (bounced k) q ≤ count (bounced k) p + 64 * count_by
          (λ key. bucket_of shape key == k) (key ∷ [])) (sym same) (let one =
          counted_once (λ key. bucket_of shape key == home) key (eq-eqb home home refl) in omega arith))
          (λ apart. let same = others bucket apart in omega arith)
          (cases_eq bucket home);
    }

-- the tries of two calls, one after the other
pub tries_then : (shape : Shape) (First Second Both : List ℕ → Type 0) (m n most : ℕ) (p q r : Pass) → ((key : List ℕ) → First key → Both key) → ((key : List ℕ) → Second key → Both key) → m + n ≤ most
    → TriesFor shape First m p q → TriesFor shape Second n q r → TriesFor shape Both most p r
tries_then shape First Second Both m n most p q r first second within i j = record {
  keys = i.keys ++ j.keys;
  few = (let all = length-append i.keys j.keys in let x = i.few in let y = j.few in omega arith);
  stood = All-append Both i.keys j.keys (All-weaker First Both first i.keys i.stood) (All-weaker Second Both second j.keys j.stood);
  taken = (let all = length-append i.keys j.keys in let x = i.taken in let y = j.taken in omega arith);
  bounced = λ bucket. let all = count_by-append (λ key. bucket_of shape key == bucket) i.keys j.keys in let x = i.bounced bucket in let y = j.bounced bucket in omega arith;
}

-- nothing was tried before
pub tries_after : (b : Board) (Second Both : List ℕ → Type 0) (most : ℕ) (p q r : Pass) → AddsEvents b [] p q
    → ((key : List ℕ) → Second key → Both key) → TriesFor b.shape Second most q r → TriesFor b.shape Both most p r
tries_after b Second Both most p q r m second t = record {
  keys = t.keys;
  few = t.few;
  stood = All-weaker Second Both second t.keys t.stood;
  taken = (let same : count taken q ≡ count taken p = moved_count b [] p q taken m in let x = t.taken in omega arith);
  bounced = λ bucket. let same : count (bounced bucket) q ≡ count (bounced bucket) p = moved_count b [] p q (bounced bucket) m in let x = t.bounced bucket in omega arith;
}

-- ---- of an eviction

-- what stood in a call stood in a longer one: one that began earlier, or one that ends later
pub stood_before : (shape : Shape) (segment : ℕ) (key : List ℕ) (p q r : Pass) → number q ≡ number p → TakesSteps p q → StoodIn shape segment key q r → StoodIn shape segment key p r
stood_before shape segment key p q r same steps s =
    since_before p q r (λ start. ((history : List Entry) × IsBetween (event.seen start) (seen r) history
    × StandsIn (after shape history) key segment)) same steps
    (λ start later up is. (is.0, (begins_on (event.seen start) (event.seen later) is.0 (seen_begins start later up) is.1.0, is.1.1), is.2)) s

pub stood_after : (shape : Shape) (segment : ℕ) (key : List ℕ) (p q r : Pass) → TakesSteps q r → StoodIn shape segment key p q → StoodIn shape segment key p r
stood_after shape segment key p q r steps s =
    since_then p q r (λ start. ((history : List Entry) × IsBetween (event.seen start) (seen q) history
    × StandsIn (after shape history) key segment))
    (λ start. ((history : List Entry) × IsBetween (event.seen start) (seen r) history
    × StandsIn (after shape history) key segment)) steps
    (λ start is. (is.0, (is.1.0, begins_on is.0 (seen q) (seen r) is.1.1 (seen_begins (trace q) (trace r) (steps_grew q r steps))), is.2)) s

pub rows_tried_then : (b : Board) (segment m n most : ℕ) (p q r : Pass) → GoesOn b p q → GoesOn b q r → m + n ≤ most
    → TriesFor b.shape (λ key. StoodIn b.shape segment key p q) m p q
    → TriesFor b.shape (λ key. StoodIn b.shape segment key q r) n q r
    → TriesFor b.shape (λ key. StoodIn b.shape segment key p r) most p r
rows_tried_then b segment m n most p q r first second within i j =
    let stood : Pass → Pass → List ℕ → Type 0 = λ from to key. StoodIn b.shape segment key from to in
    tries_then b.shape (stood p q) (stood q r) (stood p r) m n most p q r
    (λ key. stood_after b.shape segment key p q r second.steps)
    (λ key. stood_before b.shape segment key p q r first.same first.steps) within i j

-- the key of a row is one that stood in the segment
pub of_row : (shape : Shape) (segment row most : ℕ) (p q : Pass) → TriesFor shape (StoodAtRow shape segment row p q) most p q → TriesFor shape (λ key. StoodIn shape segment key p q) most p q
of_row shape segment row most p q t = record {
  keys = t.keys;
  few = t.few;
  stood = All-weaker (StoodAtRow shape segment row p q) (λ key. StoodIn shape segment key p q) (λ key s. s.0) t.keys t.stood;
  taken = t.taken;
  bounced = t.bounced;
}
