-- A row's item that a keep moved: what the marks say just before the move, and of the move itself.
use Rattle.std.proofs.Common.{◌≡◌, ℕ, ◌≤◌, cond, eqb, Bool, true, false, List, [], ◌∷◌, ◌++◌, Some, refl, sym, ap, ◌∙◌, subst, append_assoc}
use Rattle.segmodel.specs.declared.entry.Entry.TheVariants.{Moved}
use Rattle.segmodel.specs.Words.{Begins, bucket_of}
use Rattle.segcore.specs.declared.event.Event.TheVariants.{Freed, Relinked, Took}
use Rattle.segcore.specs.Mark.{at, enters}
use Rattle.segcore.specs.Mark as mark
use Rattle.segcore.specs.Words.{by, Event, frequency_in, Mark, RowGone, span_in}
use Rattle.segcore.proofs.Moments.{begins_on, marked_begins}
use Rattle.segbase.specs.Traces.{own_of}
use Rattle.segbase.specs.Words.{AddsEvents, Board, marked, number, Pass, TakesSteps, trace, used_of}
use Rattle.segbase.proofs.Starting.{starts_on}
use Rattle.segstore.specs.Words.{AddsEntry, AreRows, bounces, fills}
use Rattle.segevict.specs.Moving.{moves, SeesRow, under_bit}
use Rattle.segevict.specs.OneRow.{CarriesItem}
use Rattle.segevict.proofs.Frequencies.{had_at}
use Rattle.segevict.proofs.Naming.{unnamed}

-- where the newest of a pass's own events stands among all
record Newest (pass : ℕ) (event : Event) (rest more : List Event) : Type 0 where
  newer : List Event
  older : List Event
  stands : more ≡ newer ++ event ∷ older
  left : own_of pass older ≡ rest

newest : (pass : ℕ) (more : List Event) (event : Event) (rest : List Event) → own_of pass more ≡ event ∷ rest → Newest pass event rest more
newest pass [] event rest is = absurd (nil-cons is)
  where
    nil-cons : [] ≡ event ∷ rest → ⊥
    nil-cons e = cc
newest pass (first ∷ more) event rest is = at_first (eqb (by first) pass) is (λ later. newest pass more event rest later)
  where
    head_of : first ∷ own_of pass more ≡ event ∷ rest → first ≡ event
    head_of e = cc

    tail_of : first ∷ own_of pass more ≡ event ∷ rest → own_of pass more ≡ rest
    tail_of e = cc

    at_first : (own : Bool) → cond own (first ∷ own_of pass more) (own_of pass more) ≡ event ∷ rest
        → (own_of pass more ≡ event ∷ rest → Newest pass event rest more) → Newest pass event rest (first ∷ more)
    at_first true is deeper = record { newer = []; older = more; stands = ap (λ e. e ∷ more) (head_of is); left = tail_of is }
    at_first false is deeper = let n = deeper is in record { newer = first ∷ n.newer; older = n.older; stands = ap (λ l. first ∷ l) n.stands; left = n.left }

begins_there : (pass : ℕ) (event : Event) (rest more h : List Event) (n : Newest pass event rest more) → Begins (event ∷ (n.older ++ h)) (more ++ h)
begins_there pass event rest more h n = (n.newer, ap (λ l. l ++ h) n.stands ∙ append_assoc n.newer (event ∷ n.older) h)

module _ (b : Board) (segment row into cutoff : ℕ) (p f q : Pass) (s : SeesRow b segment row (λ n. cutoff ≤ n) p f) (to times position : ℕ) (written : List ℕ × List ℕ)
    (adds : AddsEvents b (under_bit (number f) (bucket_of b.shape s.key) times (moves (number f) s.key segment row into to position written)) f q) where
  abbrev bucket : ℕ
  bucket = bucket_of b.shape s.key

  abbrev free : Event
  free = Freed (number f) bucket false

  abbrev move : Event
  move = Relinked (number f) s.key segment row into to position

  abbrev earlier : List Event
  earlier = fills (number f) into to written.0 written.1 ++ (Took (number f) bucket ∷ bounces (number f) bucket times)

  freed : Newest (number f) free (move ∷ earlier) adds.more
  freed = newest (number f) adds.more free (move ∷ earlier) adds.adds

  moved : Newest (number f) move earlier freed.older
  moved = newest (number f) freed.older move earlier freed.left

  abbrev old : List Event
  old = moved.older ++ trace f

  abbrev before : List Mark
  before = mark.marked old

  came : Begins (move ∷ old) (trace q)
  came = begins_on (move ∷ old) (freed.older ++ trace f) (trace q)
      (begins_there (number f) move earlier freed.older (trace f) moved)
      (begins_on (freed.older ++ trace f) (free ∷ (freed.older ++ trace f)) (trace q)
      (free ∷ [], refl)
      (subst (Begins (free ∷ (freed.older ++ trace f))) (sym adds.goes_on) (begins_there (number f) free (move ∷ earlier) adds.more (trace f) freed)))

  pub carried : TakesSteps f q → used_of p into ≡ Some to → AreRows b.shape to (span_in (trace p) segment row)
      → AddsEntry (Moved (number p) s.key segment into) p q → RowGone b.shape segment row (trace q)
      → CarriesItem b.shape segment row cutoff into p q s.key
  carried steps next fits entries gone = record {
    before = before;
    often = (
      s.looks.0,
      starts_on p f q s.looks.0 s.looks.1 steps,
      had_at b segment row (λ n. cutoff ≤ n) p f s (mark.marked s.looks.0) before (marked_begins s.looks.0 (trace f) s.looks.1.until) (marked_begins (trace f) old (moved.older, refl)),
    );
    to = to;
    next = next;
    fits = fits;
    position = position;
    comes = subst (λ n. Begins (enters (Moved n s.key segment into) ∷ at s.key into to position (frequency_in before segment row) ∷ before) (marked q)) s.idles.moved.same
        (marked_begins (move ∷ old) (trace q) came);
    entries = entries;
    left = unnamed b.shape (trace q) segment row adds.pass.lawful gone;
  }
