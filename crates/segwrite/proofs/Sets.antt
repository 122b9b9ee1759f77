-- The answers of a write that stored, and of one that found its bucket full.
use Rattle.std.proofs.Common.{◌≡◌, ◌≢◌, ℕ, true, false, eqb, List, [], ◌∷◌, ◌++◌, ◌+◌, Option, Some, None, refl, sym, ap, ◌∙◌, inl, inr, ⊎_elim, append_assoc, arith}
use Rattle.std.proofs.lemmas.Bool.{cond-true, eq-eqb, ne_eqb}
use Rattle.segword.specs.Words.{row_of}
use Rattle.segmodel.specs.declared.entry.Entry.TheVariants.{Wrote}
use Rattle.segmodel.specs.declared.request.Reply.TheVariants.{Stored}
use Rattle.segmodel.specs.Words.{adds_key, after, Begins, bucket_of, Entry, key_of, Request, standing}
use Rattle.segmodel.specs.Words.{value_of}
use Rattle.segcore.specs.declared.event.Event.TheVariants.{Freed}
use Rattle.segcore.specs.Event as event
use Rattle.segcore.specs.Words.{bucket_after, count, drew, Event, May, NoneAt, release}
use Rattle.segcore.proofs.KeyCounts.{wide}
use Rattle.segcore.proofs.Orderly.{all_drawn_marked}
use Rattle.segcore.proofs.Moments.{begins_on, marked_begins}
use Rattle.segbase.specs.declared.pass.PlainPart.{PlainPart}
use Rattle.segbase.specs.Words.{AddsAtOnce, AddsEvents, Board, IsPassOf, marked, number, Pass}
use Rattle.segbase.specs.Words.{SinceFirst, trace, with_own}
use Rattle.segcore.specs.Mark as mark
use Rattle.segbase.specs.Passes as passes
use Rattle.segbase.proofs.Moves.{moved_on, moved_then}
use Rattle.segbase.proofs.Starting.{starts_on, steps_then}
use Rattle.segstore.specs.Words.{AddsEntry, ChangesNothing, DrawsNothing, fills, GoesOn}
use Rattle.segstore.specs.Words.{HasCleanBit, Idles, IsQuiet, KeepsSegments, memo, TakesOneBit}
use Rattle.segstore.proofs.Keeping.{keeps_plain}
use Rattle.segwrite.specs.Full.{IsFull, WasFull, GrowsFor}
use Rattle.segwrite.specs.Spans.{rows_of}
use Rattle.segwrite.specs.Writes.{more, UsesRows}
use Rattle.segwrite.specs.FirstEmpty.{TookFirstEmpty}
use Rattle.segwrite.specs.Writing.{HasFullChain}
use Rattle.segwrite.specs.Storing.{StoresUnderBit, stores}
use Rattle.segwrite.specs.Growing.{CannotGrow}
use Rattle.segstore.proofs.Peeking.{PeeksInto}
use Rattle.segstore.proofs.Bits.{none_at_both}
use Rattle.segwrite.proofs.Growing.{no_word}
use Rattle.segstore.proofs.Draws.{undrawn}
use Rattle.segwrite.proofs.Lengthening.{in_need_wider}
use Rattle.segwrite.proofs.Rooms.{IsReady, DrawsOnce}
use Rattle.segstore.proofs.Still.{AreStill}
use Rattle.segstore.proofs.TakenBits.{both_no_tries}
use Rattle.segwrite.proofs.FirstEmpty.{first_wider, took_marked}
use Rattle.segwrite.proofs.Filling.{fills_nowhere, fills_still, fills_undrawn, fills_untried, fills_seen}
use Rattle.segstore.proofs.UnderBit.{moved_bucket, moved_bit}
use Rattle.segstore.proofs.UnderWrite.{HasBegun, took_has, took_moved, took_clean, took_keeps, tries, tries_undrawn, write_goes_on, write_adds, write_drew, write_undrawn, write_peeking, write_takes, still_both}

-- ---- after the search

module _ (b : Board) (bucket : ℕ) (p q f : Pass) (quiet : IsQuiet b p) {into : Option ℕ} (took : HasBegun b bucket into p q) (idles : Idles b q f) where
  pub found_clean : HasCleanBit b f bucket
  found_clean =
      let clean = took_clean b bucket p q quiet took in let same = moved_bucket b [] q f bucket idles.moved clean.bit tt in
      record { bit = moved_bit b [] q f bucket idles.moved clean.bit tt; unwritten = ap (λ u. u.written) same ∙ clean.unwritten; undrawn = ap (λ u. u.spare) same ∙ clean.undrawn }

  pub found_plain : f.plain ≡ p.plain
  found_plain = idles.plain ∙ took.plain

  pub found_keeps : KeepsSegments b f
  found_keeps = keeps_plain b [] q f idles.moved tt idles.plain (took_keeps b bucket p q quiet took)

  pub may_free : May b.shape (trace f) (number f) (release bucket false None)
  may_free = (found_clean.bit, found_clean.unwritten, found_clean.undrawn, tt)

-- ---- no word is left for a new key

is_full : (b : Board) (key : List ℕ) (f : Pass) → IsPassOf b f → HasCleanBit b f (bucket_of b.shape key) → HasFullChain b key f → CannotGrow b (bucket_of b.shape key) f → IsFull b.shape (marked f) key
is_full b key f is clean none why =
    let long = wide b.shape (trace f) (bucket_of b.shape key) is.lawful clean.undrawn in let count = all_drawn_marked (trace f) in record {
      no_word = no_word b.shape (trace f) key is.lawful none.taken clean.undrawn none.absent;
      last = ⊎_elim (λ longest. inl (omega (arith, long, longest))) (λ all. inr (count ∙ all)) why;
    }

module _ (b : Board) (key : List ℕ) (p q f s : Pass) (quiet : IsQuiet b p) {into : Option ℕ}
    (took : HasBegun b (bucket_of b.shape key) into p q) (idles : Idles b q f) (none : HasFullChain b key f)
    (why : CannotGrow b (bucket_of b.shape key) f)
    (freed : AddsAtOnce b (Freed (number f) (bucket_of b.shape key) false ∷ []) f s)
    (free : (bucket_after b.shape (trace s) (bucket_of b.shape key)).holder ≡ None) (plain : s.plain ≡ f.plain)
    (same : memo s ≡ memo f) where
  abbrev k : ℕ
  k = bucket_of b.shape key

  plain_back : s.plain ≡ p.plain
  plain_back = plain ∙ found_plain b k p q f quiet took idles

  memo_back : memo s ≡ memo p
  memo_back = same ∙ (idles.memo ∙ took.memo)

  pub full_goes_on : GoesOn b p s
  full_goes_on = write_goes_on b k p q quiet took f s [] [] false idles.moved (λ other apart. tt) tt (λ h. refl) freed free memo_back
      (ap (λ (x : PlainPart). x.locked) plain_back) (ap (λ (x : PlainPart). x.is_holding) plain_back)
      (keeps_plain b (Freed (number f) k false ∷ []) f s freed.moved (tt, tt) plain (found_keeps b k p q f quiet took idles))

  pub full_undrawn : DrawsNothing p s
  full_undrawn = write_undrawn b k p q quiet took f s [] [] false idles.moved (λ other apart. tt) tt (λ h. refl) freed free tt

  pub full_peeking : PeeksInto into p s
  full_peeking = write_peeking b k p q quiet took f s [] [] false idles.moved (λ other apart. tt) tt (λ h. refl) freed free

  pub full_takes : TakesOneBit k p s
  full_takes = write_takes b k p q quiet took f s [] [] false idles.moved (λ other apart. tt) tt (λ h. refl) freed free tt

  pub full_answer : ChangesNothing p s × SinceFirst p s (λ start. WasFull b.shape key (mark.marked start) (marked s))
  full_answer =
      let took_step = took_has b k p q quiet took in let later = freed.moved in
      let start = took_step.0 in
      let to_f : Begins start (trace f) = begins_on start (trace q) (trace f) took_step.1.until (moved_on b [] q f idles.moved) in (
        record { entries = write_adds b k p q quiet took f s [] [] false idles.moved (λ other apart. tt) tt (λ h. refl) freed free; plain = plain_back; memo = memo_back },
        (
          start,
          starts_on p q s start took_step.1 (steps_then q f s idles.moved.same idles.moved.steps later.steps),
          (
            marked f,
            (
              marked_begins start (trace f) to_f,
              marked_begins (trace f) (trace s) (moved_on b (Freed (number f) k false ∷ []) f s later),
            ),
            is_full b key f idles.moved.pass (found_clean b k p q f quiet took idles) none why,
          ),
        ),
      )

-- ---- stored

uses_around : (segment rows : ℕ) (p f r s : Pass) → UsesRows segment rows f r → f.plain ≡ p.plain → s.plain ≡ r.plain → memo f ≡ memo p → memo s ≡ memo r
    → UsesRows segment rows p s
uses_around segment rows p f r s u before behind m n = record {
  current = ap (λ (x : PlainPart). x.current) (sym before) ∙ u.current;
  plain = behind ∙ (u.plain ∙ ap (with_own segment (more rows)) before);
  memo = n ∙ (u.memo ∙ m);
}

module _ (b : Board) (request : Request) (segment row : ℕ) (p q f r s : Pass) (quiet : IsQuiet b p)
    {into : Option ℕ} (took : HasBegun b (bucket_of b.shape (key_of request)) into p q) (before : List Event)
    (ready : IsReady b (bucket_of b.shape (key_of request)) before q f)
    (done : StoresUnderBit b request segment row f r) (keeps : KeepsSegments b r) (uses : UsesRows segment (rows_of request) f r)
    (freed : AddsAtOnce b (Freed (number r) (bucket_of b.shape (key_of request)) true ∷ []) r s)
    (free : (bucket_after b.shape (trace s) (bucket_of b.shape (key_of request))).holder ≡ None)
    (plain : s.plain ≡ r.plain) (same : memo s ≡ memo r) where
  abbrev home : ℕ
  home = bucket_of b.shape (key_of request)

  abbrev words : List ℕ
  words = row_of (key_of request) (value_of request)

  abbrev own : List Event
  own = stores (number f) request segment row done.0 done.1 ++ before

  abbrev entry : Entry
  entry = Wrote (number f) request Stored (Some segment)

  moved : AddsEvents b own q r
  moved = moved_then b before (stores (number f) request segment row done.0 done.1) q f r ready.moved done.2

  elsewhere : (other : ℕ) → home ≢ other → NoneAt b.shape other own
  elsewhere other apart = (
    ne_eqb home other apart,
    none_at_both b.shape other (fills (number f) segment row words done.1) before
        (fills_nowhere b.shape other (number f) segment row words done.1) (ready.elsewhere other apart),
  )

  still : AreStill own
  still = (tt, still_both (fills (number f) segment row words done.1) before (fills_still (number f) segment row words done.1) ready.still)

  adds : (h : List Event) → event.seen (own ++ h) ≡ (entry ∷ []) ++ event.seen h
  adds h = ap (λ x. entry ∷ x) (ap event.seen (append_assoc (fills (number f) segment row words done.1) before h) ∙ (fills_seen (number f) segment row words done.1 (before ++ h) ∙ ready.silent h))

  uses_all : UsesRows segment (rows_of request) p s
  uses_all = uses_around segment (rows_of request) p f r s uses (ready.plain ∙ took.plain) plain (ready.memo ∙ took.memo) same

  pub stored_goes_on : GoesOn b p s
  stored_goes_on = write_goes_on b home p q quiet took r s own (entry ∷ []) true moved elsewhere still adds freed free
      uses_all.memo (ap (λ (x : PlainPart). x.locked) uses_all.plain)
      (ap (λ (x : PlainPart). x.is_holding) uses_all.plain)
      (keeps_plain b (Freed (number r) home true ∷ []) r s freed.moved (tt, tt) plain keeps)

  pub stored_answer : AddsEntry (Wrote (number p) request Stored (Some segment)) p s × UsesRows segment (rows_of request) p s
  stored_answer =
      let one : number f ≡ number p = ready.moved.same ∙ (took_moved b home p q quiet took).same in (
        write_adds b home p q quiet took r s own (entry ∷ []) true moved elsewhere still adds freed free
            ∙ (cond-true (eqb (number f) (number p)) (entry ∷ passes.mine p) (passes.mine p) (eq-eqb (number f) (number p) one) ∙ ap (λ n. Wrote n request Stored (Some segment) ∷ passes.mine p) one),
        uses_all,
      )

  pub stored_first : TookFirstEmpty b.shape request (number p) (passes.marked p) (passes.marked s)
  stored_first = took_marked b.shape request (number p) (trace p) (trace s) freed.moved.pass.lawful
      (first_wider b.shape request (number f) (number p) (trace f) (trace r) (trace p) (trace s) (ready.moved.same
      ∙ (took_moved b home p q quiet took).same)
      (begins_on (trace p) (trace q) (trace f) (moved_on b (tries b home p q quiet took) p q
      (took_moved b home p q quiet took)) (moved_on b before q f ready.moved))
      (moved_on b (Freed (number r) home true ∷ []) r s freed.moved) done.3)

  pub stored_peeking : PeeksInto into p s
  stored_peeking = write_peeking b home p q quiet took r s own (entry ∷ []) true moved elsewhere still adds freed free

  pub stored_takes : TakesOneBit home p s
  stored_takes = write_takes b home p q quiet took r s own (entry ∷ []) true moved elsewhere still adds freed free
      (tt, both_no_tries (fills (number f) segment row words done.1) before (fills_untried (number f) segment row words done.1) ready.untried)

  -- what was drawn was drawn to make room
  module _ (old : List Entry) (draws : DrawsOnce b.shape (key_of request) (number p) before old (trace q) (trace f))
      (adds_new : standing (after b.shape old) (key_of request) ≡ None → adds_key request false ≡ true) where
    abbrev since : List Event
    since = tries b home p q quiet took ++ trace p

    drew_before : (c : ℕ) → passes.count (drew c) s ≡ count (drew c) (number p) (before ++ since)
    drew_before c = let storing = stores (number f) request segment row done.0 done.1 in
        write_drew b home p q quiet took r s own (entry ∷ []) true moved elsewhere still adds freed free c
        ∙ (ap (count (drew c) (number p)) (append_assoc storing before since) ∙ undrawn (number p) c storing (before ++ since) (tt, fills_undrawn (number f) segment row words done.1))

    pub stored_grows : GrowsFor b.shape request p s
    stored_grows = let tried = tries_undrawn b home p q quiet took in record {
      others = λ c apart. drew_before c ∙ (draws.others c since apart ∙ tried c);
      own = ⊎_elim
          (λ none. inl (drew_before home ∙ (none since ∙ tried home)))
          (λ one. inr (
            drew_before home ∙ (one.0 since ∙ ap (λ n. n + 1) (tried home)),
            adds_new one.1,
            in_need_wider b.shape (key_of request) (number p) (trace q) (trace f) (trace p) (trace s) (moved_on b (tries b home p q quiet took) p q (took_moved b home p q quiet took))
                (begins_on (trace f) (trace r) (trace s) (moved_on b _ f r done.2) (moved_on b _ r s freed.moved)) one.2,
          ))
          draws.at_most;
    }
