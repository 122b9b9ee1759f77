-- A write or delete whose bit is given back after one event that added an entry: its answer is that entry, and the pass is quiet again.
use Rattle.std.proofs.Common.{◌≡◌, ◌≢◌, ℕ, Bool, eqb, List, [], ◌∷◌, Option, Some, ap, ◌∙◌, subst}
use Rattle.std.proofs.lemmas.Bool.{cond-true, eq-eqb, ne_eqb}
use Rattle.segword.specs.Words.{Shape}
use Rattle.segmodel.specs.Words.{Entry, pass_of}
use Rattle.segcore.specs.declared.event.Event.TheVariants.{Freed}
use Rattle.segcore.specs.Words.{bucket_at, entry_of, Event, is, NoneAt, with_entry}
use Rattle.segcore.specs.Event as event
use Rattle.segbase.specs.declared.pass.PlainPart.{PlainPart}
use Rattle.segbase.specs.Words.{AddsEvents, Board, mine, number, Pass}
use Rattle.segbase.proofs.Moves.{moved_then}
use Rattle.segstore.specs.Words.{AddsEntry, DrawsNothing, GoesOn, Idles, IsQuiet, memo, TakesOneBit}
use Rattle.segstore.proofs.Keeping.{IsCalm, keeps_plain}
use Rattle.segwrite.specs.Refusing.{GivesBack}
use Rattle.segstore.proofs.Peeking.{PeeksInto}
use Rattle.segstore.proofs.Draws.{IsUndrawn}
use Rattle.segwrite.proofs.Sets.{found_plain, found_keeps}
use Rattle.segstore.proofs.Still.{IsStill}
use Rattle.segstore.proofs.TakenBits.{IsNoTry}
use Rattle.segstore.proofs.UnderWrite.{HasBegun, took_moved, ends_on, ends_adding, ends_undrawn, ends_peeking, ends_taking}

-- an event in the bucket, by its pass, adds an entry and stores nothing
pub record IsEntry (shape : Shape) (bucket : ℕ) (act : ℕ → Event) (entry : ℕ → Entry) : Type 0 where
  pub at : (pass : ℕ) → bucket_at shape (act pass) ≡ Some bucket
  pub adds : (pass : ℕ) → entry_of (act pass) ≡ Some (entry pass)
  pub of : (pass : ℕ) → pass_of (entry pass) ≡ pass
  pub still : (pass : ℕ) → IsStill (act pass)
  pub calm : (pass : ℕ) → IsCalm (act pass)
  pub undrawn : (pass : ℕ) → IsUndrawn (act pass)
  pub untried : (pass : ℕ) → IsNoTry (act pass)

module _ (b : Board) (bucket : ℕ) (counted : Bool) (act : ℕ → Event) (entry : ℕ
    → Entry) (is_entry : IsEntry b.shape bucket act entry) (p q f s : Pass) (quiet : IsQuiet b p) {into : Option ℕ}
    (took : HasBegun b bucket into p q) (idles : Idles b q f)
    (gives : GivesBack b bucket counted (act (number f) ∷ []) f s) where
  abbrev n : ℕ
  n = number p

  moved : AddsEvents b (Freed n bucket counted ∷ act n ∷ []) q s
  moved = subst (λ m. AddsEvents b (Freed m bucket counted ∷ act m ∷ []) q s) (idles.moved.same ∙ (took_moved b bucket p q quiet took).same)
      (moved_then b [] (Freed (number f) bucket counted ∷ act (number f) ∷ []) q f s idles.moved gives.moved)

  elsewhere : (other : ℕ) → bucket ≢ other → NoneAt b.shape other (act n ∷ [])
  elsewhere other apart = (ap (λ o. is o other) (is_entry.at n) ∙ ne_eqb bucket other apart, tt)

  adds : (h : List Event) → event.seen (act n ∷ h) ≡ entry n ∷ event.seen h
  adds h = ap (λ o. with_entry o (event.seen h)) (is_entry.adds n)

  pub plain_back : s.plain ≡ p.plain
  plain_back = gives.plain ∙ found_plain b bucket p q f quiet took idles

  pub memo_back : memo s ≡ memo p
  memo_back = gives.memo ∙ (idles.memo ∙ took.memo)

  pub entered_on : GoesOn b p s
  entered_on = ends_on b bucket p q quiet took s (act n ∷ []) (entry n ∷ []) counted moved elsewhere (is_entry.still n, tt) adds gives.free memo_back
      (ap (λ (x : PlainPart). x.locked) plain_back) (ap (λ (x : PlainPart). x.is_holding) plain_back)
      (keeps_plain b (Freed (number f) bucket counted ∷ act (number f) ∷ []) f s gives.moved (tt, (is_entry.calm (number f), tt)) gives.plain (found_keeps b bucket p q f quiet took idles))

  pub entered : AddsEntry (entry n) p s
  entered = ends_adding b bucket p q quiet took s (act n ∷ []) (entry n ∷ []) counted moved elsewhere (is_entry.still n, tt) adds gives.free
      ∙ cond-true (eqb (pass_of (entry n)) n) (entry n ∷ mine p) (mine p) (eq-eqb (pass_of (entry n)) n (is_entry.of n))

  pub entered_undrawn : DrawsNothing p s
  entered_undrawn = ends_undrawn b bucket p q quiet took s (act n ∷ []) (entry n ∷ []) counted moved elsewhere (is_entry.still n, tt) adds gives.free (is_entry.undrawn n, tt)

  pub entered_peeking : PeeksInto into p s
  entered_peeking = ends_peeking b bucket p q quiet took s (act n ∷ []) (entry n ∷ []) counted moved elsewhere (is_entry.still n, tt) adds gives.free

  pub entered_taking : TakesOneBit bucket p s
  entered_taking = ends_taking b bucket p q quiet took s (act n ∷ []) (entry n ∷ []) counted moved elsewhere (is_entry.still n, tt) adds gives.free (is_entry.untried n, tt)
