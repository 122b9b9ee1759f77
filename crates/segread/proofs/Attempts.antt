-- A scan for a value with its version that begins with a look: what is so from right after it, is so of the whole scan.
use Rattle.std.proofs.Common.{ℕ, List, ◌∙◌, subst, arith}
use Rattle.segcore.proofs.Moments.{begins_on}
use Rattle.segcore.proofs.Searches.{key_later}
use Rattle.segbase.specs.Words.{Board, Pass, Place, position, trace}
use Rattle.segstore.proofs.Readers as readers
use Rattle.segread.specs.declared.version.Attempt.{Attempt}
use Rattle.segread.specs.declared.version.Attempt.TheVariants as attempt
use Rattle.segread.specs.declared.version.Versioned.TheVariants as versioned
use Rattle.segread.specs.Looking.{LooksFirst}
use Rattle.segread.specs.Hits.{GlancesOnce}
use Rattle.segread.specs.Scanning.{IsPlaceOf}
use Rattle.segread.specs.Gets.{Attempted, Attempts, Disturbs, IsAttempt, IsMissed, MovesOn}
use Rattle.segread.proofs.ComingIn.{glances_none, raises_none}
use Rattle.segread.proofs.Disturbing.{disturbs_none, disturbs_then}
use Rattle.segread.proofs.Looking.{ahead_from, comes_from, out, reads_from, same_at, up}
use Rattle.segread.proofs.Versions.{version_from}

-- with p before the scan, m right after its first look, and q after it
module _ (b : Board) (key : List ℕ) (now : ℕ) (p m q : Pass) (l : LooksFirst b p m) where
  attempts_from : (from to some more : ℕ) → Attempts from to some more m q → Attempts from to some more p q
  attempts_from from to some more i = record {
    comes_in = comes_from b key p m l from to some more q i.comes_in;
    onward = i.onward;
    raises_nothing = i.raises_nothing ∙ raises_none p m (out b key p m l).1;
  }

  once_from : GlancesOnce m q → GlancesOnce p q
  once_from once bucket = let one = once bucket in let same = glances_none p m (out b key p m l).1 bucket in omega arith

  disturbs_from : (some more : ℕ) → Disturbs b.shape key now some more m q → Disturbs b.shape key now some more p q
  disturbs_from some more x = disturbs_then b.shape key now some some more p m q (disturbs_none b key now some p m (readers.looks b p m l.look)) x

  missed_from : (from tries : ℕ) → IsMissed b.shape key now from tries m q → IsMissed b.shape key now from tries p q
  missed_from from tries x = record {
    missed = λ start before ahead. x.missed start (begins_on start (trace p) (trace m) before (up b key p m l))
        (key_later b.shape key from start (trace p) (trace m) l.look.did.moved.pass.lawful before (up b key p m l)
        ahead);
    tried = attempts_from from 32 tries 63 x.tried;
    glances = once_from x.glances;
  }

  moves_from : (from tries : ℕ) (next : Place) (counted : ℕ) → MovesOn b.shape key now from tries next counted m q → MovesOn b.shape key now from tries next counted p q
  moves_from from tries next counted x = record {
    few = x.few;
    place = x.place;
    disturbs = disturbs_from tries counted x.disturbs;
    tried = attempts_from from (position b.shape (trace q) next) tries counted x.tried;
    glances = λ bucket. let some = x.glances bucket in let same = glances_none p m (out b key p m l).1 bucket in omega arith;
    brings = ahead_from b key p m l from (position b.shape (trace q) next) (trace q) x.brings;
    onward = x.onward;
  }

  told_from : (from tries : ℕ) (told : Attempt) → IsAttempt b key now from tries told m q → IsAttempt b key now from tries told p q
  told_from from tries (attempt.Answered (versioned.Found hit version)) x = (
    readers.enter_then b p m q hit.item.seg (readers.looks b p m l.look) x.0,
    version_from b key now hit version p m q (up b key p m l) (raises_none p m (out b key p m l).1) x.1,
    comes_from b key p m l from 32 tries 63 q x.2,
    once_from x.3,
  )
  told_from from tries (attempt.Answered versioned.Miss) x = (reads_from b key p m l q x.0, missed_from from tries x.1)
  told_from from tries (attempt.Answered versioned.Busy) x = (reads_from b key p m l q x.0, disturbs_from tries 64 x.1, attempts_from from 32 tries 63 x.2, once_from x.3)
  told_from from tries (attempt.GoesOn place counted) x = (reads_from b key p m l q x.0, moves_from from tries place counted x.1)

  pub attempt_from : (from : Place) (tries : ℕ) (told : Attempt) → IsPlaceOf b.shape (trace p) key from → Attempted b key now from tries told m q → Attempted b key now from tries told p q
  attempt_from from tries told of x = subst (λ n. IsAttempt b key now n tries told p q) (same_at b key p m l from of) (told_from (position b.shape (trace m) from) tries told x)
