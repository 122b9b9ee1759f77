-- A quiet pass that only read goes on quietly, and has changed nothing.
use Rattle.std.proofs.Common.{◌≡◌, ◌≤◌, Bool, true, false, cond, List, [], ◌∷◌, ◌++◌, refl, ap, ◌∙◌, arith}
use Rattle.segmodel.specs.History as history
use Rattle.segcore.specs.Words.{Event}
use Rattle.segcore.specs.declared.event.Event.TheVariants.{Glanced, Bumped, Entered, Left}
use Rattle.segcore.specs.Event as event
use Rattle.segbase.specs.Words.{Board, holding, IsReaderEvent, number, OnlyReads, Pass, Reads, trace}
use Rattle.segbase.proofs.Moves.{moved_mine}
use Rattle.segstore.specs.Words.{ChangesNothing, GoesOn, is_held_in, IsQuiet, KeepsSegments, MayEnterAny, memo}
use Rattle.segstore.proofs.Keeping.{IsCalm, AreCalm, keeps_plain}
use Rattle.segstore.proofs.Quiet.{quiet_reads, goes_on}

is_calm : (e : Event) → IsReaderEvent e → IsCalm e
is_calm (Glanced p b) is = tt
is_calm (Bumped p s r f) is = tt
is_calm (Entered p s) is = tt
is_calm (Left p s) is = tt
is_calm e is = absurd is

pub reads_calm : (own : List Event) → OnlyReads own → AreCalm own
reads_calm [] only = tt
reads_calm (e ∷ own) only = (is_calm e only.0, reads_calm own only.1)

is_unseen : (e : Event) (h : List Event) → IsReaderEvent e → event.seen (e ∷ h) ≡ event.seen h
is_unseen (Glanced p b) h is = refl
is_unseen (Bumped p s r f) h is = refl
is_unseen (Entered p s) h is = refl
is_unseen (Left p s) h is = refl
is_unseen e h is = absurd is

pub reads_unseen : (own h : List Event) → OnlyReads own → event.seen (own ++ h) ≡ event.seen h
reads_unseen [] h only = refl
reads_unseen (e ∷ own) h only = is_unseen e (own ++ h) only.0 ∙ reads_unseen own h only.1

pub reads_keep : (b : Board) (p q : Pass) → Reads b p q → q.plain ≡ p.plain → KeepsSegments b p → KeepsSegments b q
reads_keep b p q reads plain keeps = keeps_plain b reads.own p q reads.moved (reads_calm reads.own reads.only) plain keeps

pub read_on : (b : Board) (p q : Pass) → IsQuiet b p → Reads b p q → q.plain ≡ p.plain → memo q ≡ memo p → GoesOn b p q × ChangesNothing p q
read_on b p q quiet reads plain same = (
  goes_on b reads.own p q reads.moved (quiet_reads b p q quiet reads plain same (reads_keep b p q reads plain quiet.segments)),
  record { entries = moved_mine b reads.own p q reads.moved ∙ ap (history.mine (number p)) (reads_unseen reads.own (trace p) reads.only); plain = plain; memo = same },
)

-- a quiet pass is in no segment twice
at_most_one : (t : Bool) → cond t 1 0 ≤ 1
at_most_one true = omega arith
at_most_one false = omega arith

pub quiet_enters : (b : Board) (p : Pass) → IsQuiet b p → MayEnterAny p
quiet_enters b p quiet s = let is = quiet.inside s in let few = at_most_one (is_held_in (holding p) s) in omega (arith, is, few)
