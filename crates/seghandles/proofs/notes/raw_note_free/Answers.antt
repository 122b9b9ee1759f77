use Rattle.std.proofs.Common.{◌≡◌, rules, Option, true, false, refl}
use Rattle.seghandles.specs.declared.kept.Kept.{Kept}
use Rattle.seghandles.specs.declared.status.Status.{Status}
use Rattle.seghandles.specs.declared.status.Status.TheVariants as status
use Rattle.seghandles.specs.Noting.{FreesNote, is_note}
use Rattle.seghandles.proofs.Answering.{unanswered}
use Rattle.seghandles.proofs.Noted.{freed, left}
use Rattle.seghandles.proofs.notes.raw_note_free.Goals as goal

pub returns-in_default : goal.returns-in_default
returns-in_default c =
    unanswered (λ (b a : Option Kept) (returned : Status). FreesNote b a returned) _ _ _
    c.in_default.ensures.taken c.take.ensures.none c.number.ensures (refl, refl)

pub returns-then-not-is_note : goal.returns-then-not-is_note
returns-then-not-is_note c =
    let is : is_note c.in-Some.kept.value ≡ false = search rules in
    (status.NoHandle, search rules, left _ _ c.in-Some.kept.value c.in-Some.ensures.taken c.fill.ensures is)

pub returns : goal.returns
returns c =
    let is : is_note c.in-Some.kept.value ≡ true = search rules in
    (status.Ok, search rules, freed _ _ c.in-Some.kept.value c.in-Some.ensures.taken c.take.ensures.none is)
