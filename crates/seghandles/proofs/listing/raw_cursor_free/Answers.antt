use Rattle.std.proofs.Common.{◌≡◌, rules, Option, true, false, refl}
use Rattle.seghandles.specs.declared.kept.Kept.{Kept}
use Rattle.seghandles.specs.declared.status.Status.{Status}
use Rattle.seghandles.specs.declared.status.Status.TheVariants as status
use Rattle.seghandles.specs.Ending.{FreesCursor, is_cursor}
use Rattle.seghandles.proofs.Answering.{unanswered}
use Rattle.seghandles.proofs.Ended.{freed_cursor, left_cursor}
use Rattle.seghandles.proofs.listing.raw_cursor_free.Goals as goal

pub returns-in_default : goal.returns-in_default
returns-in_default c =
    unanswered (λ (b a : Option Kept) (returned : Status). FreesCursor b a returned) _ _ _
    c.in_default.ensures.taken c.take.ensures.none c.number.ensures (refl, refl)

pub returns-then-not-is_cursor : goal.returns-then-not-is_cursor
returns-then-not-is_cursor c =
    let is : is_cursor c.in-Some.kept.value ≡ false = search rules in
    (status.NoHandle, search rules, left_cursor _ _ c.in-Some.kept.value c.in-Some.ensures.taken c.fill.ensures is)

pub returns : goal.returns
returns c =
    let is : is_cursor c.in-Some.kept.value ≡ true = search rules in
    (status.Ok, search rules, freed_cursor _ _ c.in-Some.kept.value c.in-Some.ensures.taken c.take.ensures.none is)
