-- A client whose hold has ended.
use Rattle.std.proofs.Common.{◌≡◌, Option, Some, None, refl, ap, ◌∙◌, subst}
use Rattle.segbase.specs.Words.{holding}
use Rattle.segindex.specs.Words.{shape_of}
use Rattle.segread.specs.Words.{HeldRow, IsKept}
use Rattle.segindex.specs.declared.share.Share.{Share}
use Rattle.seghandles.specs.declared.guest.Guest.{Guest}
use Rattle.seghandles.specs.Guest.{EndsItsHold}

held_none : (guest next : Guest) (row : Option HeldRow) → guest.share.held ≡ row → EndsItsHold row guest next → next.share.held ≡ None
held_none guest next None is ends = ap (λ (s : Share). s.held) ends.0 ∙ is
held_none guest next (Some row) is ends = ends.1

row_free : (next : Guest) → next.share.held ≡ None → holding next.member.pass ≡ None
row_free next none = subst (λ (r : Option HeldRow). IsKept (shape_of next.share.index.value) next.member.pass r) none next.row

-- its pass holds nothing
pub free_pass : (guest next : Guest) → EndsItsHold guest.share.held guest next → holding next.member.pass ≡ None
free_pass guest next ends = row_free next (held_none guest next guest.share.held refl ends)
