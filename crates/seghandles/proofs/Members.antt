-- A client that shares its index, from its beginning to its end.
use Rattle.std.proofs.Common.{◌≡◌, ℕ, zero, suc, List, [], ◌∷◌, All, Option, Some, None, slice_get, refl, ap, sym, ◌∙◌}
use Rattle.std.proofs.lemmas.List.Elements.{All-nil, All-cons}
use Rattle.segword.specs.Words.{Shape}
use Rattle.segbase.specs.Words.{holding, number_of, Pass}
use Rattle.segindex.specs.Words.{Index, IsNew}
use Rattle.segread.specs.Words.{HeldRow}
use Rattle.segclient.specs.declared.member.Member.{Member}
use Rattle.seghandles.specs.declared.guest.Guest.{Guest}
use Rattle.seghandles.specs.Guest.{EndsItsHold, IsPassOfGuest}

ended_number : (guest next : Guest) (row : Option HeldRow) → EndsItsHold row guest next → number_of next.member.pass ≡ number_of guest.member.pass
ended_number guest next None ends = ap (λ (m : Member). number_of m.pass) ends.1
ended_number guest next (Some row) ends = next.is_member.0.pass.numbered ∙ ends.0.made.releases.on.same ∙ sym guest.is_member.0.pass.numbered

-- its pass has its number, also once its hold has ended
pub same_number : (guest : Guest) (n : ℕ) (p : Pass) → n ≡ number_of guest.member.pass → IsPassOfGuest guest p → number_of p ≡ n
same_number guest n p is of = ap number_of of.pass ∙ ended_number guest of.next guest.share.held of.ends ∙ sym is

pub all_from : {A : Type 0} (P : A → Type 0) (xs : List A) → ((n : ℕ) (x : A) → slice_get xs n ≡ Some x → P x) → All P xs
all_from P [] each = All-nil P
all_from P (x ∷ xs) each = All-cons P x xs (each zero x refl) (all_from P xs (λ n y at. each (suc n) y at))

-- the passes of a new index hold nothing
pub new_bare : (shape : Shape) (i : Index) (passes : List Pass) → IsNew shape i passes → All (λ p. holding p ≡ None) passes
new_bare shape i passes new = all_from (λ p. holding p ≡ None) passes (λ n p at. (new.made.dealt.each n p at).holding)
