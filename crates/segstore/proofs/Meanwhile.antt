-- Events none of which is of a bucket add no entry of it.
use Rattle.std.proofs.Common.{◌≡◌, ℕ, ◌+◌, eqb, false, cond, List, [], ◌∷◌, ◌++◌, Some, None, refl, ap, ◌∙◌, arith}
use Rattle.segword.specs.Words.{Shape}
use Rattle.segmodel.specs.declared.entry.Entry.TheVariants as entry
use Rattle.segmodel.specs.declared.request.Request.TheVariants.{Delete}
use Rattle.segmodel.specs.declared.request.Reply.TheVariants.{Stored, Deleted}
use Rattle.segmodel.specs.Words.{bucket_of, entries_of, Entry, is_of}
use Rattle.segmodel.proofs.Counts.{count_by-cons}
use Rattle.segcore.specs.declared.event.Event.TheVariants.{Replied, Linked, Relinked, Unlinked, Refilled}
use Rattle.segcore.specs.declared.event.Leaving.TheVariants.{Deletes, Evicts}
use Rattle.segcore.specs.Words.{bucket_at, Event, is, Leaving, NoneAt, removal, seen}

one_other : (z : Shape) (b : ℕ) (x : Entry) (h : List Entry) → is_of z b x ≡ false → entries_of z b (x ∷ h) ≡ entries_of z b h
one_other z b x h f = count_by-cons (is_of z b) x h ∙ (ap (λ t. cond t 1 0 + entries_of z b h) f ∙ omega arith)

removed : (z : Shape) (b p : ℕ) (key : List ℕ) (why : Leaving) (h : List Entry) → eqb (bucket_of z key) b ≡ false → entries_of z b (removal p key why ∷ h) ≡ entries_of z b h
removed z b p key (Deletes now) h f = one_other z b (entry.Wrote p (Delete key now) Deleted None) h f
removed z b p key (Evicts s) h f = one_other z b (entry.Evicted p key s) h f

one_event : (z : Shape) (b : ℕ) (e : Event) (h : List Event) → is (bucket_at z e) b ≡ false → entries_of z b (seen (e ∷ h)) ≡ entries_of z b (seen h)
one_event z b (Replied p q y) h f = one_other z b (entry.Wrote p q y None) (seen h) f
one_event z b (Linked p q s r n) h f = one_other z b (entry.Wrote p q Stored (Some s)) (seen h) f
one_event z b (Relinked p key a i s r n) h f = one_other z b (entry.Moved p key a s) (seen h) f
one_event z b (Unlinked p key n why) h f = removed z b p key why (seen h) f
one_event z b (Refilled p s d) h f = one_other z b (entry.Refilled p s d) (seen h) refl
one_event z b e h f = refl

pub none_entries : (z : Shape) (b : ℕ) (more h : List Event) → NoneAt z b more → entries_of z b (seen (more ++ h)) ≡ entries_of z b (seen h)
none_entries z b [] h none = refl
none_entries z b (e ∷ more) h none = one_event z b e (more ++ h) none.0 ∙ none_entries z b more h none.1
