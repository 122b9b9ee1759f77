use Rattle.std.proofs.Common.{◌≡◌, rules, true, false, Some, refl, sym, ap, ◌∙◌, inl, inr}
use Rattle.seghandles.specs.declared.client.SharedClient.{SharedClient}
use Rattle.seghandles.specs.declared.kept.Kept.{Kept}
use Rattle.seghandles.specs.declared.kept.Kept.TheVariants as kept
use Rattle.seghandles.specs.declared.status.Status.{Status}
use Rattle.seghandles.specs.declared.status.Status.TheVariants as status
use Rattle.seghandles.specs.Exports.{Returns}
use Rattle.seghandles.specs.Noting.{NotesInto}
use Rattle.seghandles.proofs.Answering.{by_client}
use Rattle.seghandles.proofs.Closed.{empty}
use Rattle.seghandles.proofs.Noted.{not_made, not_noted, noted}
use Rattle.seghandles.proofs.notes.write_note.Goals as goal

pub returns-then-not-is_empty : goal.returns-then-not-is_empty
returns-then-not-is_empty c =
    let note = c.args.note.now.value in
    let next = c.is_empty.new.self.value in
    let guest = c.in-Client.client in
    let is : c.is_empty.result ≡ false = search rules in
    let R : Status → Type 0 = λ why. Returns status.NoHandle why × (next ≡ note) in
    let Does : SharedClient → SharedClient → Type 0 = NotesInto note next status.NoHandle in
    by_client R Does c.args.kept.now (kept.Client guest) guest guest c.in-Client.is refl
    (not_noted note next guest (sym c.is_empty.ensures.empty ∙ is) c.is_empty.ensures.same)

pub returns-in_default-note : goal.returns-in_default-note
returns-in_default-note c =
    let note = c.args.note.now.value in
    let next = c.is_empty.new.self.value in
    let guest = c.in-Client.client in
    let is : c.is_empty.result ≡ true = search rules in
    let none = sym c.is_empty.ensures.empty ∙ is in
    let R : Status → Type 0 = λ why. Returns status.OutOfMemory why × (next ≡ note) in
    let Does : SharedClient → SharedClient → Type 0 = NotesInto note next status.OutOfMemory in
    by_client R Does c.args.kept.now (kept.Client c.note.new.self) guest c.note.new.self c.in-Client.is refl
    (not_made note next guest c.note.new.self none c.is_empty.ensures.same c.in_default-note.ensures.nothing)

pub returns-in_default-new : goal.returns-in_default-new
returns-in_default-new c =
    let note = c.args.note.now.value in
    let next = c.is_empty.new.self.value in
    let is : c.is_empty.result ≡ true = search rules in
    let none = sym c.is_empty.ensures.empty ∙ is in
    let R : Status → Type 0 = λ why. Returns status.OutOfMemory why × (next ≡ note) in
    let Does : SharedClient → SharedClient → Type 0 = NotesInto note next status.OutOfMemory in
    by_client R Does c.args.kept.now (kept.Client c.note.new.self) c.in-Client.client c.note.new.self c.in-Client.is refl
    (noted note next status.OutOfMemory c.in-Ok.notes c.in-Client.client c.note.new.self none c.in-Ok.ensures.notes (inr (refl, c.is_empty.ensures.same ∙ empty note none)))

pub returns : goal.returns
returns c =
    let note = c.args.note.now.value in
    let next = c.fill.new.self.value in
    let is : c.in-Ok-new.boxed.value ≡ kept.Note c.in-Ok.notes = search rules in
    let free : c.is_empty.result ≡ true = search rules in
    let R : Status → Type 0 = λ why. Returns status.Ok why × (next ≡ note) in
    let Does : SharedClient → SharedClient → Type 0 = NotesInto note next status.Ok in
    by_client R Does c.args.kept.now (kept.Client c.note.new.self) c.in-Client.client c.note.new.self c.in-Client.is refl
    (noted note next status.Ok c.in-Ok.notes c.in-Client.client c.note.new.self (sym c.is_empty.ensures.empty ∙ free) c.in-Ok.ensures.notes (inl (refl, c.fill.ensures ∙ ap (λ (k : Kept). Some k) is)))
