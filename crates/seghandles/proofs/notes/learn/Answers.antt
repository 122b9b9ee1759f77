use Rattle.std.proofs.Common.{◌≡◌, rules, false, refl}
use Rattle.seghandles.specs.declared.client.SharedClient.{SharedClient}
use Rattle.seghandles.specs.declared.kept.Kept.TheVariants as kept
use Rattle.seghandles.specs.declared.status.Status.{Status}
use Rattle.seghandles.specs.declared.status.Status.TheVariants as status
use Rattle.seghandles.specs.declared.kept.Kept.{Kept}
use Rattle.seghandles.specs.Exports.{Returns}
use Rattle.seghandles.specs.Noting.{is_note, LearnsFrom}
use Rattle.seghandles.proofs.Answering.{by_client}
use Rattle.seghandles.proofs.Noted.{learned, not_learned, nothing_learned}
use Rattle.seghandles.proofs.notes.learn.Goals as goal

pub returns-in_default-take : goal.returns-in_default-take
returns-in_default-take c =
    let note = c.args.note.now.value in
    let next = c.take.new.self.value in
    let guest = c.in-Client.client in
    let R : Status → Type 0 = λ why. Returns status.NoHandle why × (next ≡ note) in
    let Does : SharedClient → SharedClient → Type 0 = LearnsFrom note next status.NoHandle in
    by_client R Does c.args.kept.now (kept.Client guest) guest guest c.in-Client.is refl
    (nothing_learned note next guest c.in_default-take.ensures.taken c.take.ensures.none)

pub returns-then-not-is_note : goal.returns-then-not-is_note
returns-then-not-is_note c =
    let note = c.args.note.now.value in
    let next = c.fill.new.self.value in
    let guest = c.in-Client.client in
    let R : Status → Type 0 = λ why. Returns status.NoHandle why × (next ≡ note) in
    let Does : SharedClient → SharedClient → Type 0 = LearnsFrom note next status.NoHandle in
    let was : Kept = c.in-Some.boxed.value in
    let is : is_note c.in-Some.boxed.value ≡ false = search rules in
    by_client R Does c.args.kept.now (kept.Client guest) guest guest c.in-Client.is refl
    (not_learned note next was guest c.in-Some.ensures.taken c.fill.ensures is)

pub returns : goal.returns
returns c =
    let note = c.args.note.now.value in
    let next = c.take.new.self.value in
    let guest = c.in-Client.client in
    let new = c.learn.new.self in
    let R : Status → Type 0 = λ why. Returns status.Ok why × (next ≡ note) in
    let Does : SharedClient → SharedClient → Type 0 = LearnsFrom note next status.Ok in
    let is : c.in-Some.boxed.value ≡ kept.Note c.in-Note.taken = search rules in
    by_client R Does c.args.kept.now (kept.Client new) guest new c.in-Client.is refl
    (learned note next c.in-Some.boxed.value c.in-Note.taken guest new c.in-Some.ensures.taken is c.take.ensures.none c.learn.ensures)
