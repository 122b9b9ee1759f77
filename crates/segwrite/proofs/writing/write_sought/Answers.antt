use Rattle.std.proofs.Common.{false, refl, sym, ap, ◌∙◌, subst}
use Rattle.std.proofs.lemmas.Bool.{false≢true}
use Rattle.segmodel.specs.Words.{bucket_of, key_of}
use Rattle.segwrite.specs.Storing.{HasWritten}
use Rattle.segwrite.specs.Writing.{Finds}
use Rattle.segwrite.proofs.Writes.{at_home, has_rows, may_refuse, may_tell, may_make, may_end, may_store, same_room}
use Rattle.segwrite.proofs.Writes.{ends_busy, ends_full, ends_refused, ends_stored, ends_unstored}
use Rattle.segstore.proofs.Looks.{one_step}
use Rattle.segwrite.proofs.Steps.{full_steps, grown_steps, refused_steps, stored_steps}
use Rattle.segwrite.proofs.Refused.{asks}
use Rattle.segstore.specs.Words.{TakesToWrite}
use Rattle.segwrite.proofs.writing.write_sought.Goals as goal

pub returns-in_default : goal.returns-in_default
returns-in_default g c = let b = c.args.board.now in let p = c.args.pass.now in
    record {
      writes = ends_unstored b g.request p c.requires.0
          (same_room b c.args.write.now.condition g.request _ _ _ c.requires.1.1.1.1.0 p ∙ c.in_default.ensures.no_room.0 refl);
    }

pub returns-then-not-take_to_write : goal.returns-then-not-take_to_write
returns-then-not-take_to_write g c = let b = c.args.board.now in
    let at = c.requires.1.0.bucket ∙ ap (bucket_of b.shape)
    (sym (asks c.args.write.now.condition c.args.write.now.sought.key c.args.write.now.value.now
    c.args.write.now.clock g.request c.requires.1.1.1.1.0).0) in
    record {
      writes = ends_busy b g.request c.args.pass.now c.take_to_write.new.pass
          (has_rows b c.args.write.now.condition g.request _ _ _ c.requires.1.1.1.1.0 c.args.pass.now (λ none. false≢true (c.in-Ok.ensures.no_room.1 none)))
          (subst (λ n. TakesToWrite b n false c.args.pass.now c.take_to_write.new.pass) at
          c.if-not-take_to_write.ensures.takes) c.take_to_write.ensures.steps;
    }

pub refusal-requires : goal.refusal-requires
refusal-requires g c = let b = c.args.board.now in let find = c.search-found in
    let may = may_refuse b c.args.write.now.condition g.request _ _ _ _ _ c.requires.1.1.1.1.0 c.requires.1.0.bucket refl _
    _ _ _ c.requires.0 c.if-not-take_to_write.ensures.takes find.ensures.idles find.ensures.searches
    c.requires.1.1.1.0 in
    (may.0, (may.1.0, (may.1.1.0, (may.1.1.1.0, (may.1.1.1.1.0, (subst (λ o. Finds b (key_of g.request) o find.new.pass) (sym c.target.ensures) may.1.1.1.1.1.0, may.1.1.1.1.1.1))))))

pub refuse-requires : goal.refuse-requires
refuse-requires g c = let b = c.args.board.now in let find = c.search-found in
    may_tell b c.args.write.now.condition g.request _ _ _ _ _ c.requires.1.1.1.1.0 c.requires.1.0.bucket refl _ _ _ _
    c.requires.0 c.if-not-take_to_write.ensures.takes find.ensures.idles find.ensures.searches _ _
    c.refusal.ensures.peeks c.refusal.ensures.told c.in-Some.refusal c.in-Some.is

pub returns-in-Some : goal.returns-in-Some
returns-in-Some g c = let b = c.args.board.now in let find = c.search-found in
    record {
      writes = ends_refused b c.args.write.now.condition g.request _ _ _ _ _ c.requires.1.1.1.1.0 c.requires.1.0.bucket
          refl _ _ _ _ c.requires.0 c.if-not-take_to_write.ensures.takes find.ensures.idles find.ensures.searches _
          _ c.refusal.ensures.peeks c.refusal.ensures.told (λ none. false≢true (c.in-Ok.ensures.no_room.1 none))
          c.in-Some.refusal _ c.in-Some.is c.refuse.ensures.refuses
          (refused_steps g.request c.args.pass.now c.take_to_write.new.pass find.new.pass c.refusal.new.pass
          c.take_to_write.ensures.steps find.ensures.steps c.refusal.ensures.steps c.refuse.new.pass
          c.refuse.ensures.steps);
    }

pub make_room-requires : goal.make_room-requires
make_room-requires g c = let b = c.args.board.now in let find = c.search-found in
    let may = may_make b c.args.write.now.condition g.request _ _ _ _ _ c.requires.1.1.1.1.0 c.requires.1.0.bucket refl _ _
    _ _ c.requires.0 c.if-not-take_to_write.ensures.takes find.ensures.idles find.ensures.searches _ _
    c.refusal.ensures.peeks c.refusal.ensures.told in record { pass = may.0; clean = may.1; found = may.2 }

pub release-requires : goal.release-requires
release-requires g c = let b = c.args.board.now in let find = c.search-found in
    may_end b c.args.write.now.condition g.request _ _ _ _ _ c.requires.1.1.1.1.0 c.requires.1.0.bucket refl _ _ _ _
    c.requires.0 c.if-not-take_to_write.ensures.takes find.ensures.idles find.ensures.searches _ _
    c.refusal.ensures.peeks c.refusal.ensures.told _ c.make_room.result c.make_room.ensures.makes
    c.make_room.ensures.steps c.in_default-make_room.is

pub returns-in_default-make_room : goal.returns-in_default-make_room
returns-in_default-make_room g c = let b = c.args.board.now in let find = c.search-found in let step = c.release.ensures.step.1 in
    record {
      writes = ends_full b c.args.write.now.condition g.request _ _ _ _ _ c.requires.1.1.1.1.0 c.requires.1.0.bucket refl _
          _ _ _ c.requires.0 c.if-not-take_to_write.ensures.takes find.ensures.idles find.ensures.searches _ _
          c.refusal.ensures.peeks c.refusal.ensures.told _ c.make_room.result c.make_room.ensures.makes
          c.make_room.ensures.steps c.in_default-make_room.is
          (λ none. false≢true (c.in-Ok.ensures.no_room.1 none)) _ c.in_default-refusal.is c.release.ensures.did c.release.ensures.free step.plain step.memo
          (λ draws. full_steps g.request c.args.pass.now c.take_to_write.new.pass find.new.pass c.refusal.new.pass
          c.take_to_write.ensures.steps find.ensures.steps c.refusal.ensures.steps b.shape c.make_room.new.pass
          c.release.new.pass draws (one_step b c.make_room.new.pass c.release.new.pass _ _ step));
    }

pub store-requires : goal.store-requires
store-requires g c = let b = c.args.board.now in let find = c.search-found in
    may_store b c.args.write.now.condition g.request _ _ _ _ _ c.requires.1.1.1.1.0 c.requires.1.0.bucket refl _ _ _ _
    c.requires.0 c.if-not-take_to_write.ensures.takes find.ensures.idles find.ensures.searches _ _
    c.refusal.ensures.peeks c.refusal.ensures.told _ c.make_room.result c.make_room.ensures.makes
    c.make_room.ensures.steps c.in-Some-make_room.target c.in-Some-make_room.is
    c.in-Ok.row.segment c.in-Ok.row.row _ c.in_default-refusal.is c.in-Ok.ensures.next c.requires.1.1.0 c.requires.1.0.tag c.requires.1.1.1.1.1

pub release-requires-2 : goal.release-requires-2
release-requires-2 g c = let b = c.args.board.now in let find = c.search-found in
    let at = at_home b c.args.write.now.condition g.request _ _ _ _ _ c.requires.1.1.1.1.0 c.requires.1.0.bucket refl _ _ _
    _ c.requires.0 c.if-not-take_to_write.ensures.takes find.ensures.idles find.ensures.searches in
    let wrote = subst (HasWritten b c.store.new.pass) (sym at) c.store.ensures.bit in (c.store.ensures.stores.2.pass, (wrote.bit, wrote.written, wrote.undrawn, tt))

pub returns : goal.returns
returns g c = let b = c.args.board.now in let find = c.search-found in let step = c.release-2.ensures.step.1 in let s = c.store.ensures in
    record {
      writes = ends_stored b c.args.write.now.condition g.request _ _ _ _ _ c.requires.1.1.1.1.0 c.requires.1.0.bucket refl
          _ _ _ _ c.requires.0 c.if-not-take_to_write.ensures.takes find.ensures.idles find.ensures.searches _ _
          c.refusal.ensures.peeks c.refusal.ensures.told _ c.make_room.result c.make_room.ensures.makes
          c.make_room.ensures.steps c.in-Some-make_room.target c.in-Some-make_room.is
          (λ none. false≢true (c.in-Ok.ensures.no_room.1 none)) c.in_default-refusal.is c.in-Ok.row.segment
          c.in-Ok.row.row _ _ s.stores s.segments s.uses c.release-2.ensures.did c.release-2.ensures.free
          step.plain step.memo
          (λ none. stored_steps g.request c.args.pass.now c.take_to_write.new.pass find.new.pass c.refusal.new.pass
          c.take_to_write.ensures.steps find.ensures.steps c.refusal.ensures.steps c.make_room.new.pass
          c.store.new.pass c.release-2.new.pass none s.steps
          (one_step b c.store.new.pass c.release-2.new.pass _ _ step))
          (λ grows. grown_steps g.request c.args.pass.now c.take_to_write.new.pass find.new.pass c.refusal.new.pass
          c.take_to_write.ensures.steps find.ensures.steps c.refusal.ensures.steps b.shape c.make_room.new.pass
          c.store.new.pass c.release-2.new.pass grows s.steps
          (one_step b c.store.new.pass c.release-2.new.pass _ _ step));
    }
