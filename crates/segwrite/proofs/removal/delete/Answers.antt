use Rattle.std.proofs.Common.{false, refl, ap, ◌∙◌, subst}
use Rattle.segmodel.specs.declared.request.Request.TheVariants.{Delete}
use Rattle.segmodel.specs.Words.{bucket_of}
use Rattle.segstore.specs.Words.{TakesToWrite, TookToWrite}
use Rattle.segwrite.specs.Refusing.{Removes}
use Rattle.segwrite.proofs.Deleting.{deletes, deletes_nothing}
use Rattle.segstore.proofs.Refills.{idles}
use Rattle.segwrite.proofs.Presence.{may_enter}
use Rattle.segwrite.proofs.removal.delete.Goals as goal

pub returns-then-not-take_to_write : goal.returns-then-not-take_to_write
returns-then-not-take_to_write c = let b = c.args.board.now in let s = c.of-sought.ensures in
    let home = s.sought.bucket ∙ ap (bucket_of b.shape) s.key in
    record {
      deletes = deletes_nothing b c.args.key.now c.args.now c.args.pass.now c.take_to_write.new.pass
          (subst (λ k. TakesToWrite b k false c.args.pass.now c.take_to_write.new.pass) home
          c.if-not-take_to_write.ensures.takes) c.take_to_write.ensures.steps;
    }

pub remove-requires : goal.remove-requires
remove-requires c = let b = c.args.board.now in let s = c.of-sought in let took = c.if-not-take_to_write.ensures.takes in let q = c.take_to_write.new.pass in
    (took.takes.2.pass, (took.takes.3, (s.ensures.sought, (may_enter b s.result.bucket c.args.pass.now q q c.requires.quiet took (idles b q took.takes.2.pass), refl))))

pub returns : goal.returns
returns c = let b = c.args.board.now in let s = c.of-sought.ensures in
    let home = s.sought.bucket ∙ ap (bucket_of b.shape) s.key in
    record {
      deletes = deletes b c.args.key.now c.args.now _ _ _ c.requires.quiet
          (subst (λ k. TookToWrite b k c.args.pass.now c.take_to_write.new.pass) home
          c.if-not-take_to_write.ensures.takes) c.take_to_write.ensures.steps c.remove.result.0
          (subst (λ k. Removes b (Delete k c.args.now) c.remove.result.0 c.take_to_write.new.pass c.remove.new.pass) s.key c.remove.ensures.removes) c.remove.ensures.steps;
    }
