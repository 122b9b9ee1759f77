use Rattle.std.proofs.Common.{refl, sym, ap, ◌∙◌, subst}
use Rattle.segbase.specs.Words.{number}
use Rattle.segindex.specs.Words.{board_of}
use Rattle.segtally.specs.Rings.{IsOwnRing}
use Rattle.segclient.specs.Clearing.{IsCleared}
use Rattle.segclient.specs.Counting.{counted}
use Rattle.segclient.proofs.Cleared.{delete_stays, member_goes}
use Rattle.segclient.proofs.member.Member.delete.Goals as goal

pub returns-clause-member : goal.returns-clause-member
returns-clause-member c =
    let b = board_of c.args.index.now in
    let old = c.args.self.now in
    let call = c.delete_and_tell-told in
    let queues = c.tell_deleted.ensures in
    let goes = member_goes c.args.index.now old call.new.pass c.requires.member call.ensures.deletes.on
    (delete_stays b old.pass call.new.pass c.requires.member.0 _ _ call.result.0 call.ensures.deletes) in
    (goes.0, subst (IsOwnRing b.shape (number call.new.pass)) (sym queues.ring) goes.1, subst (λ source. IsCleared b.shape source call.new.pass) (sym queues.source) goes.2)

pub returns-clause-deletes : goal.returns-clause-deletes
returns-clause-deletes c =
    let call = c.delete_and_tell-told in
    let queues = c.tell_deleted.ensures in
    record {
      deletes = call.ensures.deletes;
      counts = c.count.ensures ∙ ap (λ tally. counted tally c.args.self.now.stats) c.of_delete.ensures;
      draws = refl;
      settings = record { number = call.ensures.deletes.on.same; clock = refl; time_to_live = refl; cutoff = refl; queues = queues.queues };
      unqueued = queues.unqueued;
    }
