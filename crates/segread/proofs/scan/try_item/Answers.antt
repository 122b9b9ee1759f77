use Rattle.std.proofs.Common.{◌<◌, sym, ap, subst, ◌∙◌, arith}
use Rattle.segword.specs.Words.{IsSameItem, item_word}
use Rattle.segstore.specs.Words.{IsKeyed, IsReaderIn, segment_part}
use Rattle.segcore.specs.Words.{inside}
use Rattle.segbase.specs.Words.{number, trace}
use Rattle.segbase.proofs.Moves.{moved_on, is_inside}
use Rattle.segstore.proofs.Words.{chained_later, same_segment}
use Rattle.segstore.proofs.Seconds.{segment_of_item}
use Rattle.segstore.proofs.Readers.{looks, enters, then_reader}
use Rattle.segread.proofs.ComingIn.{looked, came_in, try_out}
use Rattle.segread.specs.Scanning.{HasDeadline, IsTrial, ReturnsDeadline, TriesInSeven}
use Rattle.segread.proofs.Deadlines.{deadline_lasts}
use Rattle.segread.proofs.Pacing.{tried_and_left}
use Rattle.segread.proofs.Tries.{keyed_from, no_deadline, trial_gone, trial_out}
use Rattle.segread.proofs.scan.try_item.Goals as goal

pub read_keyed-keyed-requires-clause-place : goal.read_keyed-keyed-requires-clause-place
read_keyed-keyed-requires-clause-place c = let m = c.enter_segment-deadline.ensures.enters.did.moved in
    chained_later c.args.board.now.shape (trace c.args.pass.now) (trace c.enter_segment-deadline.new.pass)
    c.args.place m.pass.lawful (moved_on c.args.board.now _ c.args.pass.now c.enter_segment-deadline.new.pass m)
    c.requires.place

pub read_keyed-keyed-requires-clause-inside : goal.read_keyed-keyed-requires-clause-inside
read_keyed-keyed-requires-clause-inside c = let b = c.args.board.now in let q = c.enter_segment-deadline.new.pass in
    subst (λ s. 0 < inside (trace q) (number q) s) (segment_of_item c.args.item ∙ ap segment_part (sym c.pack.ensures))
    (is_inside b c.args.pass.now q c.args.item.seg (enters b c.args.pass.now q c.args.item.seg c.enter_segment-deadline.ensures.enters).reads)

pub leave_segment-requires : goal.leave_segment-requires
leave_segment-requires c = let b = c.args.board.now in let e = c.enter_segment-deadline in let r = c.read_keyed-keyed in
    let i = then_reader b c.args.pass.now e.new.pass r.new.pass c.args.item.seg
    (enters b c.args.pass.now e.new.pass c.args.item.seg e.ensures.enters)
    (looks b e.new.pass r.new.pass r.ensures.looked) in
    record { pass = i.reads.moved.pass; segment = c.requires.may.suits.1; inside = is_inside b c.args.pass.now r.new.pass c.args.item.seg i.reads }

pub returns-in-Same : goal.returns-in-Same
returns-in-Same c = let b = c.args.board.now in let p = c.args.pass.now in let e = c.enter_segment-deadline in let r = c.read_keyed-keyed in let item = c.args.item in let x = c.in-Same in
    let comes = enters b p e.new.pass item.seg e.ensures.enters in
    let i = then_reader b p e.new.pass r.new.pass item.seg comes (looks b e.new.pass r.new.pass r.ensures.looked) in
    let keyed = subst (λ w. IsKeyed b.shape c.args.place w c.args.key.now r.result (trace e.new.pass) (trace r.new.pass)) c.pack.ensures r.ensures.keyed in
    let is_same : IsSameItem (item_word item) (item_word x.item) = (subst (λ k. IsKeyed b.shape c.args.place (item_word item) c.args.key.now k (trace e.new.pass) (trace r.new.pass)) x.is keyed).0 in
    let same = segment_of_item item ∙ (same_segment (item_word item) (item_word x.item) is_same ∙ sym (segment_of_item x.item)) in record {
      tries = record {
        reads = subst (λ k. IsTrial b k p r.new.pass) (sym x.is) (subst (IsReaderIn b p r.new.pass) same i);
        once = try_out p e.new.pass r.new.pass (came_in b item.seg p e.new.pass e.ensures.enters.did.moved) (looked b e.new.pass r.new.pass r.ensures.looked.did.moved);
        keyed = keyed_from b.shape c.args.place (item_word item) c.args.key.now r.result (trace e.new.pass) (trace r.new.pass) (trace p) (moved_on b _ p e.new.pass e.ensures.enters.did.moved) keyed;
        deadline = subst (λ k. ReturnsDeadline b.shape k e.result (trace r.new.pass)) (sym x.is)
            (subst (λ s. HasDeadline b.shape s e.result (trace r.new.pass)) same
            (deadline_lasts b e.new.pass r.new.pass item.seg e.result r.ensures.looked.did.moved (is_inside b p e.new.pass item.seg comes.reads) (sym e.ensures.deadline)));
      };
      steps = subst (λ k. TriesInSeven k p r.new.pass) (sym x.is) (let into = e.ensures.enters.steps in let read = r.ensures.steps in omega (arith, into, read));
    }

pub returns : goal.returns
returns c = let b = c.args.board.now in let p = c.args.pass.now in let e = c.enter_segment-deadline in let r = c.read_keyed-keyed in let l = c.leave_segment in let other = c.in_default.not-Same in
    let left = trial_gone b c.args.place c.args.item c.args.key.now r.result p e.new.pass r.new.pass l.new.pass e.ensures.enters r.ensures.looked
    (subst (λ w. IsKeyed b.shape c.args.place w c.args.key.now r.result (trace e.new.pass) (trace r.new.pass)) c.pack.ensures r.ensures.keyed) other l.ensures in
    record {
      tries = record { once = left.0; reads = trial_out b r.result p l.new.pass other left.1; keyed = left.2; deadline = no_deadline b.shape r.result e.result (trace l.new.pass) other };
      steps = tried_and_left r.result p l.new.pass other (let into = e.ensures.enters.steps in let read = r.ensures.steps in let out = l.ensures.steps in omega (arith, into, read, out));
    }
