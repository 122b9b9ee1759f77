use Rattle.segcore.proofs.Moments.{begins_on}
use Rattle.std.proofs.Common.{arith, ◌≡◌, ◌+◌, ◌%◌, ◌^◌, [], subst}
use Rattle.segmodel.specs.Words.{bucket_of}
use Rattle.segcore.specs.Words.{bucket_after}
use Rattle.segbase.specs.Words.{Glances, position, trace}
use Rattle.segbase.proofs.Moves.{is_inside, moved_on}
use Rattle.segstore.proofs.Looks.{one_step}
use Rattle.segread.proofs.ComingIn.{glance_once, looked, once_then}
use Rattle.segread.proofs.Striding.{hit_end, scan_unset, strides, strides_left, strides_seen}
use Rattle.segstore.proofs.Seconds.{looked_at}
use Rattle.segread.proofs.Disturbing.{still_no_bit}
use Rattle.segread.proofs.Versions.{is_seen, ends_missed, expires_missed}
use Rattle.segread.proofs.version.see_version.Goals as goal

pub returns-else-hit-call : goal.returns-else-hit-call
returns-else-hit-call c =
    let b = c.args.board.now in let z = b.shape in let p = c.args.pass.now in
    let key = c.args.call.now.sought.key in let f = c.in-Found in let s = f.ensures.scan in let m = s.0 in
    let q = c.scan_from.new.pass in let g = c.glance-info in let l = c.look-word in
    let step = g.ensures.step in let glances = subst (λ n. Glances b n g.result q g.new.pass) c.requires.sought.bucket g.ensures.glances in record {
      sight = (
        m,
        s.1,
        is_seen b key c.args.call.now.clock (position z (trace m) c.args.place) c.args.tries f.hit g.result
            l.result m q g.new.pass l.new.pass c.requires.pass.valid
            c.requires.versions
            (still_no_bit b key [] p m s.1.look.did.moved tt c.requires.free)
            s.2.0 s.2.1 glances step.plain step.memo
            (subst (λ n. g.result.version ≡ (z.first_version + (bucket_after z (trace g.new.pass) n).version) % 2 ^ 32) c.requires.sought.bucket g.ensures.version)
            (looked_at b g.new.pass l.new.pass f.hit.place l.result l.ensures.step) l.ensures.found c.if-hit-call.false,
      );
      steps =
          let looks = l.ensures.did.moved in
          let on = begins_on (trace q) (trace g.new.pass) (trace l.new.pass) (moved_on b _ q g.new.pass step.did.moved) (moved_on b _ g.new.pass l.new.pass looks) in
          let once = once_then q g.new.pass l.new.pass (glance_once b (bucket_of z key) g.result q g.new.pass glances) (looked b g.new.pass l.new.pass looks) in
          strides_seen b key (position z (trace p) c.args.place) (position z (trace m) c.args.place) c.args.tries
          f.hit p m q l.new.pass s.2.0 s.2.1 on looks.pass.lawful f.ensures.steps
          (scan_unset b key p m q s.1 s.2.1.tried.only_scans) once
          (let one = one_step b q g.new.pass _ _ step in let last = one_step b g.new.pass l.new.pass _ _ l.ensures.step in omega (arith, one, last));
    }

pub returns-then-hit-call : goal.returns-then-hit-call
returns-then-hit-call c = let b = c.args.board.now in let f = c.in-Found in let s = f.ensures.scan in let m = s.0 in
    record {
      sight = (
        m,
        s.1,
        expires_missed b c.args.call.now.sought.key c.args.call.now.clock (position b.shape (trace m) c.args.place)
            c.args.tries f.hit m c.scan_from.new.pass c.leave_segment.new.pass s.2.0 s.2.1 c.leave_segment.ensures
            (let past = c.if-hit-call.true in omega arith),
      );
      steps =
          let p = c.args.pass.now in let q = c.scan_from.new.pass in let key = c.args.call.now.sought.key in
          strides_left b (position b.shape (trace p) c.args.place) (position b.shape (trace q) f.hit.place + 1) f.hit.item.seg p q c.leave_segment.new.pass f.ensures.steps
          (hit_end b key (position b.shape (trace m) c.args.place) c.args.tries f.hit m q s.2.0 s.2.1) (scan_unset b key p m q s.1 s.2.1.tried.only_scans) c.leave_segment.ensures;
    }

pub returns-in-Passed : goal.returns-in-Passed
returns-in-Passed c = let b = c.args.board.now in let s = c.in-Passed.ensures.scan in let m = s.0 in
    let p = c.args.pass.now in let q = c.scan_from.new.pass in let key = c.args.call.now.sought.key in record {
      sight = (m, s.1, (s.2.0, ends_missed b key c.args.call.now.clock (position b.shape (trace m) c.args.place) c.args.tries m q s.2.1));
      steps = strides (position b.shape (trace p) c.args.place) 32 p q c.in-Passed.ensures.steps (omega arith) (scan_unset b key p m q s.1 s.2.1.tried.only_scans);
    }

pub returns-in-Busy : goal.returns-in-Busy
returns-in-Busy c = let b = c.args.board.now in let s = c.in-Busy.ensures.scan in let m = s.0 in let p = c.args.pass.now in let q = c.scan_from.new.pass in record {
  sight = s;
  steps = strides (position b.shape (trace p) c.args.place) 32 p q c.in-Busy.ensures.steps (omega arith) (scan_unset b c.args.call.now.sought.key p m q s.1 s.2.1.tried.only_scans);
}

pub leave_segment-requires-clause-inside : goal.leave_segment-requires-clause-inside
leave_segment-requires-clause-inside c = let s = c.in-Found.ensures.scan in is_inside c.args.board.now s.0 c.scan_from.new.pass c.in-Found.hit.item.seg s.2.0.reads
