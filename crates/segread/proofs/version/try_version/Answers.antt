use Rattle.std.proofs.Common.{◌/◌, ◌^◌, ◌≤◌, refl, sym, subst, arith}
use Rattle.std.proofs.lemmas.Bool.{false≢true}
use Rattle.segword.specs.Words.{IsSameItem, item_word}
use Rattle.segbase.specs.Words.{position, trace}
use Rattle.segbase.proofs.Moves.{is_inside, moved_on}
use Rattle.segread.proofs.ComingIn.{attempts, scans_once, words_few}
use Rattle.segread.proofs.Disturbing.{by_entries}
use Rattle.segread.proofs.Tries.{has_tag}
use Rattle.segread.proofs.Scans.{in_chain, place_later}
use Rattle.segread.proofs.Striding.{strides_again, strides_hit, strides_to}
use Rattle.segread.proofs.Versions.{left, again_held, again_changed, goes_past, ends_past, hit_told, past_words}
use Rattle.segread.proofs.version.try_version.Goals as goal

pub leave_segment-requires-clause-segment : goal.leave_segment-requires-clause-segment
leave_segment-requires-clause-segment c = c.in-Found.ensures.sight.2.in_table

pub returns-then-info : goal.returns-then-info
returns-then-info c =
    let b = c.args.board.now in let key = c.args.call.now.sought.key in let s = c.in-Found.ensures.sight in
    let m = s.0 in let l = c.see_version.new.pass in let r = c.leave_segment in let f = c.in-Found in
    let from = position b.shape (trace m) c.args.place in
    let reads = left b key c.args.call.now.clock from c.args.tries f.hit f.info f.word m l r.new.pass s.2 r.ensures in record {
      attempt = (m, s.1, (reads, again_held b key c.args.call.now.clock from c.args.tries f.hit f.info f.word m l r.new.pass s.2 r.ensures c.if-info.true));
      steps = strides_again b key (position b.shape (trace c.args.pass.now) c.args.place) f.hit.item.seg f.hit.place c.args.pass.now l r.new.pass f.ensures.steps r.ensures s.2.place;
    }

pub returns-then-same_item : goal.returns-then-same_item
returns-then-same_item c =
    let b = c.args.board.now in let key = c.args.call.now.sought.key in let s = c.in-Found.ensures.sight in
    let m = s.0 in let l = c.see_version.new.pass in let f = c.in-Found in let x = s.2 in
    let same = subst (λ w. IsSameItem w f.word) c.pack.ensures (c.if-same_item.ensures.0 refl) in record {
      attempt = (
        m,
        s.1,
        hit_told b key c.args.call.now.clock (position b.shape (trace m) c.args.place) c.args.tries f.hit f.info f.word m l x c.if-info.false same,
      );
      steps = strides_hit (position b.shape (trace c.args.pass.now) c.args.place) (position b.shape (trace l) f.hit.place) c.args.pass.now l
          (in_chain b.shape (trace l) f.hit.place x.reads.reads.moved.pass.lawful x.place.0).1 f.ensures.steps;
    }

pub returns-in-Some : goal.returns-in-Some
returns-in-Some c =
    let b = c.args.board.now in let key = c.args.call.now.sought.key in let s = c.in-Found.ensures.sight in
    let m = s.0 in let l = c.see_version.new.pass in let r = c.leave_segment-in-Found in let f = c.in-Found in
    let from = position b.shape (trace m) c.args.place in
    let other : ¬ (IsSameItem (item_word f.hit.item) f.word) = λ same. false≢true (c.if-same_item.ensures.1 (subst (λ w. IsSameItem w f.word) (sym c.pack.ensures) same)) in
    let reads = left b key c.args.call.now.clock from c.args.tries f.hit f.info f.word m l r.new.pass s.2 r.ensures in record {
      attempt = (
        m,
        s.1,
        (
          reads,
          again_changed b key c.args.call.now.clock from c.args.tries f.hit f.info
              f.word m l r.new.pass s.2 r.ensures other
              (subst (λ w. 1 ≤ w / 2 ^ 52) c.in-Some.ensures.some.0 (has_tag c.in-Some._other)),
        ),
      );
      steps = strides_again b key (position b.shape (trace c.args.pass.now) c.args.place) f.hit.item.seg f.hit.place c.args.pass.now l r.new.pass f.ensures.steps r.ensures s.2.place;
    }

pub returns-in-Some-next_place : goal.returns-in-Some-next_place
returns-in-Some-next_place c =
    let b = c.args.board.now in let key = c.args.call.now.sought.key in let s = c.in-Found.ensures.sight in
    let m = s.0 in let l = c.see_version.new.pass in let r = c.leave_segment-in-Found in let f = c.in-Found in
    let from = position b.shape (trace m) c.args.place in
    let reads = left b key c.args.call.now.clock from c.args.tries f.hit f.info f.word m l r.new.pass s.2 r.ensures in record {
      attempt = (
        m,
        s.1,
        (
          reads,
          goes_past b key c.args.call.now.clock from c.args.tries f.hit f.info f.word
              m l r.new.pass s.2 r.ensures c.requires.pass.valid c.args.call.now.sought.tag c.requires.sought.tag
              (c.in_default.ensures.none refl) c.if-info.false c.in-Some-next_place.next c.in-Some-next_place.ensures,
        ),
      );
      steps =
          let start = position b.shape (trace c.args.pass.now) c.args.place in let next = c.in-Some-next_place.next in
          let words = past_words b key c.args.call.now.clock from c.args.tries f.hit f.info f.word m l
          r.new.pass s.2 r.ensures c.requires.pass.valid c.args.call.now.sought.tag c.requires.sought.tag
          (c.in_default.ensures.none refl) c.if-info.false next c.in-Some-next_place.ensures in
          strides_to start (position b.shape (trace r.new.pass) f.hit.place) (position b.shape (trace r.new.pass) next) c.args.pass.now r.new.pass words
          (strides_again b key start f.hit.item.seg f.hit.place c.args.pass.now l r.new.pass f.ensures.steps r.ensures s.2.place);
    }

pub returns-in-None : goal.returns-in-None
returns-in-None c =
    let b = c.args.board.now in let key = c.args.call.now.sought.key in let s = c.in-Found.ensures.sight in
    let m = s.0 in let l = c.see_version.new.pass in let r = c.leave_segment-in-Found in let f = c.in-Found in
    let from = position b.shape (trace m) c.args.place in
    let reads = left b key c.args.call.now.clock from c.args.tries f.hit f.info f.word m l r.new.pass s.2 r.ensures in record {
      attempt = (
        m,
        s.1,
        (
          reads,
          ends_past b key c.args.call.now.clock from c.args.tries f.hit f.info f.word
              m l r.new.pass s.2 r.ensures c.requires.pass.valid c.args.call.now.sought.tag c.requires.sought.tag
              (c.in_default.ensures.none refl) c.if-info.false c.in-None.ensures,
        ),
      );
      steps =
          let start = position b.shape (trace c.args.pass.now) c.args.place in let at = position b.shape (trace r.new.pass) f.hit.place in
          let few = words_few at (in_chain b.shape (trace r.new.pass) f.hit.place reads.reads.moved.pass.lawful
          (place_later b.shape key f.hit.place (trace l) (trace r.new.pass) reads.reads.moved.pass.lawful
          (moved_on b _ l r.new.pass r.ensures.moved) s.2.place).0).1 in
          strides_to start at 32 c.args.pass.now r.new.pass (omega (arith, few))
          (strides_again b key start f.hit.item.seg f.hit.place c.args.pass.now l r.new.pass f.ensures.steps
          r.ensures s.2.place);
    }

pub returns-in-Absent : goal.returns-in-Absent
returns-in-Absent c = let b = c.args.board.now in let s = c.in-Absent.ensures.sight in let m = s.0 in let q = c.see_version.new.pass in record {
  attempt = s;
  steps = c.in-Absent.ensures.steps;
}

pub returns-in-Busy : goal.returns-in-Busy
returns-in-Busy c = let b = c.args.board.now in let q = c.see_version.new.pass in let s = c.in-Busy.ensures.sight in let m = s.0 in let x = s.2 in record {
  attempt = (
    m,
    s.1,
    (
      x.0,
      by_entries b c.args.call.now.sought.key c.args.call.now.clock c.args.tries 64 m q x.0 x.1.counts,
      attempts (position b.shape (trace m) c.args.place) 32 c.args.tries 63 m q x.1.tried,
      scans_once m q x.1.tried.only_scans,
    ),
  );
  steps = c.in-Busy.ensures.steps;
}

pub leave_segment-requires-clause-inside : goal.leave_segment-requires-clause-inside
leave_segment-requires-clause-inside c = let s = c.in-Found.ensures.sight in is_inside c.args.board.now s.0 c.see_version.new.pass c.in-Found.hit.item.seg s.2.reads.reads

pub leave_segment-requires-in-Found-clause-inside : goal.leave_segment-requires-in-Found-clause-inside
leave_segment-requires-in-Found-clause-inside c = let s = c.in-Found.ensures.sight in is_inside c.args.board.now s.0 c.see_version.new.pass c.in-Found.hit.item.seg s.2.reads.reads
