use Rattle.segcore.specs.Words.{row_after}
use Rattle.segmodel.specs.Words.{stirred}
use Rattle.segword.specs.Words.{item_word}
use Rattle.segcore.specs.Event as event
use Rattle.segbase.proofs.Starting.{starts_on}
use Rattle.segstore.proofs.Still.{steps_to}
use Rattle.segstore.proofs.Readers.{enter_then, leave_then, looks}
use Rattle.segread.specs.declared.held.HoldAnswer.TheVariants.{Busy, Miss}
use Rattle.segread.specs.Reads.{ReadsBetween}
use Rattle.segread.proofs.Looking.{look_starts, out, since_look, up}
use Rattle.segread.proofs.Tries.{found_from}
use Rattle.segread.proofs.Deadlines.{expired_reads}
use Rattle.std.proofs.Common.{◌≤◌, None, Some, refl, ◌∙◌, arith, rules}
use Rattle.segbase.specs.Words.{seen, trace}
use Rattle.segstore.proofs.Idling.{goes_same}
use Rattle.segread.proofs.Answered.{gone_reads}
use Rattle.segread.proofs.ComingIn.{glances_none, leaves, raises_none, same_view, few_out}
use Rattle.segread.proofs.HoldCalls.{has_found, takes_hold, holds_none, takes_no_bit, draws_nothing}
use Rattle.segread.proofs.Pacing.{paced_from, same_steps}
use Rattle.segread.proofs.Holding.{held_at}
use Rattle.segread.proofs.RowValues.{found_in, value_in}
use Rattle.segread.proofs.held.hold_item.Goals as goal

pub set_hold-requires : goal.set_hold-requires
set_hold-requires c = let b = c.args.board.now in let key = c.args.key.now in let q = c.scan_for.new.pass in
    let f = c.in-Found in let hit = f.hit in let m = f.ensures.scan.0 in let x = f.ensures.scan.2 in
    let found = found_in b.shape hit.place hit.item hit.header key (trace m) (trace q) x.answer.0 in
    (x.reads.reads.moved.pass, (has_found b m q hit.place hit.item key (value_in (row_after (trace q) hit.item.seg hit.item.row)) x.reads found, refl))

pub returns-then-is_holding : goal.returns-then-is_holding
returns-then-is_holding c = record {
  holds = record {
    on = goes_same c.args.board.now c.args.pass.now c.requires.pass;
    answer = refl;
    already = search rules;
    costs = record {
      looks = record { takes_no_bit = record { taken = refl; bounced = λ bucket. refl }; draws_nothing = λ bucket. refl; tries = omega arith };
      steps = omega arith;
      glances_nothing = λ bucket. refl;
      raises_nothing = refl;
    };
  };
}

pub returns-then-hit-now : goal.returns-then-hit-now
returns-then-hit-now c = let b = c.args.board.now in let p = c.args.pass.now in let q = c.scan_for.new.pass in
    let r = c.leave_segment.new.pass in let f = c.in-Found in let hit = f.hit in let s = f.ensures.scan in
    let m = s.0 in let x = s.2 in
    let left = leaves b hit.item.seg q r c.leave_segment.ensures.moved in let reads = leave_then b m q r hit.item.seg x.reads c.leave_segment.ensures in record {
      holds = holds_none b c.args.key.now c.args.now Miss p m r c.requires.pass s.1 reads
          (let most = paced_from b c.args.key.now p m q 1 s.1 x.tries f.ensures.steps in
          let away = c.leave_segment.ensures.steps in omega (arith, most, away)) (few_out m q r x.tries left)
          (left.1 ∙ x.only_scans)
          (λ keeps. (
            keeps,
            since_look b p m r (λ start. ReadsBetween b.shape c.args.key.now c.args.now
                (event.seen start) (seen r) None) s.1 reads
                (expired_reads b c.args.key.now hit m q r c.args.now x.answer c.leave_segment.ensures (let past =
                c.if-hit-now.true in omega arith)),
          )) (search rules);
    }

pub returns-else-hit-now : goal.returns-else-hit-now
returns-else-hit-now c =
    let b = c.args.board.now in let p = c.args.pass.now in let q = c.scan_for.new.pass in let r = c.set_hold.new.pass in
    let f = c.in-Found in let hit = f.hit in let key = c.args.key.now in let set = c.set_hold.ensures in let s = f.ensures.scan in let m = s.0 in let x = s.2 in
    let value = value_in (row_after (trace q) hit.item.seg hit.item.row) in
    let later = found_in b.shape hit.place hit.item hit.header key (trace m) (trace q) x.answer.0 in
    let read = enter_then b p m q hit.item.seg (looks b p m s.1.look) x.reads in
    let found = found_from b.shape hit.place (item_word hit.item) key value (trace m) (trace q) (trace p) (up b key p m s.1) later in
    let starts = starts_on p m r (trace m) (look_starts b p m s.1) (steps_to m q r set.view x.reads.reads.moved.steps) in
    let holds = takes_hold b p q r hit.place hit.item key value
    (record { segment = hit.item.seg; row = hit.item.row }) c.requires.pass c.if-is_holding.ensures read found
    refl refl set.pass set.view set.sets c.args.now hit.deadline x.answer.1 c.if-hit-now.false (trace m) starts later.saw.between.0 in
    let held = Some (held_at b.shape (trace q) key value hit.item.seg) in
    let still = same_view q r set.view in
    let first = out b key p m s.1 in record {
      holds = record {
        on = holds.0;
        answer = holds.1;
        already = search rules;
        costs = record {
          looks = record {
            takes_no_bit = takes_no_bit b read.reads.own held p q r c.requires.pass read.reads.moved read.reads.only read.plain read.memo set.pass set.view set.sets;
            draws_nothing = draws_nothing b read.reads.own held p q r c.requires.pass read.reads.moved read.reads.only read.plain read.memo set.pass set.view set.sets;
            tries = let few = few_out m q r x.tries still in let same = first.0 in omega (arith, few, same);
          };
          steps = (let most = paced_from b key p m q 1 s.1 x.tries f.ensures.steps in let same = same_steps q r set.view in omega (arith, most, same));
          glances_nothing = glances_none p r (still.1 ∙ (x.only_scans ∙ first.1));
          raises_nothing = raises_none p r (still.1 ∙ (x.only_scans ∙ first.1));
        };
      };
    }

pub returns-in-Passed : goal.returns-in-Passed
returns-in-Passed c = let b = c.args.board.now in let p = c.args.pass.now in let q = c.scan_for.new.pass in let s = c.in-Passed.ensures.scan in let m = s.0 in let x = s.2 in record {
  holds = holds_none b c.args.key.now c.args.now Miss p m q c.requires.pass s.1 x.reads (let most =
      paced_from b c.args.key.now p m q 0 s.1 x.tries c.in-Passed.ensures.steps in
      omega (arith, most)) x.tries x.only_scans
      (λ keeps. (
        keeps,
        since_look b p m q (λ start. ReadsBetween b.shape c.args.key.now c.args.now
            (event.seen start) (seen q) None) s.1 x.reads
            (gone_reads b.shape c.args.key.now c.args.now (trace m) (trace q) x.answer),
      )) (search rules);
}

pub returns-in-Busy : goal.returns-in-Busy
returns-in-Busy c = let b = c.args.board.now in let p = c.args.pass.now in let q = c.scan_for.new.pass in let s = c.in-Busy.ensures.scan in let m = s.0 in let x = s.2 in record {
  holds = holds_none b c.args.key.now c.args.now Busy p m q c.requires.pass s.1 x.reads (let most =
      paced_from b c.args.key.now p m q 0 s.1 x.tries c.in-Busy.ensures.steps in
      omega (arith, most)) x.tries x.only_scans
      (λ keeps. (keeps, since_look b p m q (λ start. 64 ≤ stirred b.shape c.args.key.now (event.seen start) (seen q)) s.1 x.reads (let more = x.answer in omega (arith, more)))) (search rules);
}
