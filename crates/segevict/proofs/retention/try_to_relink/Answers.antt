use Rattle.std.proofs.Common.{arith}
use Rattle.segstore.proofs.Looks.{one_step}
use Rattle.segstore.proofs.Seconds.{unpacked}
use Rattle.segevict.proofs.Relinking.{in_rows, in_segments, may_relink, parts_of, tried}
use Rattle.segevict.proofs.retention.try_to_relink.Goals as goal

pub invariant_of-item : goal.invariant_of-item
invariant_of-item g c = let b = c.args.board.now in let r = c.requires in let x = c.unwrap-seen.result in let into = c.args.to.segment in let to = c.args.to.row in record {
  tag_above_zero = x.tag_above_zero;
  tag_in_range = x.tag_in_range;
  freq_in_range = x.freq_in_range;
  seg_in_range = in_segments b g.named into to c.args.target.place c.args.target.word c.args.pass.now r.0 r.1;
  row_in_range = in_rows b g.named into to c.args.target.place c.args.target.word c.args.pass.now r.0 r.1;
}

pub move_item-requires : goal.move_item-requires
move_item-requires g c = let b = c.args.board.now in let p = c.args.pass.now in let r = c.requires in let x = c.unwrap-seen.result in
    let word = unpacked c.unpack.result x c.args.target.word c.unpack.ensures.some c.unwrap-seen.ensures in (
      r.0,
      (
        parts_of b g.named c.args.to.segment c.args.to.row c.args.target.place c.args.target.word p r.0 r.1 x
            word,
        may_relink b g.named c.args.to.segment c.args.to.row c.args.target.place c.args.target.word p r.0 r.1
            x.freq,
      ),
    )

pub returns : goal.returns
returns g c = let r = c.requires in let m = c.move_item.ensures in let step = m.step.1 in record {
  tries = tried c.args.board.now g.named c.args.to.segment c.args.to.row c.args.target.place c.args.target.word
      c.args.pass.now c.move_item.new.pass c.move_item.result r.1.earlier m.moved m.missed step.plain step.memo;
  steps = (let one = one_step c.args.board.now c.args.pass.now c.move_item.new.pass _ _ step in omega (arith, one));
}
