use Rattle.std.proofs.Common.{◌≤◌, length, arith}
use Rattle.segindex.specs.Words.{board_of}
use Rattle.segindex.proofs.Looking.{looked_more, looked_none, looks_ahead}
use Rattle.segindex.proofs.index.Index.look_ahead.Goals as goal

pub loop-place-init : goal.loop-place-init
loop-place-init c = record {
  looked = looked_none (board_of c.args.self.now) c.args.pass.now c.requires.quiet.pass;
}

pub seek_among-requires : goal.seek_among-requires
seek_among-requires c = record { pass = c.loop-place.invariant.looked.idles.moved.pass }

pub loop-place-preserved : goal.loop-place-preserved
loop-place-preserved c = record {
  looked = looked_more (board_of c.args.self.now) c.loop-place.place c.args.pass.now c.loop-place.pass c.seek_among.new.pass
      c.loop-place.invariant.looked c.seek_among.ensures.looks;
}

pub returns : goal.returns
returns c =
    let few : c.loop-place.place ≤ length c.args.keys.now = (let within = c.loop-place.auto.place-end in omega (arith, within)) in record {
      looks = looks_ahead (board_of c.args.self.now) (length c.args.keys.now) c.loop-place.place c.args.pass.now c.loop-place.pass
          c.requires.quiet few c.loop-place.invariant.looked;
    }
