use Rattle.std.proofs.Common.{arith}
use Rattle.segindex.specs.Words.{board_of}
use Rattle.segindex.proofs.Looking.{looked_more, looked_none, looks_ahead}
use Rattle.segindex.proofs.index.Index.seek.Goals as goal

pub returns : goal.returns
returns c = let b = board_of c.args.self.now in let quiet = c.requires.quiet in record {
  looks = looks_ahead b 1 1 c.args.pass.now c.seek.new.pass quiet (omega arith)
      (looked_more b 0 c.args.pass.now c.args.pass.now c.seek.new.pass (looked_none b c.args.pass.now quiet.pass) c.seek.ensures.looks);
}
