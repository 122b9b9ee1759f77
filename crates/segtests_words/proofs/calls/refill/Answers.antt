use Rattle.std.proofs.Common.{Some}
use Rattle.segindex.proofs.Refills.{refill_goes_on}
use Rattle.segtests_words.proofs.calls.refill.Goals as goal

pub refill-requires : goal.refill-requires
refill-requires c = record { pass = c.requires.quiet.pass; segments = c.requires.quiet.segments }

pub returns : goal.returns
returns c =
    let r = c.refill.ensures in
    record {
      quiet = (refill_goes_on c.args.board.now c.args.segment c.args.deadline (Some c.args.segment) c.refill.result c.args.pass.now c.refill.new.pass c.requires.quiet r.outcome r.segments).quiet;
    }
