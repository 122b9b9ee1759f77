use Rattle.segbase.proofs.Stepping.{starts}
use Rattle.segwrite.proofs.Places.{step_idles}
use Rattle.segevict.proofs.Naming.{quiet_still}
use Rattle.segindex.specs.Words.{board_of}
use Rattle.segindex.proofs.Stats.{tells_stats}
use Rattle.segindex.proofs.index.Index.stats.Goals as goal

pub count_rows-rows-requires : goal.count_rows-rows-requires
count_rows-rows-requires c = let b = board_of c.args.self.now in let d = c.drawn_overflow-overflow_buckets in
    record { quiet = quiet_still b c.args.pass.now d.new.pass c.requires.quiet (step_idles b _ _ c.args.pass.now d.new.pass d.ensures.step d.ensures.did) }

pub returns : goal.returns
returns c = let b = board_of c.args.self.now in let d = c.drawn_overflow-overflow_buckets in let r = c.count_rows-rows in record {
  reads = tells_stats b _ c.args.pass.now d.new.pass r.new.pass c.requires.quiet
      (step_idles b _ _ c.args.pass.now d.new.pass d.ensures.step d.ensures.did) (
        _,
        starts c.args.pass.now d.new.pass _ _ d.ensures.step.told,
      ) d.ensures.drawn r.ensures.idles r.ensures.counts;
}
