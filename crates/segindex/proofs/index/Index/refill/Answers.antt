use Rattle.std.proofs.Common.{Some}
use Rattle.segindex.proofs.Refills.{refill_goes_on, refill_answers, refill_costs_nothing, refill_held}
use Rattle.segindex.proofs.index.Index.refill.Goals as goal

pub refill-requires : goal.refill-requires
refill-requires c = record { pass = c.requires.pass.pass; segments = c.requires.pass.segments }

pub returns : goal.returns
returns c =
    let b = c.args.self.now.board in let s = c.args.segment in let p = c.args.pass.now in let q = c.refill.new.pass in
    let told = c.refill.result in let r = c.refill.ensures in
    record {
      refills = record {
        on = refill_goes_on b s c.args.deadline (Some s) told p q c.requires.pass r.outcome r.segments;
        answer = refill_answers b s c.args.deadline (Some s) told p q c.requires.pass r.outcome;
        not_yours = r.not_yours;
        in_use = r.in_use;
        held = refill_held b s c.args.deadline (Some s) told p q c.requires.pass r.outcome r.not_yours.0 r.in_use.0;
        costs_nothing = refill_costs_nothing b s c.args.deadline (Some s) told p q r.outcome;
      };
    }
