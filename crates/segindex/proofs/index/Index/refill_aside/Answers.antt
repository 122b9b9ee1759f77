use Rattle.segbase.specs.Words.{current_of}
use Rattle.segindex.proofs.Refills.{refill_goes_on, refill_answers, refill_costs_nothing, refill_held}
use Rattle.segindex.proofs.index.Index.refill_aside.Goals as goal

pub refill_aside-requires : goal.refill_aside-requires
refill_aside-requires c = record { pass = c.requires.pass.pass; segments = c.requires.pass.segments }

pub returns : goal.returns
returns c =
    let b = c.args.self.now.board in let s = c.args.segment in let p = c.args.pass.now in let q = c.refill_aside.new.pass in
    let told = c.refill_aside.result in let r = c.refill_aside.ensures in
    record {
      refills = record {
        on = refill_goes_on b s c.args.deadline (current_of p) told p q c.requires.pass r.outcome r.segments;
        answer = refill_answers b s c.args.deadline (current_of p) told p q c.requires.pass r.outcome;
        not_yours = r.not_yours;
        in_use = r.in_use;
        held = refill_held b s c.args.deadline (current_of p) told p q c.requires.pass r.outcome r.not_yours.0 r.in_use.0;
        costs_nothing = refill_costs_nothing b s c.args.deadline (current_of p) told p q r.outcome;
      };
    }
