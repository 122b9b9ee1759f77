use Rattle.std.proofs.Common.{arith}
use Rattle.segevict.proofs.Unlinking.{takes_none, may_clear, takes_one}
use Rattle.segevict.proofs.eviction.clear_row.Goals as goal

pub returns-in_default-clause-takes : goal.returns-in_default-clause-takes
returns-in_default-clause-takes c = let r = c.requires in let f = c.find_row.ensures in
    takes_none c.args.board.now c.args.bucket c.args.item c.args.pass.now c.find_row.new.pass r.stored r.bit f.idles c.in_default.ensures.finds

pub clear-requires : goal.clear-requires
clear-requires c = let r = c.requires in let f = c.find_row.ensures in
    let may = may_clear c.args.board.now c.args.bucket c.args.item c.args.pass.now c.find_row.new.pass r.stored r.bit f.idles c.in-Some.target c.in-Some.ensures.finds in
    (f.idles.moved.pass, (may.0, (may.1, (may.2, may.3))))

pub returns-clause-takes : goal.returns-clause-takes
returns-clause-takes c = let r = c.requires in let f = c.find_row.ensures in
    takes_one c.args.board.now c.args.bucket c.args.item c.args.pass.now c.find_row.new.pass r.stored r.bit f.idles c.in-Some.target c.in-Some.ensures.finds c.clear.new.pass c.clear.ensures.did

pub returns-clause-steps : goal.returns-clause-steps
returns-clause-steps c = let looked = c.find_row.ensures.steps in let cleared = c.clear.ensures.steps in omega (arith, looked, cleared)
