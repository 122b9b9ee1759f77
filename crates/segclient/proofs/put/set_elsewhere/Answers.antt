use Rattle.segindex.specs.Words.{board_of}
use Rattle.segevict.proofs.RowsOut.{goes_then}
use Rattle.segclient.proofs.Added.{chosen_on}
use Rattle.segclient.proofs.put.set_elsewhere.Goals as goal

pub set_if_timely-requires : goal.set_if_timely-requires
set_if_timely-requires c = record {
  quiet = (chosen_on (board_of c.args.index.now) c.args.pass.now c.choose.new.pass c.requires.quiet c.choose.ensures.chooses).on.quiet;
}

pub returns-clause-on : goal.returns-clause-on
returns-clause-on c =
    let b = board_of c.args.index.now in
    let p = c.args.pass.now in
    let chosen = c.choose.new.pass in
    let last = c.set_if_timely in
    goes_then b p chosen last.new.pass (chosen_on b p chosen c.requires.quiet c.choose.ensures.chooses).on last.ensures.on

pub returns-clause-sets : goal.returns-clause-sets
returns-clause-sets c = (c.choose.new.pass, c.choose.ensures, c.set_if_timely.ensures.sets)
