use Rattle.segindex.specs.Words.{board_of}
use Rattle.segclient.proofs.Steps.{nothing_cleared}
use Rattle.segclient.proofs.clearing.clear_some.Goals as goal

pub returns-in_default-clause-clears : goal.returns-in_default-clause-clears
returns-in_default-clause-clears c = nothing_cleared (board_of c.args.index.now) c.args.cutoff c.none.result c.args.pass.now c.none.ensures

pub returns-in_default-as_mut-clause-clears : goal.returns-in_default-as_mut-clause-clears
returns-in_default-as_mut-clause-clears c =
    nothing_cleared (board_of c.args.index.now) c.args.cutoff
    c.none-in_default-as_mut.result c.args.pass.now c.none-in_default-as_mut.ensures
