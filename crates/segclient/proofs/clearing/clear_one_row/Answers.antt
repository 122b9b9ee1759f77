use Rattle.std.proofs.Common.{Some, refl, arith}
use Rattle.segindex.specs.Words.{board_of}
use Rattle.segclient.proofs.OneTurn.{clears_as}
use Rattle.segclient.proofs.clearing.clear_one_row.Goals as goal

pub returns-then-unwrap_or-source-clause-clears : goal.returns-then-unwrap_or-source-clause-clears
returns-then-unwrap_or-source-clause-clears c = let b = board_of c.args.index.now in let terms = c.args.terms in let turn = c.end_source in
    clears_as b (Some terms.least) 1 2 turn.result.effort turn.result.effort c.args.pass.now turn.new.pass (omega arith) refl (turn.ensures.clears (Some terms.least))

pub returns-then-not-is_fresh-clause-clears : goal.returns-then-not-is_fresh-clause-clears
returns-then-not-is_fresh-clause-clears c = let b = board_of c.args.index.now in let terms = c.args.terms in let turn = c.evict_one in
    clears_as b (Some terms.least) 1 2 turn.result.effort turn.result.effort c.args.pass.now turn.new.pass (omega arith) refl (turn.ensures.clears (Some terms.least))

pub returns-in_default-deadline-clause-clears : goal.returns-in_default-deadline-clause-clears
returns-in_default-deadline-clause-clears c = let b = board_of c.args.index.now in let terms = c.args.terms in let turn = c.evict_one-in_default-deadline in
    clears_as b (Some terms.least) 1 2 turn.result.effort turn.result.effort c.args.pass.now turn.new.pass (omega arith) refl (turn.ensures.clears (Some terms.least))

pub returns-then-can_open-clause-clears : goal.returns-then-can_open-clause-clears
returns-then-can_open-clause-clears c = let b = board_of c.args.index.now in let terms = c.args.terms in let turn = c.open_main in
    clears_as b (Some terms.least) 1 2 turn.result.effort turn.result.effort c.args.pass.now turn.new.pass (omega arith) refl (turn.ensures.clears (Some terms.least))

pub returns-clause-clears : goal.returns-clause-clears
returns-clause-clears c = let b = board_of c.args.index.now in let terms = c.args.terms in let turn = c.evict_one-2 in
    clears_as b (Some terms.least) 1 2 turn.result.effort turn.result.effort c.args.pass.now turn.new.pass (omega arith) refl (turn.ensures.clears (Some terms.least))
