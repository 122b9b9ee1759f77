use Rattle.std.proofs.Common.{◌∙◌}
use Rattle.segread.proofs.HoldCalls.{minds_hold, sets_now}
use Rattle.segread.proofs.held.set_hold.Goals as goal

pub remember-requires : goal.remember-requires
remember-requires g c = minds_hold c.args.board.now c.args.pass.now c.set_holding.new.self g.held _ c.requires.0 c.requires.1.0 c.set_holding.ensures

pub returns-clause-sets : goal.returns-clause-sets
returns-clause-sets g c = let r = c.remember.ensures in
    sets_now c.args.pass.now c.set_holding.new.self c.remember.new.pass g.held _ (c.is_some.ensures ∙ c.requires.1.1) c.set_holding.ensures r.same.1 r.memo
