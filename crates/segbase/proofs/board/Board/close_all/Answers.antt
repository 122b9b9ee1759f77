use Rattle.std.proofs.Common.{refl}
use Rattle.segbase.proofs.GivenUp.{closes_all}
use Rattle.segbase.proofs.board.Board.close_all.Goals as goal

pub returns : goal.returns
returns c = closes_all c.args.self c.args.passes.items c.requires c.give_up-ended.result.id c.give_up-ended.result.me.0 _ _ refl c.give_up-ended.ensures.views c.close_with.ensures.values.2
